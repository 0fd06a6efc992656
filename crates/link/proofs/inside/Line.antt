-- The line inside the unit goes through calls of a line, and no call changes the settings. Assumes nothing.
use Prim.Native.Nat.{ℕ, ◌<◌}
use mathlib.Core.Path.{◌≡◌, refl, sym, ◌∙◌}
use mathlib.Core.Bool.{Bool, true, false, cond, false≢true}
use mathlib.Core.List.{List, [], ◌∷◌}
use Rattle.line.specs.Line.{Heard}
use Rattle.line.specs.History as line
use Rattle.line.specs.declared.step.Told.{Told}
use Rattle.line.specs.declared.step.Told.TheVariants as told
use Rattle.exchange.specs.Reports.{same_message}
use Rattle.exchange.specs.Request.{Request, lends, is_sending}
use Rattle.exchange.specs.declared.Exchange.{Exchange}
use Rattle.link.specs.Courier.{carried, courier_by}
use Rattle.link.specs.Run.{Left, closed, hears, passing, stepped, byte_stepped}
use Rattle.link.specs.Call.{gated}
use Rattle.link.specs.History.{Call, byte, tick, drained, request, called, unless_refused, step_in, heard_by, couriers, settling, settles, couriers_in, on_line}
use Rattle.link.specs.Inside.{line_of, SettingsKept, LineGoes}
use Rattle.link.specs.declared.Link.{Link}
use Rattle.link.proofs.Cases.{by_gate, by_byte, by_request, answering}
use Rattle.link.proofs.Steps.{at_byte, at_tick, at_drained}
use Rattle.link.proofs.inside.Courier.{by_courier}

-- unit v is where these calls bring the line and the received bytes of unit u, at the same settings
abbrev Leads : Link → line.Seen → List line.Call → Link → Type 0
Leads u s ks v =
    ((line.track u.settings.limits (line_of u s) ks).line ≡ v.line) × ((line.track u.settings.limits (line_of u s) ks).received ≡ v.received)
    × (v.settings ≡ u.settings)

-- the courier's calls, and settling behind them
courier_leads : (u : Link) (s : line.Seen) (same before after : Bool) (t : Told) (x : Exchange)
    → Leads u s (settling (couriers same before after t)) (closed u (courier_by same before after t u.line u.block) x)
unfolding line.track
courier_leads u s same before after t x =
    by_courier (λ ks m. Leads u s (settling ks) (closed u (carried m u.block) x)) u.line u.block (refl, refl, refl) (refl, refl, refl) (refl, refl, refl)
    same before after t

-- a step of the line, and what is behind it
module _ (v : Link) (s : line.Seen) (k : line.Call) (ticks : Bool) (room o : List ℕ) where
  abbrev made : Heard
  made = line.called v.settings.limits v.line v.received k

  abbrev last : Exchange
  last = (passing ticks v.settings.terms (heard_by v made room).midway).exchange

  abbrev carry : List line.Call
  carry = couriers (same_message v.exchange.sending last.sending) (is_sending v.exchange) (is_sending last) made.step.told

  step_leads : Leads v s (k ∷ settling carry) (stepped ticks v made room o).answer.link
  unfolding line.track
  step_leads =
      courier_leads (hears v made) (line.sees s k made.step.out made.step.told made.step.remark)
      (same_message v.exchange.sending last.sending) (is_sending v.exchange) (is_sending last) made.step.told last

module _ (u : Link) (s : line.Seen) (room o : List ℕ) where
  abbrev After : List line.Call → Left → Type 0
  After ks l = Leads u s (unless_refused l.answer.outcome ks) l.answer.link

  shut_out : (ks : List line.Call) (l : Left) → After ks l → After ks (gated u room o l)
  unfolding line.track
  shut_out ks l w = by_gate (After ks) u room o l (λ r e. (refl, refl, refl)) (λ e. w)

  byte_leads : (b : ℕ) (fits : b < 256) → After (on_line u room (byte b fits)) (byte_stepped u (step_in u (byte b fits)) room o)
  unfolding line.track
  byte_leads b fits =
      let lead = step_leads u s (line.byte b fits) false room o in
      by_byte (λ p l. After (line.byte b fits ∷ settles p (couriers_in u room (byte b fits))) l) u (step_in u (byte b fits)) room o
      (λ e. lead) (λ c e. lead) (λ e. (refl, refl, refl))

  request_leads : (r : Request) → After (on_line u room (request r)) (called u room o (request r))
  unfolding line.track
  request_leads r = by (lends r) refl
    where
      by : (t : Bool) → lends r ≡ t → After (cond t (settling (couriers_in u room (request r))) []) (called u room o (request r))
      by true l =
          by_request u r room o (After (settling (couriers_in u room (request r)))) (λ n e. (refl, refl, refl))
          (λ p e k.
          let x = (answering u r room).answer.exchange in
          courier_leads u s (same_message u.exchange.sending x.sending) (is_sending u.exchange) (is_sending x) told.Nothing x)
          (λ p e k. absurd (false≢true (sym k ∙ l))) (λ n. (refl, refl, refl))
      by false l =
          by_request u r room o (After []) (λ n e. (refl, refl, refl)) (λ p e k. absurd (false≢true (sym l ∙ k))) (λ p e k. (refl, refl, refl)) (λ n. (refl, refl, refl))

  called_leads : (k : Call) → After (on_line u room k) (called u room o k)
  called_leads (byte b fits) = shut_out (on_line u room (byte b fits)) _ (at_byte (λ h. After (on_line u room (byte b fits)) (byte_stepped u h room o)) u b fits (byte_leads b fits))
  called_leads tick = shut_out (on_line u room tick) _ (at_tick (λ h. After (on_line u room tick) (stepped true u h room o)) u (step_leads u s line.tick true room o))
  called_leads drained = shut_out (on_line u room drained) _ (at_drained (λ h. After (on_line u room drained) (stepped false u h room o)) u (step_leads u s line.drained false room o))
  called_leads (request r) = request_leads r

pub line_goes : LineGoes
line_goes u room o k s = let w = called_leads u s room o k in record { line = w.0; received = w.1 }

pub settings_kept : SettingsKept
settings_kept u room o k = (called_leads u line.nothing_seen room o k).2
