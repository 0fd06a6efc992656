-- The transactions inside the unit go through calls of the transactions. Assumes nothing.
use Prim.Native.Nat.{ℕ, ◌<◌}
use mathlib.Core.Path.{◌≡◌, refl, sym, ap, subst, ◌∙◌}
use mathlib.Core.Bool.{true, false}
use mathlib.Core.List.{List, [], ◌∷◌, ◌++◌, append-nil}
use Rattle.line.specs.Line.{Heard}
use Rattle.line.specs.History as line
use Rattle.line.specs.declared.step.Told.{Told}
use Rattle.line.specs.declared.step.Told.TheVariants as told
use Rattle.line.specs.declared.step.Remark.{Remark}
use Rattle.exchange.specs.History as exchange
use Rattle.exchange.specs.Request.{Request}
use Rattle.exchange.specs.Tick.{tick_of}
use Rattle.exchange.proofs.Runs.{track_more}
use Rattle.exchange.specs.declared.Exchange.{Exchange}
use Rattle.link.specs.Answer.{note_by}
use Rattle.link.specs.Run.{Left, has_next, hears, hearing, stepped, byte_stepped}
use Rattle.link.specs.Call.{gated}
use Rattle.link.specs.History.{Call, byte, tick, drained, request, called, unless_refused, step_in, told_on, on_exchange}
use Rattle.link.specs.Inside.{exchange_of, ExchangeGoes}
use Rattle.link.specs.declared.Midway.{Midway}
use Rattle.link.specs.declared.Link.{Link}
use Rattle.link.proofs.Cases.{by_gate, by_byte, by_put_out, by_sent, by_request, unlent_room}
use Rattle.link.proofs.Steps.{at_byte, at_tick, at_drained}

module _ (u : Link) (room : List ℕ) (j : exchange.Joined) where
  -- these calls bring the transactions and the room where the unit's are
  abbrev Leads : List exchange.Call → Exchange → List ℕ → Type 0
  Leads ks x after =
      ((exchange.track u.settings.terms (exchange_of u room j) ks).exchange ≡ x) × ((exchange.track u.settings.terms (exchange_of u room j) ks).room ≡ after)

  -- ---- what the device tells

  told_leads : (t : Told) (r : Remark) (h : Heard)
      → Leads (told_on t (has_next u) h.received) (hearing t r (hears u h) room).midway.exchange (hearing t r (hears u h) room).room
  unfolding exchange.track
  told_leads told.Nothing r h = (refl, refl)
  told_leads told.PutOut r h =
      by_put_out (λ more (x : Exchange). Leads (told_on told.PutOut more h.received) x room) (has_next u) u.exchange (λ on. (refl, refl)) (λ last. (refl, refl))
  told_leads told.Sent r h =
      by_sent (λ more (m : Midway). Leads (told_on told.Sent more h.received) m.exchange room) (has_next u) u.exchange (note_by r)
      (λ e. (refl, refl)) (λ e. (refl, refl))
  told_leads told.Failed r h = (refl, refl)
  told_leads (told.Up n) r h = (refl, refl)

  -- and time
  no_more : (ks : List exchange.Call) (x : Exchange) (after : List ℕ) → Leads ks x after → Leads (ks ++ []) x after
  no_more ks x after w = subst (λ js. Leads js x after) (sym (append-nil ks)) w

  then_tick : (ks : List exchange.Call) (x : Exchange) (after : List ℕ) → Leads ks x after
      → Leads (ks ++ (exchange.tick ∷ [])) (tick_of u.settings.terms x).exchange after
  unfolding exchange.track
  then_tick ks x after w =
      let c = u.settings.terms in
      let e = track_more c (exchange_of u room j) _ ks (exchange.tick ∷ []) refl in
      (ap (λ (t : exchange.Track). t.exchange) e ∙ ap (λ (y : Exchange). (tick_of c y).exchange) w.0, ap (λ (t : exchange.Track). t.room) e ∙ w.1)

  abbrev After : List exchange.Call → Left → Type 0
  After ks l = Leads (unless_refused l.answer.outcome ks) l.answer.link.exchange l.room

  -- behind a step of the line
  module _ (k : line.Call) (lent : List ℕ) where
    abbrev made : Heard
    made = line.called u.settings.limits u.line u.received k

    abbrev tells : List exchange.Call
    tells = told_on made.step.told (has_next u) made.received

    step_leads : After (tells ++ []) (stepped false u made room lent)
    step_leads = no_more tells _ _ (told_leads made.step.told made.step.remark made)

    tick_leads : After (tells ++ (exchange.tick ∷ [])) (stepped true u made room lent)
    tick_leads = then_tick tells _ _ (told_leads made.step.told made.step.remark made)

  -- where the whole block leaves they are told as in any step
  byte_leads : (b : ℕ) (fits : b < 256) (lent : List ℕ) → After (on_exchange u (byte b fits)) (byte_stepped u (step_in u (byte b fits)) room lent)
  unfolding exchange.track
  byte_leads b fits lent =
      let lead = step_leads (line.byte b fits) lent in
      by_byte (λ p l. After (on_exchange u (byte b fits)) l) u (step_in u (byte b fits)) room lent (λ e. lead) (λ c e. lead) (λ e. lead)

  -- ---- a request

  request_leads : (r : Request) (lent : List ℕ) → After (exchange.request r ∷ []) (called u room lent (request r))
  unfolding exchange.track
  request_leads r lent =
      by_request u r room lent (After (exchange.request r ∷ [])) (λ n e. (refl, refl)) (λ p e k. (refl, refl))
      (λ p e k. (refl, unlent_room u r room k)) (λ n. (refl, refl))

  -- ---- any call

  shut_out : (ks : List exchange.Call) (l : Left) (lent : List ℕ) → After ks l → After ks (gated u room lent l)
  unfolding exchange.track
  shut_out ks l lent w = by_gate (After ks) u room lent l (λ r e. (refl, refl)) (λ e. w)

  called_leads : (lent : List ℕ) (k : Call) → After (on_exchange u k) (called u room lent k)
  called_leads lent (byte b fits) = shut_out (on_exchange u (byte b fits)) _ lent (at_byte (λ h. After (on_exchange u (byte b fits)) (byte_stepped u h room lent)) u b fits (byte_leads b fits lent))
  called_leads lent tick = shut_out (on_exchange u tick) _ lent (at_tick (λ h. After (on_exchange u tick) (stepped true u h room lent)) u (tick_leads line.tick lent))
  called_leads lent drained = shut_out (on_exchange u drained) _ lent (at_drained (λ h. After (on_exchange u drained) (stepped false u h room lent)) u (step_leads line.drained lent))
  called_leads lent (request r) = request_leads r lent

pub exchange_goes : ExchangeGoes
exchange_goes u room o k j = let w = called_leads u room j o k in record { exchange = w.0; room = w.1 }
