-- The courier's calls of the line (`specs/History.antt`): where the line and the transactions agree on whether a message is being sent, it
-- asks for a message's next block, for an accepted message and for a report that starts, has a message withdrawn that is over, and else makes
-- no call. Assumes nothing.
use Rattle.std.specs.Prelude.{Ok}
use Prim.Native.Nat.{ℕ, ◌<◌}
use mathlib.Core.Path.{◌≡◌, refl, sym, ap, subst, ◌∙◌}
use mathlib.Core.Bool.{Bool, true, false, not}
use mathlib.Core.List.{List, [], ◌∷◌}
use mathlib.Core.Logic.{inl, inr}
use Rattle.wire.proofs.Choice.{either}
use Rattle.line.specs.Line.{Heard, busy}
use Rattle.line.specs.History as line
use Rattle.line.specs.Theorems.{Turns, BusySteps}
use Rattle.line.specs.declared.step.Told.{Told}
use Rattle.line.specs.declared.step.Told.TheVariants as told
use Rattle.exchange.specs.Reports.{same_message}
use Rattle.exchange.specs.Request.{Request, lends, sending_by, is_sending}
use Rattle.exchange.proofs.BeingSent.{request_sends}
use Rattle.exchange.proofs.Unreported.{idle}
use Rattle.exchange.proofs.Same.{same_message_lem, message_same, other_message, message_other}
use Rattle.exchange.proofs.Runs.{Sound}
use Rattle.exchange.proofs.Another.{Numbered}
use Rattle.exchange.specs.declared.Sending.{Sending}
use Rattle.exchange.specs.declared.Exchange.{Exchange}
use Rattle.link.specs.Run.{passing}
use Rattle.link.specs.History.{Call, byte, tick, drained, request, step_in, heard_by, exchange_in, couriers, settling, settles, on_line}
use Rattle.link.specs.declared.Link.{Link}
use Rattle.link.proofs.Cases.{answering}
use Rattle.link.proofs.inside.Courier.{clash, Goes, goes_on_by, over_sends, told_sends}

-- ---- what becomes of what is being sent

-- it is the same as before; another one is being sent; it was, and none is
pub data Fate : Type 0 where
  going begun ended : Fate

abbrev pub fate_of : Bool → Bool → Fate
fate_of true after = going
fate_of false true = begun
fate_of false false = ended

-- whether it is another one, or none any more
abbrev pub is_other : Fate → Bool
is_other going = false
is_other begun = true
is_other ended = true

pub is_other_lem : (same after : Bool) → not same ≡ is_other (fate_of same after)
is_other_lem true after = refl
is_other_lem false true = refl
is_other_lem false false = refl

-- by that, and by what is told
abbrev pub called_for : Fate → Told → List line.Call
called_for going told.Nothing = []
called_for going told.PutOut = []
called_for going told.Sent = line.ask ∷ []
called_for going told.Failed = []
called_for going (told.Up n) = []
called_for begun t = line.ask ∷ []
called_for ended t = line.withdraw ∷ []

-- a message that goes on, or none was being sent and a report may begin; one that is over
abbrev pub OnMay : Bool → Fate → Type 0
OnMay before going = Unit {0}
OnMay before begun = before ≡ false
OnMay before ended = ⊥

abbrev pub OffMay : Fate → Type 0
OffMay going = ⊥
OffMay begun = Unit {0}
OffMay ended = Unit {0}

-- what may become of it, by what is told and by whether one was being sent
abbrev pub May : Told → Bool → Fate → Type 0
May told.Nothing before f = OnMay before f
May told.PutOut before f = OnMay before f
May told.Sent before f = Unit {0}
May told.Failed before f = OffMay f
May (told.Up n) before f = Unit {0}

-- ---- a step of the line

fate_calls : (same before after : Bool) (t : Told) → (same ≡ true → before ≡ after) → (same ≡ false → after ≡ false → before ≡ true)
    → (line.is_over t ≡ true → before ≡ true) → couriers same before after t ≡ called_for (fate_of same after) t
fate_calls true true true told.Nothing s o v = refl
fate_calls true true true told.PutOut s o v = refl
fate_calls true true true told.Sent s o v = refl
fate_calls true true true told.Failed s o v = refl
fate_calls true true true (told.Up n) s o v = refl
fate_calls true false false told.Nothing s o v = refl
fate_calls true false false told.PutOut s o v = refl
fate_calls true false false told.Sent s o v = clash (v refl)
fate_calls true false false told.Failed s o v = refl
fate_calls true false false (told.Up n) s o v = refl
fate_calls true true false t s o v = clash (sym (s refl))
fate_calls true false true t s o v = clash (s refl)
fate_calls false true true t s o v = refl
fate_calls false false true t s o v = refl
fate_calls false true false t s o v = refl
fate_calls false false false t s o v = clash (o refl refl)

module _ (z y : Sending) where
  -- what becomes of z, where y is being sent then
  abbrev pub fate : Fate
  fate = fate_of (same_message z y) (sending_by y)

  told_calls : (t : Told) → (line.is_over t ≡ true → sending_by z ≡ true) → couriers (same_message z y) (sending_by z) (sending_by y) t ≡ called_for fate t
  told_calls t over =
      fate_calls (same_message z y) (sending_by z) (sending_by y) t (λ e. ap sending_by (same_message_lem z y e))
      (λ e none.
      either (sending_by z) (λ b. b ≡ true) (λ s. refl) (λ s. absurd (message_other z y e (idle z s ∙ sym (idle y none)))))
      over

  on_may : Goes true z y → OnMay (sending_by z) fate
  on_may (inl e) = rw (message_same z y (sym e)) tt
  on_may (inr w) = by (same_message z y) refl (sending_by y) refl
    where
      by : (s : Bool) → same_message z y ≡ s → (a : Bool) → sending_by y ≡ a → OnMay (sending_by z) (fate_of s a)
      by true e a f = tt
      by false e true f = ap sending_by w.was
      by false e false f = message_other z y e (w.was ∙ sym (idle y f))

  off_may : Goes false z y → OffMay fate
  off_may w = rw (other_message z y (λ e. w.0 (sym e))) (either (sending_by y) (λ a. OffMay (fate_of false a)) (λ _. tt) (λ _. tt))

  told_may : (u : Link) (x : Exchange) (t : Told) → Goes (goes_on_by t u x) z y → May t (sending_by z) fate
  told_may u x told.Nothing g = on_may g
  told_may u x told.PutOut g = on_may g
  told_may u x told.Sent g = tt
  told_may u x told.Failed g = off_may g
  told_may u x (told.Up n) g = tt

-- in a call
abbrev pub fate_in : Link → List ℕ → Call → Fate
fate_in u room k = fate u.exchange.sending (exchange_in u room k).sending

-- ---- a call

module _
    (u : Link) (room : List ℕ) (sound : Sound u.exchange) (numbered : Numbered u.exchange) (same : is_sending u.exchange ≡ busy u.line)
    (turns : BusySteps u.settings.limits u.line)
  where
    module _ (h : Heard) (ticks : Bool) (w : Turns h.step.told (busy u.line) (busy h.step.line)) where
      abbrev z : Sending
      z = u.exchange.sending

      abbrev t : Told
      t = h.step.told

      abbrev y : Sending
      y = (passing ticks u.settings.terms (heard_by u h room).midway).exchange.sending

      over : line.is_over t ≡ true → sending_by z ≡ true
      over e = same ∙ over_sends t (busy u.line) (busy h.step.line) w e

      step_calls : couriers (same_message z y) (sending_by z) (sending_by y) t ≡ called_for (fate z y) t
      step_calls = told_calls z y t over

      step_may : May t (busy u.line) (fate z y)
      step_may =
          subst (λ b. May t b (fate z y)) same
          (told_may z y u (heard_by u h room).midway.exchange t (told_sends u h room sound numbered ticks t h.step.remark over))

    pub byte_calls :
        (b : ℕ) (fits : b < 256)
        → on_line u room (byte b fits)
        ≡ line.byte b fits ∷ settles (step_in u (byte b fits)).step.out (called_for (fate_in u room (byte b fits)) (step_in u (byte b fits)).step.told)
    byte_calls b fits =
        ap (λ ks. line.byte b fits ∷ settles (step_in u (byte b fits)).step.out ks) (step_calls (step_in u (byte b fits)) false (turns.byte b u.received).turns)

    pub byte_may : (b : ℕ) (fits : b < 256) → May (step_in u (byte b fits)).step.told (busy u.line) (fate_in u room (byte b fits))
    byte_may b fits = step_may (step_in u (byte b fits)) false (turns.byte b u.received).turns

    pub tick_calls : on_line u room tick ≡ line.tick ∷ settling (called_for (fate_in u room tick) (step_in u tick).step.told)
    tick_calls = ap (λ ks. line.tick ∷ settling ks) (step_calls (step_in u tick) true turns.tick.turns)

    pub tick_may : May (step_in u tick).step.told (busy u.line) (fate_in u room tick)
    tick_may = step_may (step_in u tick) true turns.tick.turns

-- nothing is told
pub drained_calls : (u : Link) (room : List ℕ) → on_line u room drained ≡ line.drained ∷ line.settle ∷ []
drained_calls u room =
    let z = u.exchange.sending in
    ap (λ ks. line.drained ∷ settling ks)
    (told_calls z z told.Nothing (λ e. clash e) ∙ ap (λ same. called_for (fate_of same (sending_by z)) told.Nothing) (message_same z z refl))

-- a message that is accepted: none was being sent, and now one is
pub lent_calls :
    (u : Link) (room : List ℕ) (r : Request) (p : ℕ) → (answering u r room).answer.asked ≡ Ok p → lends r ≡ true
    → on_line u room (request r) ≡ line.ask ∷ line.settle ∷ []
lent_calls u room r p e lent =
    let starts = (request_sends u.settings.terms u.exchange r room).starts p e lent in
    rw (lent, starts.before, starts.after) refl

-- in a release the line has no part
pub free_calls : (u : Link) (room : List ℕ) (r : Request) → lends r ≡ false → on_line u room (request r) ≡ []
free_calls u room r free = rw free refl
