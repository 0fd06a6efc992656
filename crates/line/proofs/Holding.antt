-- A held block: one that was asked for or gave way; only while the line is receiving, or in the call that ends that. Assumes nothing.
use Prim.Native.Nat.{ℕ}
use mathlib.Core.Path.{◌≡◌, refl, sym, ◌∙◌}
use mathlib.Core.List.{List}
use mathlib.Core.Bool.{Bool, true, false, false≢true}
use mathlib.Core.Logic.{◌⊎◌, inl, inr, ⊎_elim}
use Rattle.line.specs.Line.{line_at, stays, drained_of, settle_idle, settle_of}
use Rattle.line.specs.History.{Call, byte, tick, drained, ask, withdraw, settle, none, ours_at, theirs_at, called}
use Rattle.line.specs.Theorems.{asks, HeldWhileReceiving, SendsWhatIsAsked}
use Rattle.line.proofs.Cases.{ByByte, by_byte, ByTick, by_tick, by_settle}
use Rattle.line.proofs.Invariant.{Free}
use Rattle.line.proofs.Always.{always, after_one}
use Rattle.line.specs.declared.phase.Phase.{Phase}
use Rattle.line.specs.declared.phase.Phase.TheVariants.{Idle, WaitEot, Draining, WaitAck, WaitLength, Body, Silence}
use Rattle.settings.specs.declared.limits.Limits.{Limits}
use Rattle.line.specs.declared.step.Step.{Step}

-- held and not held
both : {A : Type 0} {h : Bool} → h ≡ false → h ≡ true → A
both f z = absurd (false≢true (sym f ∙ z))

settled : (h : Bool) (p : Phase) → Free p h → (settle_of (line_at h p)).line.held ≡ true → theirs_at (settle_of (line_at h p)).line.phase ≡ true
unfolding settle_idle
settled true Idle f z = absurd (false≢true z)
settled false Idle f z = absurd (false≢true z)
settled h (WaitEot timer tries) f z = both f z
settled h (Draining tries) f z = both f z
settled h (WaitAck timer tries) f z = both f z
settled h (WaitLength timer) f z = refl
settled h (Body timer a) f z = refl
settled h (Silence timer fault) f z = refl

not_sending : (h : Bool) (p : Phase) → Free p h → h ≡ true → ours_at p ≡ none
not_sending h Idle f z = refl
not_sending h (WaitEot timer tries) f z = both f z
not_sending h (Draining tries) f z = both f z
not_sending h (WaitAck timer tries) f z = both f z
not_sending h (WaitLength timer) f z = refl
not_sending h (Body timer a) f z = refl
not_sending h (Silence timer fault) f z = refl

-- a step that leaves a block held was made while receiving, or leaves the line receiving
abbrev Receiving : Phase → Step → Type 0
Receiving p s = s.line.held ≡ true → (theirs_at p ≡ true) ⊎ (theirs_at s.line.phase ≡ true)

module _ (c : Limits) (h : Bool) where
  till_byte : (p : Phase) (b : ℕ) → Free p h → (h ≡ true → theirs_at p ≡ true) → ByByte (Receiving p) c h p b
  till_byte Idle b f s = (λ z. inl (s z), λ z. inl (s z))
  till_byte (WaitEot timer tries) b f s = (λ z. both f z, λ z. inr refl, λ n z. both f z)
  till_byte (Draining tries) b f s = λ z. both f z
  till_byte (WaitAck timer tries) b f s = (λ z. both f z, λ z. both f z, λ z. both f z)
  till_byte (WaitLength timer) b f s = (λ z. inl refl, λ z. inl refl)
  till_byte (Body timer a) b f s = (λ x z. inl refl, λ z. inl refl, λ y z. inl refl)
  till_byte (Silence timer fault) b f s = λ z. inl refl

  till_tick : (p : Phase) → Free p h → (h ≡ true → theirs_at p ≡ true) → ByTick (Receiving p) c h p
  till_tick Idle f s = λ z. inl (s z)
  till_tick (WaitEot timer tries) f s = (λ z. both f z, λ z. both f z, λ z. both f z)
  till_tick (Draining tries) f s = λ z. both f z
  till_tick (WaitAck timer tries) f s = (λ z. both f z, λ z. both f z, λ z. both f z)
  till_tick (WaitLength timer) f s = (λ z. inl refl, λ z. inl refl)
  till_tick (Body timer a) f s = (λ z. inl refl, λ z. inl refl)
  till_tick (Silence timer fault) f s = (λ z. inl refl, λ z. inl refl)

  till_drained : (p : Phase) → Free p h → (h ≡ true → theirs_at p ≡ true) → Receiving p (stays (drained_of (line_at h p)))
  till_drained Idle f s = λ z. inl (s z)
  till_drained (WaitEot timer tries) f s = λ z. both f z
  till_drained (Draining tries) f s = λ z. both f z
  till_drained (WaitAck timer tries) f s = λ z. both f z
  till_drained (WaitLength timer) f s = λ z. inl refl
  till_drained (Body timer a) f s = λ z. inl refl
  till_drained (Silence timer fault) f s = λ z. inl refl

  till_the_end : (p : Phase) (rs : List ℕ) (k : Call) → Free p h → (h ≡ true → theirs_at p ≡ true) → asks k ≡ false → Receiving p (called c (line_at h p) rs k).step
  till_the_end p rs (byte b fits) f s a = by_byte (Receiving p) c h p b rs (till_byte p b f s)
  till_the_end p rs tick f s a = by_tick (Receiving p) c h p (till_tick p f s)
  till_the_end p rs drained f s a = till_drained p f s
  till_the_end p rs ask f s a = absurd (false≢true (sym a))
  till_the_end p rs withdraw f s a = λ z. absurd (false≢true z)
  till_the_end p rs settle f s a = by_settle (Receiving p) h p (λ z. absurd (false≢true z)) (λ z. inl (s z))

pub held_while_receiving : HeldWhileReceiving
held_while_receiving c t w =
    let g = always c t w in
    record {
      receiving = λ z. (after_one c t w settle).good.theirs ∙ settled t.line.held t.line.phase g.free z;
      not_sending = λ z. g.ours ∙ not_sending t.line.held t.line.phase g.free z;
      till_the_end = λ s k a z.
          ⊎_elim (λ x. inl (g.theirs ∙ x)) (λ x. inr ((after_one c t w k).good.theirs ∙ x))
          (till_the_end c t.line.held t.line.phase t.received k g.free (λ y. sym g.theirs ∙ s y) a z);
    }

pub sends_what_is_asked : SendsWhatIsAsked
sends_what_is_asked c t w =
    let last = (after_one c t w settle).good in
    record {
      held = sym (always c t w).owed;
      not_unasked = λ k z. (after_one c t w k).first z;
      not_forgotten = λ z. (held_while_receiving c t w).receiving (sym last.owed ∙ z);
    }
