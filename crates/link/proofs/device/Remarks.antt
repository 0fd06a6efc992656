-- A step of the line that tells of a block remarks nothing: the note of such a call is the block's. Assumes nothing.
use Prim.Native.Nat.{ℕ}
use mathlib.Core.Path.{◌≡◌, refl, sym, ◌∙◌}
use mathlib.Core.Bool.{Bool, false≢true}
use mathlib.Core.Logic.{◌⊎◌, inl, inr, ⊎_elim}
use Rattle.settings.specs.declared.limits.Limits.{Limits}
use Rattle.line.proofs.Alone.{ticks_tell}
use Rattle.line.proofs.Cases.{ByByte, by_byte}
use Rattle.line.specs.declared.phase.Phase.{Phase}
use Rattle.line.specs.declared.phase.Phase.TheVariants.{Idle, WaitEot, Draining, WaitAck, WaitLength, Body, Silence}
use Rattle.line.specs.declared.step.Step.{Step}
use Rattle.line.specs.declared.step.Told.TheVariants as told
use Rattle.line.specs.declared.step.Remark.TheVariants as remark
use Rattle.link.specs.History.{Call, byte, tick, drained, request, step_in}
use Rattle.link.specs.declared.Link.{Link}

abbrev Apart : Step → Type 0
Apart s = (s.told ≡ told.Nothing) ⊎ (s.remark ≡ remark.Nothing)

byte_apart : (c : Limits) (h : Bool) (p : Phase) (b : ℕ) → ByByte Apart c h p b
byte_apart c h Idle b = (inl refl, inl refl)
byte_apart c h (WaitEot timer tries) b = (inr refl, inl refl, λ n. inl refl)
byte_apart c h (Draining tries) b = inl refl
byte_apart c h (WaitAck timer tries) b = (inr refl, inr refl, inl refl)
byte_apart c h (WaitLength timer) b = (inl refl, inl refl)
byte_apart c h (Body timer a) b = (λ x. inl refl, inr refl, λ f. inl refl)
byte_apart c h (Silence timer fault) b = inl refl

pub up_unremarked : (u : Link) (k : Call) (n : ℕ) → (step_in u k).step.told ≡ told.Up n → (step_in u k).step.remark ≡ remark.Nothing
up_unremarked u (byte b fits) n e =
    let c = u.settings.limits in
    let l = u.line in
    ⊎_elim (λ z. absurd (silent (sym z ∙ e))) (λ z. z) (by_byte Apart c l.held l.phase b u.received (byte_apart c l.held l.phase b))
  where
    silent : told.Nothing ≡ told.Up n → ⊥
    silent z = false≢true cc
up_unremarked u tick n e = absurd ((ticks_tell u.settings.limits u.line).not_up n e)
up_unremarked u drained n e = refl
up_unremarked u (request r) n e = refl
