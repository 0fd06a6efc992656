-- The step that a call makes on the line is the line's own (`StepIsLines`, specs/Device.antt): what holds by the line's holds by the
-- unit's words for it. Assumes nothing.
use Prim.Native.Nat.{ℕ, ◌<◌}
use mathlib.Core.Path.{refl, sym, subst}
use Rattle.line.specs.Line.{Heard}
use Rattle.link.specs.Run.{byte_step, tick_step, drained_step}
use Rattle.link.specs.History.{byte, tick, drained, step_in}
use Rattle.link.specs.Device.{StepIsLines}
use Rattle.link.specs.declared.Link.{Link}

pub step_is_lines : StepIsLines
step_is_lines = record { byte = λ u b fits. refl; tick = λ u. refl; drained = λ u. refl }

module _ (P : Heard → Type 0) (u : Link) where
  pub at_byte : (b : ℕ) (fits : b < 256) → P (step_in u (byte b fits)) → P (byte_step u b)
  at_byte b fits w = subst P (sym (step_is_lines.byte u b fits)) w

  pub at_tick : P (step_in u tick) → P (tick_step u)
  at_tick w = subst P (sym (step_is_lines.tick u)) w

  pub at_drained : P (step_in u drained) → P (drained_step u)
  at_drained w = subst P (sym (step_is_lines.drained u)) w
