-- The laws of a timer (`specs/Timer.antt`). Assumes nothing.
use Rattle.std.specs.Prelude.{Option, Some, None}
use Prim.Native.Nat.{ℕ, suc, zero, ◌+◌, ◌≤◌, ◌<◌}
use mathlib.Core.Path.{◌≡◌, refl, ap, ◌∙◌}
use mathlib.Core.Bool.{cond}
use native.Mathlib.Omega.{arith}
use lib.Dec.{ltb}
use borrow.Author.Tests.{ltb-true, ltb-false, lt-ltb, le-ltb}
use Rattle.wire.proofs.Choice.{either}
use Rattle.settings.specs.Timer.{ticked}
use Rattle.settings.specs.Theorems.{again, after_ticks, TimerRunsOut}
use Rattle.settings.specs.declared.panel.Ticks.{Ticks}

pub runs_out : (limit : Ticks) (timer : ℕ) → limit.0 ≤ timer → ticked limit timer ≡ None
unfolding ticked
runs_out limit timer h = simp (lt-ltb limit.0 (timer + 1) (omega arith))

pub runs : (limit : Ticks) (timer : ℕ) → timer < limit.0 → ticked limit timer ≡ Some (timer + 1)
unfolding ticked
runs limit timer h = simp (le-ltb limit.0 (timer + 1) (omega arith))

-- what holds where the timer runs out, and where it runs on, holds of the timer
pub by_timer : (limit : Ticks) (timer : ℕ) (P : Option ℕ → Type 0) → (limit.0 ≤ timer → P None) → (timer < limit.0 → P (Some (timer + 1))) → P (ticked limit timer)
unfolding ticked
by_timer limit timer P out on =
    either (ltb limit.0 (timer + 1)) (λ t. P (cond t None (Some (timer + 1))))
    (λ e. out (omega (arith, ltb-true))) (λ e. on (omega (arith, ltb-false)))

within : (limit : Ticks) (n : ℕ) → n ≤ limit.0 → after_ticks limit n ≡ Some n
unfolding after_ticks
within limit zero h = refl
within limit (suc n) h = ap (again limit) (within limit n (omega arith)) ∙ runs limit n (omega arith) ∙ ap Some (omega arith)

pub timer_runs_out : TimerRunsOut
unfolding after_ticks
timer_runs_out = (within, λ limit. ap (again limit) (within limit limit.0 (omega arith)) ∙ runs_out limit limit.0 (omega arith), runs_out)
