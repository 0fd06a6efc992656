-- The laws of a retry. Assumes nothing.
use Prim.Native.Nat.{ℕ, ◌+◌, ◌≤◌, ◌<◌}
use mathlib.Core.Path.{◌≡◌}
use mathlib.Core.Bool.{true, false}
use borrow.Author.Tests.{lt-ltb, le-ltb, ltb-true, ltb-false}
use Rattle.wire.proofs.Choice.{chosen}
use Rattle.line.specs.Line.{spent, fails, again, retry_of}
use Rattle.settings.specs.declared.limits.Limits.{Limits}
use Rattle.line.specs.declared.line.Line.{Line}
use Rattle.line.specs.declared.step.Step.{Step}

-- "Above RTY", and not
pub above : (c : Limits) (tries : ℕ) → c.rty < tries + 1 → spent c tries ≡ true
unfolding spent
above c tries h = lt-ltb c.rty (tries + 1) h

pub not_above : (c : Limits) (tries : ℕ) → tries + 1 ≤ c.rty → spent c tries ≡ false
unfolding spent
not_above c tries h = le-ltb c.rty (tries + 1) h

is_above : (c : Limits) (tries : ℕ) → spent c tries ≡ true → c.rty < tries + 1
unfolding spent
is_above c tries e = ltb-true c.rty (tries + 1) e

is_not_above : (c : Limits) (tries : ℕ) → spent c tries ≡ false → tries + 1 ≤ c.rty
unfolding spent
is_not_above c tries e = ltb-false c.rty (tries + 1) e

-- a retry fails, or puts out one ENQ more
pub retried :
    (P : Step → Type 0) (c : Limits) (l : Line) (tries : ℕ)
    → (c.rty < tries + 1 → P (fails l)) → (tries + 1 ≤ c.rty → P (again l tries)) → P (retry_of c l tries)
unfolding retry_of
retried P c l tries over on = chosen P (spent c tries) (fails l) (again l tries) (λ i. over (is_above c tries i)) (λ i. on (is_not_above c tries i))
