-- Tests of facts, and the number of what they choose. Assumes nothing.
use Prim.Native.Nat.{ℕ}
use mathlib.Core.Path.{◌≡◌, refl}
use mathlib.Core.Bool.{Bool, true, false, cond}
use mathlib.Core.Logic.{◌↔◌}
use Rattle.wire.proofs.Choice.{judged}

-- a test is false where its fact does not hold
pub fails : (t : Bool) (A : Type 0) → (t ≡ true ↔ A) → (A → ⊥) → t ≡ false
fails t A w n = judged t w (λ z. z ≡ false) (λ a. absurd (n a)) (λ m. refl)

-- the number of what is chosen
pub of_choice : {A : Type 0} (f : A → ℕ) (t : Bool) (x y : A) → f (cond t x y) ≡ cond t (f x) (f y)
of_choice f true x y = refl
of_choice f false x y = refl
