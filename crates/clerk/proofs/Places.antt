-- What places add one behind the other: what a walk over them has come to. Assumes nothing.
use Prim.Native.Nat.{ℕ, zero, suc, ◌+◌}
use mathlib.Core.Path.{◌≡◌, ap, ◌∙◌}
use native.Mathlib.Omega.{arith}

abbrev pub over : {A : Type 0} → (A → ℕ → A) → A → ℕ → A
over add a zero = a
over add a (suc p) = add (over add a p) p

-- one place more
pub one_more : {A : Type 0} (add : A → ℕ → A) (a : A) (p : ℕ) {x y : A} → x ≡ over add a p → y ≡ add x p → y ≡ over add a (p + 1)
one_more add a p e q = let next : p + 1 ≡ suc p = omega arith in rw next (q ∙ ap (λ x. add x p) e)
