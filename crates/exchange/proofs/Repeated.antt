-- Lists of which all elements are the same. Assumes nothing.
use Prim.Native.Nat.{ℕ, zero, suc}
use mathlib.Core.Path.{◌≡◌, refl, ap, ◌∙◌}
use mathlib.Core.List.{[], ◌∷◌, ◌++◌}
use native.Mathlib.Numerals.{add-one}
use lib.ListN.{get_or, replicate, replicate-append-replicate}

-- one more of the same
pub more : {A : Type 0} (a : A) (k : ℕ) → replicate k a ++ (a ∷ []) ≡ replicate (suc k) a
more a k = replicate-append-replicate k 1 a ∙ ap (λ (j : ℕ). replicate j a) (add-one k)

-- whichever is read of a table of fresh places is fresh, also beyond its end
pub any_fresh : {A : Type 0} (a : A) (n p : ℕ) → get_or (replicate n a) p a ≡ a
any_fresh a zero p = refl
any_fresh a (suc n) zero = refl
any_fresh a (suc n) (suc p) = any_fresh a n p
