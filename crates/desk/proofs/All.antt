-- A test of all four places, place by place. Assumes nothing.
use Rattle.std.proofs.Common.{◌≡◌, Bool, true, false, List, [], ◌∷◌, length, get_or, refl, arith}
use Rattle.std.specs.Prelude.{◌&&◌}
use Rattle.std.specs.List.{list_all}

and_true : (b : Bool) → (b && true) ≡ b
and_true true = refl
and_true false = refl

pub all_four : {A : Type 0} (t : A → Bool) (d : A) (l : List A) → length l ≡ 4
    → list_all t l ≡ (t (get_or l 0 d) && (t (get_or l 1 d) && (t (get_or l 2 d) && t (get_or l 3 d))))
all_four t d [] e = absurd (omega arith)
all_four t d (a ∷ []) e = absurd (omega arith)
all_four t d (a ∷ b ∷ []) e = absurd (omega arith)
all_four t d (a ∷ b ∷ x ∷ []) e = absurd (omega arith)
all_four t d (a ∷ b ∷ x ∷ y ∷ []) e = rw (and_true (t y))
all_four t d (a ∷ b ∷ x ∷ y ∷ z ∷ l) e = absurd (omega arith)
