-- The slots of a list, read one by one, are the list itself, whatever stands for one behind its end. Assumes nothing.
use Prim.Native.Nat.{ℕ, zero, suc, ◌+◌}
use mathlib.Core.Path.{◌≡◌, sym, ap, ◌∙◌}
use mathlib.Core.List.{List, [], ◌∷◌}
use native.Mathlib.Omega.{arith}
use lib.ListN.{length, get_or, drop, drop_of_length-le}
use lib.Seq.{drop-cons}

-- k slots from i on, with d for one that the list does not have
abbrev pub slots : {A : Type 0} → List A → A → ℕ → ℕ → List A
slots l d zero i = []
slots l d (suc k) i = get_or l i d ∷ slots l d k (suc i)

-- all from i on are what is left behind the first i
pub slots_from : {A : Type 0} (l : List A) (d : A) (k i : ℕ) → length l ≡ i + k → slots l d k i ≡ drop i l
slots_from l d zero i e = sym (drop_of_length-le l {i = i} (omega arith))
slots_from {A} l d (suc k) i e =
    ap (λ (r : List A). get_or l i d ∷ r) (slots_from l d k (suc i) (omega arith)) ∙ sym (drop-cons l i d (omega arith))
