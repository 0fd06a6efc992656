-- Tables of four: their length, as owning them tells it, and what a function makes of each place. Assumes nothing.
use Prim.Native.Nat.{ℕ, zero, suc, ◌<◌}
use mathlib.Core.Path.{◌≡◌, refl, sym, ◌∙◌}
use mathlib.Core.List.{List, [], ◌∷◌, map}
use native.Mathlib.Omega.{arith}
use native.Mathlib.Nat.{not-suc-le-zero, le_of_suc-le-suc}
use lib.ListN.{length, get_or, length-map, get_or-map}

-- the length of an array of structs, from what owning it tells: listed after `needs`
pub unmapped : {X Y : Type 0} (f : X → Y) (l : List X) (n : ℕ) → length (map f l) ≡ n → length l ≡ n
unmapped f l n e = sym (length-map l f) ∙ e

-- four results, one for each place
pub map_four : {A B : Type 0} (f : A → B) (d : A) (l : List A) → length l ≡ 4
    → f (get_or l 0 d) ∷ f (get_or l 1 d) ∷ f (get_or l 2 d) ∷ f (get_or l 3 d) ∷ [] ≡ map f l
map_four f d [] e = absurd (omega arith)
map_four f d (a ∷ []) e = absurd (omega arith)
map_four f d (a ∷ b ∷ []) e = absurd (omega arith)
map_four f d (a ∷ b ∷ x ∷ []) e = absurd (omega arith)
map_four f d (a ∷ b ∷ x ∷ y ∷ []) e = refl
map_four f d (a ∷ b ∷ x ∷ y ∷ z ∷ l) e = absurd (omega arith)

-- a place of the table is what it is, whatever stands for one outside
pub within : {A : Type 0} (l : List A) (i : ℕ) (d e : A) → i < length l → get_or l i d ≡ get_or l i e
within [] i d e h = absurd (not-suc-le-zero h)
within (a ∷ l) zero d e h = refl
within (a ∷ l) (suc i) d e h = within l i d e (le_of_suc-le-suc h)

-- what a function makes of a place stands there
pub map_at : {A B : Type 0} (f : A → B) (l : List A) (i : ℕ) (d : A) (e : B) → i < length l → get_or (map f l) i e ≡ f (get_or l i d)
map_at f l i d e h = within (map f l) i e (f d) (omega (arith, length-map l f)) ∙ get_or-map f l i d
