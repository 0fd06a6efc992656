-- A byte looked for in a text, from the front.
use Prim.Native.Nat.{ℕ, suc, ◌+◌, ◌≤◌}
use mathlib.Core.Path.{◌≡◌, ap, ◌∙◌}
use mathlib.Core.Bool.{Bool, true, false}
use mathlib.Core.List.{List, [], ◌∷◌}
use native.Mathlib.Omega.{arith}
use lib.ListN.{length}
use lib.Dec.{eqb}
use borrow.Author.Tests.{eq-eqb, ne_eqb}
use Rattle.std.proofs.Common.{◌≢◌}
use Rattle.text.specs.Find.{index_after, index_of}

after_most : (t : Bool) (n m : ℕ) → n ≤ m → index_after t n ≤ suc m
unfolding index_after
after_most true n m h = omega arith
after_most false n m h = omega arith

-- a byte is found at the end at the latest
pub index_most : (b : ℕ) (text : List ℕ) → index_of b text ≤ length text
unfolding index_of
index_most b [] = omega arith
index_most b (x ∷ xs) = after_most (eqb x b) (index_of b xs) (length xs) (index_most b xs)

-- the byte that is looked for stands at the front, or as far behind it as in the rest
pub index_here : (b x : ℕ) (xs : List ℕ) → x ≡ b → index_of b (x ∷ xs) ≡ 0
unfolding index_of index_after
index_here b x xs h = ap (λ (t : Bool). index_after t (index_of b xs)) (eq-eqb x b h)

pub index_past : (b x : ℕ) (xs : List ℕ) → x ≢ b → index_of b (x ∷ xs) ≡ index_of b xs + 1
unfolding index_of index_after
index_past b x xs h =
    let further : suc (index_of b xs) ≡ index_of b xs + 1 = omega arith in
    ap (λ (t : Bool). index_after t (index_of b xs)) (ne_eqb x b h) ∙ further
