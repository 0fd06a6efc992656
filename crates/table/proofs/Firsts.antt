-- The laws of `specs/Find.antt`: a walk that has come to place i, and what was found. Assumes nothing.
use Rattle.std.specs.Prelude.{Option, Some, None}
use Prim.Native.Nat.{ℕ, ◌+◌, ◌≤◌, ◌<◌}
use mathlib.Core.Path.{◌≡◌, sym, ap, ◌∙◌}
use mathlib.Core.Bool.{Bool, true, false, cond}
use mathlib.Core.List.{List}
use native.Mathlib.Numerals.{add-one}
use lib.ListN.{length, drop, get_or, drop_of_length-le}
use lib.Seq.{drop-cons}
use Rattle.table.specs.Find.{first_from}

-- a walk that has come to place i, with the answer r still ahead
module _ (l : List Bool) (i : ℕ) where
  -- the answer by place i
  pub ahead : i < length l → first_from i (drop i l) ≡ cond (get_or l i false) (Some i) (first_from (i + 1) (drop (i + 1) l))
  unfolding first_from
  ahead h = ap (first_from i) (drop-cons l i false h) ∙ rw (add-one i)

  -- place i is marked
  pub hit : {r : Option ℕ} → first_from i (drop i l) ≡ r → i < length l → get_or l i false ≡ true → Some i ≡ r
  hit inv h e = sym (ahead h ∙ rw e) ∙ inv

  -- it is not
  pub miss : {r : Option ℕ} → first_from i (drop i l) ≡ r → i < length l → get_or l i false ≡ false → first_from (i + 1) (drop (i + 1) l) ≡ r
  miss inv h e = sym (ahead h ∙ rw e) ∙ inv

  -- no place is ahead
  pub none : {r : Option ℕ} → first_from i (drop i l) ≡ r → length l ≤ i → None ≡ r
  unfolding first_from
  none inv h = sym (rw (drop_of_length-le l h)) ∙ inv
