-- Which place of a table is meant.
use Rattle.std.specs.Prelude.{ℕ, ◌+◌, Bool, cond, List, [], ◌∷◌, Option, Some, None}

-- the first that is marked, counted from i
unfoldable pub first_from : ℕ → List Bool → Option ℕ
first_from i [] = None
first_from i (b ∷ bs) = cond b (Some i) (first_from (i + 1) bs)

-- the lowest place that is marked
unfoldable pub first_of : List Bool → Option ℕ
first_of bs = first_from 0 bs
