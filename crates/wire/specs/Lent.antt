-- Bytes in lent memory.
use Rattle.std.specs.Prelude.{ℕ, ◌+◌, cond, List, ◌++◌, length, take, drop, nat_le, nat_lt}

-- l with bs in the place of as many bytes from index i on
unfoldable pub splice : List ℕ → ℕ → List ℕ → List ℕ
splice l i bs = take i l ++ (bs ++ drop (i + length bs) l)

-- what lies in lent memory l once bs was to be put there from index i on: all of bs, or nothing of it where it has no room
unfoldable pub put_at : List ℕ → ℕ → List ℕ → List ℕ
put_at l i bs = cond (nat_le (i + length bs) (length l)) (splice l i bs) l

-- what lies in lent memory once p is written at its front: p, and beyond it what was there
unfoldable pub on_front : List ℕ → List ℕ → List ℕ
on_front p out = p ++ drop (length p) out

-- What putting bytes at the front of lent memory leaves: how many were put, and every byte of the memory.
pub record Filled : Type 0 where
  pub count : ℕ
  pub memory : List ℕ

abbrev pub filled : ℕ → List ℕ → Filled
filled n l = record { count = n; memory = l }

-- p at the front of memory that has room for it
abbrev pub onto : List ℕ → List ℕ → Filled
onto p out = filled (length p) (on_front p out)

-- all of p, or nothing where there is no room for all of it
unfoldable pub filled_with : List ℕ → List ℕ → Filled
filled_with p out = cond (nat_lt (length out) (length p)) (filled 0 out) (onto p out)
