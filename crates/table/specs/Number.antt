-- Transaction numbers (E4 6.8; 01, "Messages").
use Rattle.std.specs.Prelude.{ℕ, zero, suc, ◌+◌, ◌%◌, Bool, false, cond, ◌||◌, List, [], ◌∷◌, map, eqb}
use Rattle.place.specs.Own.{primary_of, own_is_free}
use Rattle.place.specs.declared.Own.{Own}

-- "System bytes: the caller's 16-bit source ID, then the number."
unfoldable pub number_of : Own → ℕ
number_of o = (primary_of o).system % 65536

-- the number in a place in use; 0, which is no number, of a free one
unfoldable pub held_number : Own → ℕ
held_number o = cond (own_is_free o) 0 (number_of o)

-- "65,535 being followed by 1"
unfoldable pub following : ℕ → ℕ
following n = cond (eqb n 65535) 1 (n + 1)

-- n is one of the list
unfoldable pub among : ℕ → List ℕ → Bool
among n [] = false
among n (m ∷ ms) = eqb m n || among n ms

-- the first number after n that is none of `passed`, looked for among k candidates
unfoldable pub first_after : ℕ → List ℕ → ℕ → ℕ
first_after zero passed n = n
first_after (suc k) passed n = cond (among (following n) passed) (first_after k passed (following n)) (following n)

-- what is passed over: that of the latest transaction to get a verdict, and those in own places in use
abbrev pub passed_over : List Own → ℕ → List ℕ
passed_over os latest = latest ∷ map held_number os

-- five numbers are passed over at most, so one of six candidates is left
unfoldable pub next_number : List Own → ℕ → ℕ → ℕ
next_number os last latest = first_after 6 (passed_over os latest) last
