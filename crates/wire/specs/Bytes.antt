-- Bytes in a list, and numbers made of two or four of them.
use Rattle.std.specs.Prelude.{ℕ, ◌+◌, ◌*◌, ◌/◌, ◌%◌, ◌<◌, List, [], ◌∷◌, slice_index, slice_range}

-- every element is a byte
pub record Bytes (l : List ℕ) : Type 0 where
  pub at : (i : ℕ) → slice_index l i < 256

-- the bytes of l from index a up to index e, without that one
unfoldable pub part : ℕ → ℕ → List ℕ → List ℕ
part a e l = slice_range l a e

-- two bytes as one number, the high order byte first
abbrev pub pair_of : ℕ → ℕ → ℕ
pair_of high low = high * 256 + low

-- a number as two bytes: "The high order eight bits .. first, followed by the low order eight bits" (E4 5.7)
abbrev pub halves_of : ℕ → List ℕ
halves_of x = x / 256 ∷ x % 256 ∷ []

-- four bytes as one number, the high order byte first
abbrev pub quad_of : ℕ → ℕ → ℕ → ℕ → ℕ
quad_of a b c d = pair_of (pair_of (pair_of a b) c) d

-- a number of 32 bits as four bytes, the high order byte first
abbrev pub quarters_of : ℕ → List ℕ
quarters_of x = (x / 16777216 % 256) ∷ (x / 65536 % 256) ∷ (x / 256 % 256) ∷ (x % 256) ∷ []
