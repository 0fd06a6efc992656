-- What is proved of the definitions of this crate, over all inputs. Each proof is in `proofs/`.
use Rattle.std.specs.Prelude.{◌≡◌, ℕ, ◌+◌, ◌*◌, ◌%◌, ◌<◌, ◌≤◌, List, [], ◌∷◌, ◌++◌, length, take, drop}
use Rattle.wire.specs.Bytes.{Bytes, pair_of, halves_of, quad_of, quarters_of}
use Rattle.wire.specs.Lent.{put_at, filled_with}
use Rattle.wire.specs.Sum.{plain_sum, checksum_of, sum_with}

-- a number is two bytes and back, and two bytes are a number and back
abbrev pub NumberAndBack : Type 0
NumberAndBack = (x high low : ℕ) → halves_of x ≡ high ∷ low ∷ [] → pair_of high low ≡ x

abbrev pub TwoBytesAndBack : Type 0
TwoBytesAndBack = (high low : ℕ) → low < 256 → halves_of (pair_of high low) ≡ high ∷ low ∷ []

-- a number of 32 bits is four bytes and back, and four bytes are a number and back
abbrev pub LongAndBack : Type 0
LongAndBack = (x a b c d : ℕ) → x < 4294967296 → quarters_of x ≡ a ∷ b ∷ c ∷ d ∷ [] → quad_of a b c d ≡ x

abbrev pub FourBytesAndBack : Type 0
FourBytesAndBack = (a b c d : ℕ) → a < 256 → b < 256 → c < 256 → d < 256 → quarters_of (quad_of a b c d) ≡ a ∷ b ∷ c ∷ d ∷ []

-- a number of two bytes has these as the lower ones of its four, with two zeros before them
abbrev pub FourEndInTwo : Type 0
FourEndInTwo = (x : ℕ) → x < 65536 → quarters_of x ≡ 0 ∷ 0 ∷ halves_of x

-- "high byte first": what two bytes, and four, are as a number
abbrev pub HighFirst : Type 0
HighFirst = (a b c d : ℕ) → (pair_of a b ≡ a * 256 + b) × (quad_of a b c d ≡ a * 16777216 + b * 65536 + c * 256 + d)

-- 01: "The sum is at most 64,770 and never wraps."
abbrev pub SumNeverWraps : Type 0
SumNeverWraps = (bs : List ℕ) → Bytes bs → length bs ≤ 254 → (checksum_of bs ≡ plain_sum bs) × (checksum_of bs ≤ 64770)

-- the sum can be kept byte by byte, from 0
abbrev pub SumByByte : Type 0
SumByByte = (checksum_of [] ≡ 0) × ((bs : List ℕ) (b : ℕ) → checksum_of (bs ++ (b ∷ [])) ≡ sum_with (checksum_of bs) b)

-- "the 16-bit sum of those N bytes": each byte is added as it is
abbrev pub SumAdds : Type 0
SumAdds = (s b : ℕ) → sum_with s b ≡ (s + b) % 65536

-- bytes to be put from index i on: where they have room they stand there then, and all before and behind them is as it was;
-- where they have none, every byte is as it was
pub record PutWhole (l : List ℕ) (i : ℕ) (bs : List ℕ) : Type 0 where
  pub there : i + length bs ≤ length l → take (length bs) (drop i (put_at l i bs)) ≡ bs
  pub before : i + length bs ≤ length l → take i (put_at l i bs) ≡ take i l
  pub behind : i + length bs ≤ length l → drop (i + length bs) (put_at l i bs) ≡ drop (i + length bs) l
  pub no_room : length l < i + length bs → put_at l i bs ≡ l

abbrev pub PutsAllOrNothing : Type 0
PutsAllOrNothing = (l : List ℕ) (i : ℕ) (bs : List ℕ) → PutWhole l i bs

-- memory filled from its front: where there is room for all of p it stands there, counted, and all behind it is as it was; where there
-- is none, the count is 0 and every byte is as it was
pub record FilledWhole (p out : List ℕ) : Type 0 where
  pub counted : length p ≤ length out → (filled_with p out).count ≡ length p
  pub there : length p ≤ length out → take (length p) (filled_with p out).memory ≡ p
  pub behind : length p ≤ length out → drop (length p) (filled_with p out).memory ≡ drop (length p) out
  pub no_room : length out < length p → ((filled_with p out).count ≡ 0) × ((filled_with p out).memory ≡ out)

abbrev pub FillsAllOrNothing : Type 0
FillsAllOrNothing = (p out : List ℕ) → FilledWhole p out
