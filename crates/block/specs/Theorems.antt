-- What is proved of the definitions of this crate, over all inputs. Each proof is in `proofs/`.
use Rattle.std.specs.Prelude.{ℕ, ◌+◌, ◌-◌, ◌/◌, ◌%◌, ◌^◌, ◌≤◌, ◌<◌, ◌≡◌, cond, List, [], ◌∷◌, ◌++◌, ◌↔◌, eqb, length, take, drop, get_or, set, Ok, Err}
use Rattle.wire.specs.Bytes.{Bytes, part, pair_of, halves_of}
use Rattle.header.specs.Header.{InRange, header_bytes, header_of}
use Rattle.header.specs.declared.header.Header.{Header}
use Rattle.wire.specs.Sum.{checksum_of}
use Rattle.block.specs.Block.{with_sum, block_of, GoodLength, written_number, write_of, read_number, read_of, data_in}
use Rattle.block.specs.declared.Refusal.{Refusal}
use Rattle.block.specs.declared.Refusal.TheVariants.{ChecksumDiffers}

-- "A block on the line: length N (10 to 254), N bytes, then the 16-bit sum of those N bytes, high byte first.": the N bytes are the ten of
-- the header and the data behind them
abbrev pub BlockLaidOut : Type 0
BlockLaidOut = (h : Header) (d : List ℕ) → block_of h d ≡ (10 + length d) ∷ (header_bytes h ++ (d ++ halves_of (checksum_of (header_bytes h ++ d))))

-- 12: "block length outside 10 to 254, or not the bytes given": what the rows below have by a word, in plain numbers
abbrev pub LengthExactly : Type 0
LengthExactly = (n given : ℕ) → GoodLength n given ↔ ((10 ≤ n) × (n ≤ 254) × (n ≡ given))

-- Writing: each number of 01's table exactly when its row says so and no earlier one does, 0 for a block that is taken, and
-- 13 never ("reading only").
pub record WriteTable (n : ℕ) (h : Header) (d out : List ℕ) : Type 0 where
  pub one : (written_number (write_of n h d out).answer ≡ 1) ↔ (length out < 257)
  pub twelve : (written_number (write_of n h d out).answer ≡ 12) ↔ ((257 ≤ length out) × (GoodLength n (10 + length d) → ⊥))
  pub thirteen : written_number (write_of n h d out).answer ≡ 13 → ⊥
  pub taken : ((write_of n h d out).answer ≡ Ok (n + 3)) ↔ ((257 ≤ length out) × GoodLength n (10 + length d))

abbrev pub WriteRefuses : Type 0
WriteRefuses = (n : ℕ) (h : Header) (d out : List ℕ) → WriteTable n h d out

-- a refused write touches no byte
abbrev pub RefusedWritesNothing : Type 0
RefusedWritesNothing = (n : ℕ) (h : Header) (d out : List ℕ) (r : Refusal) → (write_of n h d out).answer ≡ Err r → (write_of n h d out).out ≡ out

-- A taken write answers m bytes: these are the block, and beyond them nothing changed.
pub record WritesOnly (h : Header) (d out after : List ℕ) (m : ℕ) : Type 0 where
  pub block : take m after ≡ block_of h d
  pub beyond : drop m after ≡ drop m out
  pub whole : length after ≡ length out

abbrev pub TakenWrites : Type 0
TakenWrites = (n m : ℕ) (h : Header) (d out : List ℕ) → (write_of n h d out).answer ≡ Ok m → WritesOnly h d out (write_of n h d out).out m

-- What E4 5.6 and 5.7 ask of a block on the line: the length byte is N, there are N bytes and the two of the sum behind it,
-- and the sum of the N bytes is the one received.
pub record GoodBlock (line : List ℕ) (n : ℕ) : Type 0 where
  pub length_byte : get_or line 0 0 ≡ n
  pub good : GoodLength n (length line - 3)
  pub sums : checksum_of (part 1 (n + 1) line) ≡ pair_of (get_or line (n + 1) 0) (get_or line (n + 2) 0)

-- Reading: 12 and 13 exactly when, 1 never ("writing only"), and what a good block reads as.
pub record ReadTable (line : List ℕ) : Type 0 where
  pub one : read_number (read_of line) ≡ 1 → ⊥
  pub twelve : (read_number (read_of line) ≡ 12) ↔ (GoodLength (get_or line 0 0) (length line - 3) → ⊥)
  pub thirteen : (read_number (read_of line) ≡ 13) ↔ (GoodLength (get_or line 0 0) (length line - 3) × (GoodBlock line (get_or line 0 0) → ⊥))
  pub taken : (h : Header) (n : ℕ) → (read_of line ≡ Ok (record { header = h; length = n })) ↔ (GoodBlock line n × (h ≡ header_of (part 1 (n + 1) line)))

abbrev pub ReadRefuses : Type 0
ReadRefuses = (line : List ℕ) → ReadTable line

-- The data of a good block is what stands between its header and its sum, as it stands there; of a refused one none is handed out.
pub record DataOf (line : List ℕ) : Type 0 where
  pub good :
      (h : Header) (n : ℕ) → read_of line ≡ Ok (record { header = h; length = n })
      → data_in (read_of line) line ≡ take (n - 10) (drop 11 line)
  pub refused : (r : Refusal) → read_of line ≡ Err r → data_in (read_of line) line ≡ []

abbrev pub DataRead : Type 0
DataRead = (line : List ℕ) → DataOf line

-- What was written reads as the same header and data, for every header in range and every output.
abbrev pub ReadOfWritten : Type 0
ReadOfWritten =
    (n m : ℕ) (h : Header) (d out : List ℕ) → InRange h → (write_of n h d out).answer ≡ Ok m
    → (read_of (take m (write_of n h d out).out) ≡ Ok (record { header = h; length = n }))
    × (data_in (read_of (take m (write_of n h d out).out)) (take m (write_of n h d out).out) ≡ d)

-- bit k of x changed
abbrev pub flipped : ℕ → ℕ → ℕ
flipped k x = cond (eqb (x / 2 ^ k % 2) 0) (x + 2 ^ k) (x - 2 ^ k)

-- a block with any one bit of its sum changed, which still has a sum of 16 bits, is refused by 13
abbrev pub OneSumBit : Type 0
OneSumBit =
    (bs : List ℕ) (k : ℕ) → 10 ≤ length bs → length bs ≤ 254 → k < 16
    → (flipped k (checksum_of bs) < 65536) × (read_of (with_sum bs (flipped k (checksum_of bs))) ≡ Err ChecksumDiffers)

-- and so is one with any other sum
abbrev pub OtherSum : Type 0
OtherSum = (bs : List ℕ) (s : ℕ) → 10 ≤ length bs → length bs ≤ 254 → (s ≡ checksum_of bs → ⊥) → read_of (with_sum bs s) ≡ Err ChecksumDiffers

-- and one with any one byte of header or data changed
abbrev pub OneByte : Type 0
OneByte =
    (bs : List ℕ) (i v : ℕ) → Bytes bs → 10 ≤ length bs → length bs ≤ 254 → i < length bs → v < 256 → (v ≡ get_or bs i 0 → ⊥)
    → read_of (with_sum (set bs i v) (checksum_of bs)) ≡ Err ChecksumDiffers
