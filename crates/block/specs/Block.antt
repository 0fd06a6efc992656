-- A block alone (E4 5.6, 5.7; 01, "Block and header" and "Refusal numbers and notes").
use Rattle.std.specs.Prelude.{ℕ, ◌+◌, ◌-◌, ◌≤◌, ◌≡◌, Bool, cond, ◌&&◌, List, [], ◌∷◌, ◌++◌, eqb, leb, ltb, length, get_or, Result, Ok, Err}
use Rattle.wire.specs.Bytes.{part, pair_of, halves_of}
use Rattle.wire.specs.Lent.{on_front}
use Rattle.wire.specs.Sum.{checksum_of}
use Rattle.header.specs.Header.{header_bytes, header_of}
use Rattle.header.specs.declared.header.Header.{Header}
use Rattle.block.specs.Refusal.{refusal_number}
use Rattle.block.specs.declared.Refusal.{Refusal}
use Rattle.block.specs.declared.Refusal.TheVariants.{OutputShort, BlockLength, ChecksumDiffers}
use Rattle.block.specs.declared.Block.{Block}

-- N bytes on the line, between their length byte and a sum
abbrev pub with_sum : List ℕ → ℕ → List ℕ
with_sum bs s = length bs ∷ (bs ++ halves_of s)

-- "A block on the line: length N (10 to 254), N bytes, then the 16-bit sum of those N bytes, high byte first."
unfoldable pub framed : List ℕ → List ℕ
framed bs = with_sum bs (checksum_of bs)

-- the block of a header and data
abbrev pub block_of : Header → List ℕ → List ℕ
block_of h d = framed (header_bytes h ++ d)

-- refusal 1 is given exactly when this is true: "output buffer under 257 bytes"
unfoldable pub output_short : List ℕ → Bool
output_short out = ltb (length out) 257

-- refusal 12 is given exactly when this is false: "block length outside 10 to 254, or not the bytes given"
unfoldable pub length_good : ℕ → ℕ → Bool
length_good n given = leb 10 n && leb n 254 && eqb n given

-- the same, said of the numbers
pub record GoodLength (n given : ℕ) : Type 0 where
  pub least : 10 ≤ n
  pub most : n ≤ 254
  pub counts : n ≡ given

-- What a write leaves: its answer, and every byte of the output.
pub record Writing : Type 0 where
  pub answer : Result ℕ Refusal
  pub out : List ℕ

abbrev pub writing : Result ℕ Refusal → List ℕ → Writing
writing w out = record { answer = w; out = out }

-- the number that an answer to a write, or to a read, has in 01's table; 0 where it is no refusal
abbrev pub written_number : Result ℕ Refusal → ℕ
written_number (Ok n) = 0
written_number (Err r) = refusal_number r

-- a header was read, and the block length N
abbrev pub was_read : Header → ℕ → Result Block Refusal
was_read h n = Ok (record { header = h; length = n })

abbrev pub read_number : Result Block Refusal → ℕ
read_number (Ok b) = 0
read_number (Err r) = refusal_number r

-- a refused write leaves the output as it was
unfoldable pub refused_write : Refusal → List ℕ → Writing
refused_write r out = writing (Err r) out

-- a taken one answers the bytes it wrote, length byte and sum included, and changes no byte beyond them
unfoldable pub taken_write : ℕ → Header → List ℕ → List ℕ → Writing
taken_write n h d out = writing (Ok (n + 3)) (on_front (block_of h d) out)

-- Writing a block of n bytes, a header and data: "1 (writing only), 12".
unfoldable pub write_of : ℕ → Header → List ℕ → List ℕ → Writing
write_of n h d out =
    cond (output_short out) (refused_write OutputShort out)
    (cond (length_good n (10 + length d)) (taken_write n h d out) (refused_write BlockLength out))

-- refusal 13 is given exactly when this is false: the sum of the N bytes behind the length byte is the one received behind
-- those, its high byte first
unfoldable pub sums_agree : List ℕ → ℕ → Bool
sums_agree line n = eqb (checksum_of (part 1 (n + 1) line)) (pair_of (get_or line (n + 1) 0) (get_or line (n + 2) 0))

-- Reading a block whose length N is good, as it stood on the line. A good block gives its header and N.
unfoldable pub read_sized : List ℕ → ℕ → Result Block Refusal
read_sized line n = cond (sums_agree line n) (was_read (header_of (part 1 (n + 1) line)) n) (Err ChecksumDiffers)

-- Reading a block alone, its length byte first: "12, 13 (reading only)". All that is given but the length byte and the sum
-- is header and data.
unfoldable pub read_of : List ℕ → Result Block Refusal
read_of line =
    cond (length_good (get_or line 0 0) (length line - 3)) (read_sized line (get_or line 0 0)) (Err BlockLength)

-- the data of what was read: the bytes behind the header; none of a refused block
abbrev pub data_in : Result Block Refusal → List ℕ → List ℕ
data_in (Ok b) line = part 11 (b.length + 1) line
data_in (Err r) line = []
