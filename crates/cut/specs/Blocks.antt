-- Cutting a message into blocks (E4 6.6, 6.7, 7.2; 01, "Block and header": "Cutting (house: blocks are filled)").
use Rattle.std.specs.Prelude.{ℕ, ◌+◌, ◌-◌, ◌*◌, ◌/◌, Bool, cond, ◌&&◌, eqb, leb, Option, None, Some}
use Rattle.header.specs.Header.{numbered_of}
use Rattle.header.specs.declared.header.Header.{Header}
use Rattle.cut.specs.declared.Cut.{Cut}

-- how many data bytes a filled block carries: "The maximum data length in a single block" (E4 7.2.1)
abbrev pub block_data : ℕ
block_data = 244

-- how many blocks a message of n data bytes makes: blocks are filled, and "No data gives one block"
unfoldable pub block_count : ℕ → ℕ
block_count n = cond (eqb n 0) 1 ((n - 1) / block_data + 1)

-- the most blocks of a message: "4,096 data bytes make .. 17 blocks" (MostBlocks)
abbrev pub most_blocks : ℕ
most_blocks = 17

-- where block k's part of the data starts: behind the filled blocks before it
abbrev pub part_start : ℕ → ℕ
part_start k = (k - 1) * block_data

-- "each block but the last carries 244 data bytes", and the last what is left
unfoldable pub part_length : ℕ → ℕ → ℕ
part_length n k = cond (eqb k (block_count n)) (n - part_start k) block_data

-- There is a block k: "numbers start at 1", none is behind the last, and none is above 32,767 (E4 6.7).
unfoldable pub has_block : ℕ → ℕ → Bool
has_block n k = leb 1 k && leb k (block_count n) && leb k 32767

-- the header of block k of a message of n bytes with header h: "only the last has E = 1; all else in the header is the same
-- in each"
unfoldable pub header_at : Header → ℕ → ℕ → Header
header_at h n k = numbered_of h k (eqb k (block_count n))

-- there is one, with this header, and its part of the data is so many bytes from there on
abbrev pub cut_at : Header → ℕ → ℕ → Option Cut
cut_at h start size = Some (record { header = h; start = start; length = size })

-- block k: its header, and where its part of the data starts and how long it is
unfoldable pub cut_of : Header → ℕ → ℕ → Option Cut
cut_of h n k = cond (has_block n k) (cut_at (header_at h n k) (part_start k) (part_length n k)) None
