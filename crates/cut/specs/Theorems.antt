-- What is proved of the definitions of this crate, over all inputs. Each proof is in `proofs/`.
use Rattle.std.specs.Prelude.{ℕ, zero, suc, ◌+◌, ◌-◌, ◌*◌, ◌≤◌, ◌<◌, ◌≡◌, true, List, [], ◌++◌, ◌↔◌, length, Option, None, Some}
use Rattle.wire.specs.Bytes.{part}
use Rattle.wire.specs.Message.{message_limit}
use Rattle.cut.specs.Blocks.{block_count, most_blocks, cut_of}
use Rattle.header.specs.Theorems.{SameElse}
use Rattle.header.specs.declared.header.Header.{Header}
use Rattle.cut.specs.declared.Cut.{Cut}

-- c blocks hold n bytes at 244 bytes each, and no fewer do: those before the last leave it a byte, if there is one
pub record FewestBlocks (n c : ℕ) : Type 0 where
  pub some : 1 ≤ c
  pub enough : n ≤ c * 244
  pub fewest : (c - 1) * 244 ≤ n - 1

abbrev pub CountIsFewest : Type 0
CountIsFewest = (n : ℕ) → FewestBlocks n (block_count n)

-- "4,096 data bytes make .. 17 blocks": the longest message does, and none within the limit makes more
abbrev pub MostBlocks : Type 0
MostBlocks = (block_count message_limit ≡ most_blocks) × ((n : ℕ) → n ≤ message_limit → block_count n ≤ most_blocks)

-- Cutting a message of n bytes with header h gives blocks 1 to `block_count n`, in so far as they have a number of E4
-- (up to 32,767), and no others.
abbrev pub CutNumbers : Type 0
CutNumbers = (h : Header) (n k : ℕ) → (cut_of h n k ≡ None → ⊥) ↔ ((1 ≤ k) × (k ≤ block_count n) × (k ≤ 32767))

-- What block k of a message of n bytes with header h is, where there is one.
pub record BlockOfMessage (h : Header) (n k : ℕ) (of : Header) (start size : ℕ) : Type 0 where
  pub number : of.number ≡ k
  pub last_alone : (of.e ≡ true) ↔ (k ≡ block_count n)
  pub same : SameElse of h
  pub filled : k < block_count n → size ≡ 244
  pub most : size ≤ 244
  pub within : start + size ≤ n

abbrev pub CutBlocks : Type 0
CutBlocks =
    (h of : Header) (n k start size : ℕ) → cut_of h n k ≡ Some (record { header = of; start = start; length = size })
    → BlockOfMessage h n k of start size

-- a block's part of the message
abbrev pub part_in : Option Cut → List ℕ → List ℕ
part_in (Some c) d = part c.start (c.start + c.length) d
part_in None d = []

-- and it is as long as the cut says
abbrev pub CutParts : Type 0
CutParts =
    (h of : Header) (d : List ℕ) (k start size : ℕ) → cut_of h (length d) k ≡ Some (record { header = of; start = start; length = size })
    → length (part start (start + size) d) ≡ size

-- the parts of blocks 1 to k, joined
unfoldable pub joined : Header → List ℕ → ℕ → List ℕ
joined h d zero = []
joined h d (suc k) = joined h d k ++ part_in (cut_of h (length d) (suc k)) d

-- the parts of all blocks, joined, are the message, up to E4's longest (7.2.1)
abbrev pub CutJoined : Type 0
CutJoined = (h : Header) (d : List ℕ) → length d ≤ 244 * 32767 → joined h d (block_count (length d)) ≡ d
