-- What is written reads back. Assumes nothing.
use Prim.Native.Nat.{ℕ, ◌+◌, ◌-◌, ◌≤◌}
use mathlib.Core.Path.{◌≡◌, refl, sym, ap, subst, ◌∙◌}
use mathlib.Core.List.{List, ◌++◌}
use native.Mathlib.Omega.{arith}
use lib.ListN.{length, take, length-append}
use lib.Seq.{take_at}
use Rattle.wire.specs.Bytes.{part, halves_of}
use Rattle.header.specs.Header.{InRange, header_bytes, header_of}
use Rattle.header.specs.declared.header.Header.{Header}
use Rattle.header.proofs.Headers.{header_and_back}
use Rattle.wire.specs.Sum.{checksum_of}
use Rattle.block.specs.Block.{framed, block_of, GoodLength, read_of, data_in, write_of}
use Rattle.block.specs.Theorems.{GoodBlock, ReadOfWritten}
use Rattle.block.proofs.Frames.{frame_body, frame_sum, frame_good}
use Rattle.block.proofs.Reading.{reads_as}
use Rattle.block.proofs.Writing.{taken_good, taken_writes}
use Rattle.std.specs.Prelude.{Result}
use Rattle.block.specs.Block.{was_read}
use Rattle.block.specs.declared.Block.{Block}
use Rattle.block.specs.declared.Refusal.{Refusal}

-- N bytes in a frame with their own sum are a good block
framed_good : (bs : List ℕ) → 10 ≤ length bs → length bs ≤ 254 → GoodBlock (framed bs) (length bs)
unfolding framed
framed_good bs least most =
    record { length_byte = refl; good = frame_good bs (checksum_of bs) least most; sums = ap checksum_of (frame_body bs (checksum_of bs)) ∙ sym (frame_sum bs (checksum_of bs)) }

-- the block of a header and data reads as those
module _ (n : ℕ) (h : Header) (d : List ℕ) (range : InRange h) (g : GoodLength n (10 + length d)) where
  body_length : length (header_bytes h ++ d) ≡ n
  unfolding header_bytes
  body_length = omega (arith, length-append (header_bytes h) d)

  pub read_back : read_of (block_of h d) ≡ was_read h n
  unfolding framed header_of header_bytes
  read_back =
      let bs : List ℕ = header_bytes h ++ d in
      (reads_as (framed bs) h n).1 (
        subst (GoodBlock (framed bs)) body_length (framed_good bs (omega (arith, body_length)) (omega (arith, body_length))),
        sym (rw (← body_length) (ap header_of (frame_body bs (checksum_of bs)) ∙ header_and_back h range)),
      )

  pub data_back : part 11 (n + 1) (block_of h d) ≡ d
  unfolding framed part header_bytes
  data_back = take_at d (halves_of (checksum_of (header_bytes h ++ d))) (n + 1 - 11) (omega arith)

pub read_of_written : ReadOfWritten
read_of_written n m h d out range e =
    let line : List ℕ = take m (write_of n h d out).out in
    let g = taken_good n m h d out e in
    let block : line ≡ block_of h d = (taken_writes n m h d out e).block in
    let reads : read_of line ≡ was_read h n = ap read_of block ∙ read_back n h d range g in
    (reads, ap (λ (r : Result Block Refusal). data_in r line) reads ∙ ap (part 11 (n + 1)) block ∙ data_back n h d range g)
