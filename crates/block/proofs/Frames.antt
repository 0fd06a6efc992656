-- What stands where in a block: length byte, the bytes, the sum. Assumes nothing.
use Prim.Native.Nat.{ℕ, ◌+◌, ◌-◌, ◌/◌, ◌%◌, ◌≤◌}
use mathlib.Core.Path.{◌≡◌, ap, ◌∙◌}
use mathlib.Core.List.{List, ◌∷◌, ◌++◌}
use native.Mathlib.Omega.{arith}
use lib.ListN.{length, get_or, length-append}
use lib.Seq.{take_at, get_or-append-add}
use Rattle.wire.specs.Bytes.{part, pair_of}
use Rattle.wire.specs.Bytes.{halves_of}
use Rattle.wire.specs.Sum.{checksum_of}
use Rattle.header.specs.Header.{header_bytes}
use Rattle.block.specs.Block.{GoodLength, with_sum, framed}
use Rattle.block.specs.Theorems.{BlockLaidOut}

module _ (bs : List ℕ) (s : ℕ) where
  pub frame_length : length (with_sum bs s) ≡ length bs + 3
  frame_length = omega (arith, length-append bs (halves_of s))

  pub frame_body : part 1 (length bs + 1) (with_sum bs s) ≡ bs
  unfolding part
  frame_body = take_at bs (halves_of s) (length bs + 1 - 1) (omega arith)

  -- byte k of the sum
  sum_byte : (k : ℕ) → get_or (with_sum bs s) (length bs + (1 + k)) 0 ≡ get_or (halves_of s) k 0
  sum_byte k =
      let at : length bs + (1 + k) ≡ length (length bs ∷ bs) + k = omega arith in
      rw at (get_or-append-add (length bs ∷ bs) (halves_of s) k 0)

  pub frame_sum : pair_of (get_or (with_sum bs s) (length bs + 1) 0) (get_or (with_sum bs s) (length bs + 2) 0) ≡ s
  frame_sum = (λ k. pair_of (sum_byte 0 k) (sum_byte 1 k)) ∙ whole
    where
      whole : pair_of (s / 256) (s % 256) ≡ s
      whole = omega arith

  pub frame_good : 10 ≤ length bs → length bs ≤ 254 → GoodLength (length bs) (length (with_sum bs s) - 3)
  frame_good least most = record { least = least; most = most; counts = omega (arith, frame_length) }

pub block_laid_out : BlockLaidOut
unfolding framed header_bytes
block_laid_out h d =
    let size : length (header_bytes h ++ d) ≡ 10 + length d = omega (arith, length-append (header_bytes h) d) in
    ap (λ (n : ℕ). n ∷ ((header_bytes h ++ d) ++ halves_of (checksum_of (header_bytes h ++ d)))) size
