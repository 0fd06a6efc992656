-- A block that is cut from a message: its bytes on the line, and what is read of them in the array of received bytes. Assumes nothing.
use Prim.Native.Nat.{ℕ, zero, suc, ◌+◌, ◌-◌, ◌≤◌, ◌<◌}
use mathlib.Core.Path.{◌≡◌, refl, sym, ap, subst, ◌∙◌}
use mathlib.Core.Bool.{Bool, true, false}
use mathlib.Core.List.{List, [], ◌∷◌, ◌++◌}
use native.Mathlib.Omega.{arith}
use lib.Dec.{ltb}
use lib.ListN.{length, take, drop, get_or, length-append, length-take, get_or-eq_default}
use lib.Seq.{get_or-take, get_or-drop, take_at}
use borrow.Author.Tests.{ltb-true, ltb-false}
use Rattle.wire.specs.Message.{message_limit}
use Rattle.wire.specs.Bytes.{Bytes, part}
use Rattle.wire.proofs.Choice.{either}
use Rattle.header.specs.Header.{InRange, top_bit, header_bytes, first_ten}
use Rattle.header.specs.declared.header.Header.{Header}
use Rattle.cut.specs.Blocks.{most_blocks, block_count, part_start, part_length, header_at, cut_of, cut_at}
use Rattle.cut.specs.Theorems.{part_in}
use Rattle.cut.specs.declared.Cut.{Cut}
use Rattle.cut.proofs.Counts.{count_is_fewest}
use Rattle.cut.proofs.Cutting.{cut_is, cut_blocks, cut_parts}
use Rattle.wire.specs.Sum.{checksum_of}
use Rattle.block.specs.Block.{framed, block_of}
use Rattle.room.specs.Room.{front}
use Rattle.room.specs.declared.Message.TheVariants.{Send}
use Rattle.room.proofs.Reading.{bytes_read}
use Rattle.exchange.specs.Assembly.{data_in}
use Rattle.exchange.specs.declared.Outgoing.TheVariants.{Message}
use Rattle.link.specs.Run.{bytes_by, block_in}
use Rattle.std.specs.Prelude.{Option}

-- ---- bytes

top_most : (b : Bool) → top_bit b ≤ 128
top_most true = omega arith
top_most false = omega arith

-- a header in range is ten bytes
headed : (h : Header) (d : List ℕ) → InRange h → Bytes d → (i : ℕ) → get_or (header_bytes h ++ d) i 0 < 256
unfolding header_bytes
headed h d r b zero = omega (arith, top_most h.r)
headed h d r b (suc zero) = omega arith
headed h d r b (suc (suc zero)) = omega (arith, top_most h.w)
headed h d r b (suc (suc (suc zero))) = r.function
headed h d r b (suc (suc (suc (suc zero)))) = omega (arith, top_most h.e)
headed h d r b (suc (suc (suc (suc (suc zero))))) = omega arith
headed h d r b (suc (suc (suc (suc (suc (suc zero)))))) = omega arith
headed h d r b (suc (suc (suc (suc (suc (suc (suc zero))))))) = omega arith
headed h d r b (suc (suc (suc (suc (suc (suc (suc (suc zero)))))))) = omega arith
headed h d r b (suc (suc (suc (suc (suc (suc (suc (suc (suc zero))))))))) = omega arith
headed h d r b (suc (suc (suc (suc (suc (suc (suc (suc (suc (suc i)))))))))) = b.at i

pub block_bytes : (h : Header) (d : List ℕ) → InRange h → Bytes d → Bytes (header_bytes h ++ d)
block_bytes h d r b = record { at = headed h d r b }

pub block_length : (h : Header) (d : List ℕ) → length (header_bytes h ++ d) ≡ 10 + length d
unfolding header_bytes
block_length h d = omega (arith, length-append (header_bytes h) d)

-- none, one and others, some and others
pub no_bytes : Bytes []
no_bytes = record { at = λ i. omega arith }

pub one_byte : (b : ℕ) (bs : List ℕ) → b < 256 → Bytes bs → Bytes (b ∷ bs)
one_byte b bs fits r = record { at = by }
  where
    by : (i : ℕ) → get_or (b ∷ bs) i 0 < 256
    by zero = fits
    by (suc i) = r.at i

some_bytes : (xs ys : List ℕ) → Bytes xs → Bytes ys → Bytes (xs ++ ys)
some_bytes [] ys x y = y
some_bytes (b ∷ bs) ys x y = one_byte b (bs ++ ys) (x.at 0) (some_bytes bs ys (record { at = λ i. x.at (suc i) }) y)

-- a block on the line
pub line_bytes : (h : Header) (d : List ℕ) → InRange h → Bytes d → length d ≤ 244 → Bytes (block_of h d)
unfolding framed checksum_of
line_bytes h d r b short =
    let bs : List ℕ = header_bytes h ++ d in
    one_byte (length bs) _ (omega (arith, block_length h d))
    (some_bytes bs _ (block_bytes h d r b) (one_byte _ _ (omega arith) (one_byte _ [] (omega arith) no_bytes)))

-- a part of bytes is bytes
part_bytes : (a e : ℕ) (d : List ℕ) → Bytes d → Bytes (part a e d)
unfolding part
part_bytes a e d b = record {
  at = λ i.
      either (ltb i (e - a)) (λ t. get_or (take (e - a) (drop a d)) i 0 < 256)
      (λ t. rw (get_or-take (e - a) (drop a d) i 0 (ltb-true i (e - a) t), get_or-drop a d i 0) (b.at (a + i)))
      (λ t.
      let out : length (take (e - a) (drop a d)) ≤ i = omega (arith, length-take (e - a) (drop a d), ltb-false i (e - a) t) in
      rw (get_or-eq_default (take (e - a) (drop a d)) 0 out) (omega arith));
}

-- ---- what is read of a block in the array

pub ten_read : (h : Header) (d rest : List ℕ) → first_ten ((header_bytes h ++ d) ++ rest) ≡ header_bytes h
unfolding header_bytes
ten_read h d rest = refl

pub data_read : (h : Header) (d rest : List ℕ) → part 10 (length (header_bytes h ++ d)) ((header_bytes h ++ d) ++ rest) ≡ d
unfolding header_bytes part
data_read h d rest = take_at d rest (length (header_bytes h ++ d) - 10) (omega (arith, block_length h d))

-- ---- block k of message d with header h

module _ (h : Header) (d : List ℕ) (i : InRange h) (short : length d ≤ message_limit) where
  pub few : block_count (length d) ≤ most_blocks
  few = let w = count_is_fewest (length d) in omega arith

  pub some : 1 ≤ block_count (length d)
  some = (count_is_fewest (length d)).some

  module _ (k : ℕ) (one : 1 ≤ k) (most : k ≤ block_count (length d)) where
    pub there_is : cut_of h (length d) k ≡ cut_at (header_at h (length d) k) (part_start k) (part_length (length d) k)
    there_is = cut_is h (length d) k (one, most, omega (arith, few))

    pub header_in_range : InRange (header_at h (length d) k)
    unfolding header_at
    header_in_range = record { device = i.device; stream = i.stream; function = i.function; number = omega (arith, few); system = i.system }

    data_is : data_in h d k ≡ part (part_start k) (part_start k + part_length (length d) k) d
    data_is = ap (λ (c : Option Cut). part_in c d) there_is

    pub data_length : length (data_in h d k) ≡ part_length (length d) k
    data_length = omega (arith, ap length data_is, cut_parts h (header_at h (length d) k) d k (part_start k) (part_length (length d) k) there_is)

    pub data_most : length (data_in h d k) ≤ 244
    data_most =
        let c = cut_blocks h (header_at h (length d) k) (length d) k (part_start k) (part_length (length d) k) there_is in
        omega (arith, data_length)

    pub data_bytes : Bytes d → Bytes (data_in h d k)
    data_bytes b = subst Bytes (sym data_is) (part_bytes (part_start k) (part_start k + part_length (length d) k) d b)

    -- where the send area begins with the message, the block that goes out is its block k
    pub block_out : (device : ℕ) (shown room : List ℕ) → length room ≡ 36864 → front room Send (length d) ≡ d
        → block_in device shown (Message h (length d)) k room ≡ block_of (header_at h (length d) k) (data_in h d k)
    block_out device shown room whole starts =
        let c = cut_blocks h (header_at h (length d) k) (length d) k (part_start k) (part_length (length d) k) there_is in
        ap (λ (z : Option Cut). bytes_by z room) there_is
        ∙ ap (block_of (header_at h (length d) k))
        ((bytes_read room Send (part_start k) (part_length (length d) k) (record { whole = whole; place = omega arith; within = omega (arith, c.within) })
        ).of_front (length d) c.within short
        ∙ ap (part (part_start k) (part_start k + part_length (length d) k)) starts ∙ sym data_is)
