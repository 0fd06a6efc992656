-- The blocks that are cut from a message of 0 to 4,096 bytes, as a receiver sees them: what their headers say and how long their
-- data are. Assumes nothing.
use Prim.Native.Nat.{ℕ, suc, ◌+◌, ◌*◌, ◌≤◌, ◌<◌, min}
use mathlib.Core.Path.{◌≡◌, refl, sym, ap, ◌∙◌}
use mathlib.Core.List.{List}
use mathlib.Core.Logic.{⊎_elim}
use native.Mathlib.Omega.{arith}
use native.Mathlib.Numerals.{add-one}
use lib.Dec.{eqb}
use lib.ListN.{length, length-append, length-take}
use borrow.Author.Tests.{eqb-false}
use Rattle.wire.specs.Message.{message_limit}
use Rattle.header.specs.Header.{InRange, header_of}
use Rattle.header.specs.Theorems.{SameElse}
use Rattle.header.specs.declared.header.Header.{Header}
use Rattle.header.proofs.Headers.{header_and_back, numbered_keeps}
use Rattle.settings.specs.declared.terms.Terms.{Terms}
use Rattle.cut.specs.Blocks.{block_count, most_blocks, header_at}
use Rattle.cut.specs.Theorems.{joined}
use Rattle.cut.proofs.Counts.{count_is_fewest, most_blocks_lem}
use Rattle.cut.proofs.Cutting.{joined_front}
use Rattle.place.specs.Message.{Routed, Continuing, LacksData}
use Rattle.exchange.specs.Rules.{open_from, Fits}
use Rattle.exchange.specs.Assembly.{header_in, data_in}

-- the header of block k is the message's but for number and E
pub same_header : (h : Header) (n k : ℕ) → SameElse (header_at h n k) h
unfolding header_at
same_header h n k = (numbered_keeps h k (eqb k (block_count n))).2

pub number_at : (h : Header) (n k : ℕ) → (header_at h n k).number ≡ k
unfolding header_at
number_at h n k = refl

-- block k + 1 of a message of m bytes continues it once block k was kept, n bytes in all
pub continues_at : (h : Header) (m k n : ℕ)
    → Continuing h.device h.system (open_from (header_at h m k) n).next (open_from (header_at h m k) n).kind (header_at h m (suc k))
unfolding header_at
continues_at h m k n = record { device = refl; system = refl; w = refl; stream = refl; function = refl; number = sym (add-one k) }

in_range_at : (h : Header) (n k : ℕ) → InRange h → k < 32768 → InRange (header_at h n k)
unfolding header_at
in_range_at h n k i less =
    record { device = i.device; stream = i.stream; function = i.function; number = less; system = i.system }

-- one more part is joined to those before it
pub one_more : (h : Header) (d : List ℕ) (k : ℕ) → length (joined h d (suc k)) ≡ length (joined h d k) + length (data_in h d (suc k))
unfolding joined
one_more h d k = length-append (joined h d k) (data_in h d (suc k))

module _ (h : Header) (d : List ℕ) (i : InRange h) (short : length d ≤ message_limit) where
  few : block_count (length d) ≤ most_blocks
  few = most_blocks_lem.1 (length d) short

  -- what a block's header bytes say
  pub said : (k : ℕ) → k ≤ block_count (length d) → header_of (header_in h d k) ≡ header_at h (length d) k
  said k most = header_and_back (header_at h (length d) k) (in_range_at h (length d) k i (omega (arith, few)))

  -- each is this link's, if the message is
  pub routed_at : (c : Terms) (k : ℕ) → k ≤ block_count (length d) → Routed c h → Routed c (header_of (header_in h d k))
  unfolding header_at
  routed_at c k most q = rw (said k most) (record { r = q.r; device = q.device })

  -- no two of them have the same header bytes
  pub differ : (j k : ℕ) → j ≤ block_count (length d) → k ≤ block_count (length d) → (j ≡ k → ⊥) → header_in h d j ≡ header_in h d k → ⊥
  differ j k less most ne e =
      let heads : header_at h (length d) j ≡ header_at h (length d) k = sym (said j less) ∙ ap header_of e ∙ said k most in
      ne (sym (number_at h (length d) j) ∙ ap (λ (g : Header). g.number) heads ∙ number_at h (length d) k)

  -- how many bytes the parts of blocks 1 to k have
  so_far : (k : ℕ) → k ≤ block_count (length d) → length (joined h d k) ≡ min (k * 244) (length d)
  so_far k most = ap length (joined_front h d k most (omega (arith, few))) ∙ length-take (k * 244) d

  -- never more than the message
  pub fits : (k : ℕ) → k ≤ block_count (length d) → length (joined h d k) ≤ message_limit
  fits k most = omega (arith, so_far k most)

  -- a block has data where it must
  has_data : (k : ℕ) → k < block_count (length d) → LacksData (header_at h (length d) (suc k)) (length (data_in h d (suc k))) → ⊥
  unfolding header_at
  has_data k less lacks =
      let w = count_is_fewest (length d) in
      let a = so_far k (omega arith) in
      let b = so_far (suc k) less in
      let m = one_more h d k in
      let z = lacks.none in
      ⊎_elim (λ e. omega (arith, eqb-false (suc k) (block_count (length d)) e)) (λ l. omega arith) lacks.wanted

  -- so it is kept
  pub fits_at : (k : ℕ) → k < block_count (length d) → Fits (header_of (header_in h d (suc k))) (length (joined h d k)) (data_in h d (suc k))
  fits_at k less = rw (said (suc k) less) (record { has_data = has_data k less; fits = omega (arith, one_more h d k, fits (suc k) less) })

  -- and only the last ends the message
  pub ends_at : (k : ℕ) → k ≤ block_count (length d) → (header_of (header_in h d k)).e ≡ eqb k (block_count (length d))
  unfolding header_at
  ends_at k most = rw (said k most)
