-- The room while the blocks of a message are kept in it, one behind the other. Assumes nothing.
use Prim.Native.Nat.{ℕ, zero, suc, ◌+◌, ◌-◌, ◌≤◌, ◌<◌}
use mathlib.Core.Path.{◌≡◌, ap, ◌∙◌}
use mathlib.Core.List.{List, ◌++◌}
use native.Mathlib.Omega.{arith}
use lib.ListN.{length}
use Rattle.wire.specs.Bytes.{part}
use Rattle.wire.specs.Message.{message_limit}
use Rattle.header.specs.Header.{InRange}
use Rattle.header.specs.declared.header.Header.{Header}
use Rattle.cut.specs.Blocks.{block_count}
use Rattle.cut.specs.Theorems.{joined}
use Rattle.room.specs.Room.{place_of, start_of, kept_in, front}
use Rattle.room.specs.Theorems.{Lies}
use Rattle.room.specs.declared.Message.{Message}
use Rattle.room.proofs.Keeping.{keep_joins, keeps_only}
use Rattle.exchange.specs.Assembly.{data_in}
use Rattle.exchange.proofs.Blocks.{one_more, fits}

-- the room once the data of blocks 1 to k are kept as message m
unfoldable pub filling : List ℕ → Message → Header → List ℕ → ℕ → List ℕ
filling room m h d zero = room
filling room m h d (suc k) = kept_in (filling room m h d k) m (length (joined h d k)) (data_in h d (suc k))

-- no bytes are kept at first
none_yet : (room : List ℕ) (m : Message) (h : Header) (d : List ℕ) → front room m (length (joined h d 0)) ≡ joined h d 0
unfolding front part joined
none_yet room m h d = let z : start_of m + 0 - start_of m ≡ 0 = omega arith in rw z

module _ (room : List ℕ) (whole : length room ≡ 36864) (m : Message) (place : place_of m < 4)
    (h : Header) (d : List ℕ) (i : InRange h) (short : length d ≤ message_limit) where
  -- the room keeps its size
  size : (k : ℕ) → length (filling room m h d k) ≡ 36864
  unfolding filling
  size zero = whole
  size (suc k) = (keeps_only (filling room m h d k) m (length (joined h d k)) (data_in h d (suc k))).size ∙ size k

  -- the next block's data lie in the area
  lie : (k : ℕ) → k < block_count (length d) → Lies (filling room m h d k) m (length (joined h d k)) (length (data_in h d (suc k)))
  lie k less = record { whole = size k; place = place; within = omega (arith, one_more h d k, fits h d i short (suc k) less) }

  -- the area begins with the parts joined
  pub kept_front : (k : ℕ) → k ≤ block_count (length d) → front (filling room m h d k) m (length (joined h d k)) ≡ joined h d k
  unfolding filling joined
  kept_front zero most = none_yet room m h d
  kept_front (suc k) most =
      ap (front (filling room m h d (suc k)) m) (one_more h d k)
      ∙ keep_joins (filling room m h d k) m (length (joined h d k)) (data_in h d (suc k)) (lie k most)
      ∙ ap (λ (l : List ℕ). l ++ data_in h d (suc k)) (kept_front k (omega arith))
