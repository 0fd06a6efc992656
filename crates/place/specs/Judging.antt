-- What is proved of the judging of one block, over all inputs: the tests and the order of `specs/Fate.antt` are 01's. Each proof is
-- in `proofs/`.
use Rattle.std.specs.Prelude.{ℕ, ◌+◌, ◌%◌, ◌≤◌, ◌<◌, ◌≡◌, true, false, ◌↔◌}
use Rattle.wire.specs.Message.{message_limit}
use Rattle.header.specs.declared.header.Header.{Header}
use Rattle.place.specs.Message.{StartsMessage, Continuing, LacksData}
use Rattle.place.specs.Fate.{begins_reply, begins_primary, fate_of}
use Rattle.place.specs.Arriving.{continues_arriving}
use Rattle.place.specs.declared.Arriving.{Arriving}
use Rattle.place.specs.declared.Fate.{Fate}
use Rattle.place.specs.declared.Fate.TheVariants.{Empty, TooLong, Last, More}

-- "odd function, same number rule"
abbrev pub PrimaryExactly : Type 0
PrimaryExactly = (h : Header) → (begins_primary h ≡ true) ↔ ((h.function % 2 ≡ 1) × StartsMessage h)

-- "even function, number 1, or 0 with E = 1"
abbrev pub ReplyExactly : Type 0
ReplyExactly = (h : Header) → (begins_reply h ≡ true) ↔ ((h.function % 2 ≡ 0) × StartsMessage h)

-- "Continues an open message (device ID, system bytes, W, stream, function and next number)"
abbrev pub ContinuesExactly : Type 0
ContinuesExactly =
    (device system : ℕ) (a : Arriving) (h : Header)
    → (continues_arriving device system a h ≡ true) ↔ Continuing device system a.next a.kind h

-- What becomes of a block with `size` data bytes behind `have` bytes of its message, exactly when.
pub record Judged (h : Header) (have size : ℕ) (f : Fate) : Type 0 where
  -- 4
  pub empty : (f ≡ Empty) ↔ LacksData h size
  -- 5: "Total data above 4,096"
  pub too_long_lem : (f ≡ TooLong) ↔ ((LacksData h size → ⊥) × (message_limit < have + size))
  -- 7: kept, and with E = 1 the message is complete
  pub last : (n : ℕ) → (f ≡ Last n) ↔ ((LacksData h size → ⊥) × (have + size ≤ message_limit) × (h.e ≡ true) × (n ≡ have + size))
  pub more : (n : ℕ) → (f ≡ More n) ↔ ((LacksData h size → ⊥) × (have + size ≤ message_limit) × (h.e ≡ false) × (n ≡ have + size))

abbrev pub FateExactly : Type 0
FateExactly = (h : Header) (have size : ℕ) → Judged h have size (fate_of h have size)
