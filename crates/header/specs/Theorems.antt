-- What is proved of the definitions of this crate, over all inputs. Each proof is in `proofs/`.
use Rattle.std.specs.Prelude.{ℕ, ◌+◌, ◌*◌, ◌%◌, ◌≤◌, ◌≡◌, Bool, true, false, List, length, get_or, take}
use Rattle.wire.specs.Bytes.{Bytes}
use Rattle.header.specs.Header.{InRange, first_ten, header_bytes, header_of, numbered_of}
use Rattle.header.specs.declared.header.Header.{Header}

-- every ten bytes are a header and back
abbrev pub TenBytesAndBack : Type 0
TenBytesAndBack = (b : List ℕ) → length b ≡ 10 → Bytes b → header_bytes (header_of b) ≡ b

-- and what they say is in range
abbrev pub TenBytesInRange : Type 0
TenBytesInRange = (b : List ℕ) → Bytes b → InRange (header_of b)

-- a header in range is ten bytes and back
abbrev pub HeaderAndBack : Type 0
HeaderAndBack = (h : Header) → InRange h → header_of (header_bytes h) ≡ h

-- a header with the bits of each field and no more; a function has its eight by its type
abbrev pub field_bits : Header → Header
field_bits h = record {
  r = h.r;
  device = h.device % 32768;
  w = h.w;
  stream = h.stream % 128;
  function = h.function;
  e = h.e;
  number = h.number % 32768;
  system = h.system % 4294967296;
}

-- of a header out of range, "bits above a field's width do not go out" (docs/EXCEPTIONS.md)
abbrev pub NoBitsAbove : Type 0
NoBitsAbove = (h : Header) → header_bytes h ≡ header_bytes (field_bits h)

-- a bit as a number
abbrev pub bit : Bool → ℕ
bit true = 1
bit false = 0

-- "R and upper device ID; lower device ID; W and stream (7 bits); function; E and upper block number; lower block number; four system
-- bytes", each number with its high byte first
pub record LaidOut (h : Header) (b : List ℕ) : Type 0 where
  pub device : get_or b 0 0 * 256 + get_or b 1 0 ≡ bit h.r * 32768 + h.device
  pub stream : get_or b 2 0 ≡ bit h.w * 128 + h.stream
  pub function : get_or b 3 0 ≡ h.function
  pub number : get_or b 4 0 * 256 + get_or b 5 0 ≡ bit h.e * 32768 + h.number
  pub system : get_or b 6 0 * 16777216 + get_or b 7 0 * 65536 + get_or b 8 0 * 256 + get_or b 9 0 ≡ h.system

abbrev pub HeaderLaidOut : Type 0
HeaderLaidOut = (h : Header) → InRange h → LaidOut h (header_bytes h)

-- the ten bytes that a block's header is read from are its first ten
abbrev pub FirstTen : Type 0
FirstTen = (b : List ℕ) → 10 ≤ length b → first_ten b ≡ take 10 b

-- and no byte behind them has a part in what they say
abbrev pub HeaderOfTen : Type 0
HeaderOfTen = (b : List ℕ) → header_of b ≡ header_of (take 10 b)

-- all that two headers of one message share: "all else in the header is the same in each"
pub record SameElse (a b : Header) : Type 0 where
  pub r : a.r ≡ b.r
  pub device : a.device ≡ b.device
  pub w : a.w ≡ b.w
  pub stream : a.stream ≡ b.stream
  pub function : a.function ≡ b.function
  pub system : a.system ≡ b.system

-- a header at another block has its number and E, and all else as it was
abbrev pub NumberedKeeps : Type 0
NumberedKeeps =
    (h : Header) (k : ℕ) (last : Bool)
    → ((numbered_of h k last).number ≡ k) × ((numbered_of h k last).e ≡ last) × SameElse (numbered_of h k last) h
