-- The header: ten bytes (E4 6; 01, "Block and header").
use Rattle.std.specs.Prelude.{ℕ, ◌+◌, ◌/◌, ◌%◌, ◌<◌, Bool, true, false, List, [], ◌∷◌, leb, get_or}
use Rattle.wire.specs.Bytes.{pair_of, quad_of, quarters_of}
use Rattle.header.specs.declared.header.Header.{Header}

-- a header whose fields have no more than their bits: 15 for the device ID and the block number, 7 for the stream,
-- 8 for the function, 32 for the system bytes
pub record InRange (h : Header) : Type 0 where
  pub device : h.device < 32768
  pub stream : h.stream < 128
  pub function : h.function < 256
  pub number : h.number < 32768
  pub system : h.system < 4294967296

-- the upper bit of a byte
abbrev pub top_bit : Bool → ℕ
top_bit true = 128
top_bit false = 0

-- "R and upper device ID; lower device ID; W and stream (7 bits); function; E and upper block number; lower block
-- number; four system bytes"
unfoldable pub header_bytes : Header → List ℕ
header_bytes h =
    (top_bit h.r + h.device / 256 % 128) ∷ (h.device % 256)
    ∷ (top_bit h.w + h.stream % 128) ∷ h.function
    ∷ (top_bit h.e + h.number / 256 % 128) ∷ (h.number % 256)
    ∷ quarters_of h.system

-- the first ten of some bytes
abbrev pub first_ten : List ℕ → List ℕ
first_ten b =
    get_or b 0 0 ∷ get_or b 1 0 ∷ get_or b 2 0 ∷ get_or b 3 0 ∷ get_or b 4 0 ∷ get_or b 5 0 ∷ get_or b 6 0 ∷ get_or b 7 0 ∷ get_or b 8 0 ∷ get_or b 9 0 ∷ []

-- what the first ten of some bytes say
unfoldable pub header_of : List ℕ → Header
header_of b = record {
  r = leb 128 (get_or b 0 0);
  device = pair_of (get_or b 0 0 % 128) (get_or b 1 0);
  w = leb 128 (get_or b 2 0);
  stream = get_or b 2 0 % 128;
  function = get_or b 3 0;
  e = leb 128 (get_or b 4 0);
  number = pair_of (get_or b 4 0 % 128) (get_or b 5 0);
  system = quad_of (get_or b 6 0) (get_or b 7 0) (get_or b 8 0) (get_or b 9 0);
}

-- the header of another block of the same message: "all else in the header is the same in each"
abbrev pub numbered_of : Header → ℕ → Bool → Header
numbered_of h k last = record {
  r = h.r;
  device = h.device;
  w = h.w;
  stream = h.stream;
  function = h.function;
  e = last;
  number = k;
  system = h.system;
}
