-- A message as its blocks say it, in the order they came (E4 6.6, 6.7, 7.2; 01, "Messages"). Nothing here knows of a place.
use Rattle.std.specs.Prelude.{ℕ, ◌+◌, ◌≤◌, ◌<◌, ◌≡◌, true, false, List, ◌↔◌, ◌⊎◌, length, get_or}
use Rattle.header.specs.Theorems.{SameElse}
use Rattle.header.specs.declared.header.Header.{Header}
use Rattle.settings.specs.declared.terms.Terms.{Terms}
use Rattle.place.specs.Arriving.{kind_of}
use Rattle.place.specs.declared.Kind.{Kind}

-- a block that passed rule 1: "R-bit or device ID" are this link's incoming ones; R = 1 means to the host
pub record Routed (c : Terms) (h : Header) : Type 0 where
  pub r : h.r ≡ c.host
  pub device : h.device ≡ c.device

-- the first block of a message: "number 1, or 0 with E = 1"
abbrev pub StartsMessage : Header → Type 0
StartsMessage h = (h.number ≡ 1) ⊎ ((h.number ≡ 0) × (h.e ≡ true))

-- "Continues an open message (device ID, system bytes, W, stream, function and next number)"
pub record Continuing (id sys next : ℕ) (k : Kind) (h : Header) : Type 0 where
  pub device : h.device ≡ id
  pub system : h.system ≡ sys
  pub w : h.w ≡ k.w
  pub stream : h.stream ≡ k.stream
  pub function : h.function ≡ k.function
  pub number : h.number ≡ next

-- the message that m is a header of
abbrev pub Continues : (m : Header) (next : ℕ) (h : Header) → Type 0
Continues m next h = Continuing m.device m.system next (kind_of m) h

-- "E = 0, or number above 1, with no data"
pub record LacksData (h : Header) (size : ℕ) : Type 0 where
  pub none : size ≡ 0
  pub wanted : (h.e ≡ false) ⊎ (1 < h.number)

-- what stands beyond the end of a list of headers, and in a place to which no message came yet: never read
abbrev pub no_header : Header
no_header = record { r = false; device = 0; w = false; stream = 0; function = 0; e = false; number = 0; system = 0 }

-- the header of block i, counted from 0
abbrev pub block_at : List Header → ℕ → Header
block_at bs i = get_or bs i no_header

-- the first block
abbrev pub first_of : List Header → Header
first_of bs = block_at bs 0

-- "the same in each" but for number and E
abbrev pub OneHeader : List Header → Type 0
OneHeader bs = (i : ℕ) → i < length bs → SameElse (block_at bs i) (first_of bs)

-- numbers 1, 2, 3, ..
abbrev pub FromOne : List Header → Type 0
FromOne bs = (i : ℕ) → i < length bs → (block_at bs i).number ≡ i + 1

-- the one block of a message may have number 0 (E4 6.7)
pub record SingleZero (bs : List Header) : Type 0 where
  pub one : length bs ≡ 1
  pub zero : (first_of bs).number ≡ 0

-- A whole message: there is a block, numbers 1 to n or a single 0, E on the last alone, one header else.
pub record Whole (bs : List Header) : Type 0 where
  pub some : 1 ≤ length bs
  pub numbers : FromOne bs ⊎ SingleZero bs
  pub last_alone : (i : ℕ) → i < length bs → ((block_at bs i).e ≡ true) ↔ (i + 1 ≡ length bs)
  pub same : OneHeader bs

-- The beginning of a message that is not whole: numbers 1 to n, and E on none.
pub record Begun (bs : List Header) : Type 0 where
  pub some : 1 ≤ length bs
  pub numbers : FromOne bs
  pub no_last : (i : ℕ) → i < length bs → (block_at bs i).e ≡ false
  pub same : OneHeader bs
