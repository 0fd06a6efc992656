-- The rows of 01's proved table ("Bench program and proved table") that are about sums, each as its two bytes on the line.
use Rattle.std.specs.Prelude.{◌≡◌, ℕ, List, [], ◌∷◌, replicate}
use Rattle.wire.specs.Bytes.{halves_of}
use Rattle.wire.specs.Sum.{checksum_of}

-- header and data of the two blocks of 01's listing
abbrev pub first : List ℕ
first = 0x00 ∷ 0x01 ∷ 0x81 ∷ 0x01 ∷ 0x80 ∷ 0x01 ∷ 0x00 ∷ 0x00 ∷ 0x00 ∷ 0x01 ∷ []

abbrev pub second : List ℕ
second = 0x80 ∷ 0x01 ∷ 0x01 ∷ 0x02 ∷ 0x80 ∷ 0x01 ∷ 0x00 ∷ 0x00 ∷ 0x00 ∷ 0x01 ∷ 0x01 ∷ 0x00 ∷ []

pub record SumTable : Type 0 where
  pub sum_0105 : halves_of (checksum_of first) ≡ 0x01 ∷ 0x05 ∷ []
  pub sum_0107 : halves_of (checksum_of second) ≡ 0x01 ∷ 0x07 ∷ []
  pub sum_fd02 : halves_of (checksum_of (replicate 254 0xFF)) ≡ 0xFD ∷ 0x02 ∷ []
