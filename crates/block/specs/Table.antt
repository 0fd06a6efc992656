-- The rows of 01's proved table ("Bench program and proved table") that are about blocks.
use Rattle.std.specs.Prelude.{ℕ, ◌≡◌, [], ◌∷◌, replicate, Result, Ok, Err}
use Rattle.header.specs.Header.{header_of}
use Rattle.header.specs.Table.{primary, reply}
use Rattle.wire.specs.Sum.{checksum_of}
use Rattle.block.specs.Block.{block_of, write_of, read_of}
use Rattle.block.specs.declared.Refusal.TheVariants.{BlockLength}
use Rattle.block.specs.declared.Refusal.{Refusal}

-- the answer to writing N bytes: the first header of 01's listing, and as many zeros as N leaves behind it
abbrev pub written : ℕ → ℕ → Result ℕ Refusal
written n zeros = (write_of n primary (replicate zeros 0) (replicate 257 0)).answer

pub record BlockTable : Type 0 where
  -- the two blocks of 01's listing, with their sums 0105 and 0107
  pub sum_0105 : block_of primary [] ≡ 0x0A ∷ 0x00 ∷ 0x01 ∷ 0x81 ∷ 0x01 ∷ 0x80 ∷ 0x01 ∷ 0x00 ∷ 0x00 ∷ 0x00 ∷ 0x01 ∷ 0x01 ∷ 0x05 ∷ []
  pub sum_0107 :
      block_of reply (0x01 ∷ 0x00 ∷ [])
      ≡ 0x0C ∷ 0x80 ∷ 0x01 ∷ 0x01 ∷ 0x02 ∷ 0x80 ∷ 0x01 ∷ 0x00 ∷ 0x00 ∷ 0x00 ∷ 0x01 ∷ 0x01 ∷ 0x00 ∷ 0x01 ∷ 0x07 ∷ []
  pub sum_fd02 : checksum_of (replicate 254 0xFF) ≡ 0xFD02
  -- N = 9 and 255 refused, 10 and 254 taken: written, and read
  pub writes_9 : written 9 0 ≡ Err BlockLength
  pub writes_10 : written 10 0 ≡ Ok 13
  pub writes_254 : written 254 244 ≡ Ok 257
  pub writes_255 : written 255 245 ≡ Err BlockLength
  pub reads_9 : read_of (9 ∷ replicate 11 0) ≡ Err BlockLength
  pub reads_10 : read_of (10 ∷ replicate 12 0) ≡ Ok (record { header = header_of (replicate 10 0); length = 10 })
  pub reads_254 : read_of (254 ∷ replicate 256 0) ≡ Ok (record { header = header_of (replicate 254 0); length = 254 })
  pub reads_255 : read_of (255 ∷ replicate 257 0) ≡ Err BlockLength
