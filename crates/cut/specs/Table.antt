-- The rows of 01's proved table ("Bench program and proved table") that are about cutting.
use Rattle.std.specs.Prelude.{ℕ, ◌+◌, ◌≡◌, Option, None, Some}
use Rattle.header.specs.Table.{primary}
use Rattle.cut.specs.Blocks.{block_count, cut_of}
use Rattle.cut.specs.declared.Cut.{Cut}

-- the block length N of what was cut: ten header bytes, and its part of the data
abbrev pub length_of : Option Cut → ℕ
length_of (Some c) = 10 + c.length
length_of None = 0

-- N of the last block of a message of n bytes
abbrev pub last_length : ℕ → ℕ
last_length n = length_of (cut_of primary n (block_count n))

pub record CutTable : Type 0 where
  pub count_0 : block_count 0 ≡ 1
  pub count_244 : block_count 244 ≡ 1
  pub count_245 : block_count 245 ≡ 2
  pub count_4096 : block_count 4096 ≡ 17
  pub last_0 : last_length 0 ≡ 10
  pub last_244 : last_length 244 ≡ 254
  pub last_245 : last_length 245 ≡ 11
  pub last_4096 : last_length 4096 ≡ 202
