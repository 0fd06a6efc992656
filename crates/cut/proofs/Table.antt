-- The rows of 01's table that are about cutting: each computes. Assumes nothing.
use mathlib.Core.Path.{refl}
use Rattle.cut.specs.Blocks.{block_count, part_length, has_block, header_at, cut_of}
use Rattle.cut.specs.Table.{CutTable}

pub cut_table : CutTable
unfolding block_count part_length has_block header_at cut_of
cut_table = record {
  count_0 = refl;
  count_244 = refl;
  count_245 = refl;
  count_4096 = refl;
  last_0 = refl;
  last_244 = refl;
  last_245 = refl;
  last_4096 = refl;
}
