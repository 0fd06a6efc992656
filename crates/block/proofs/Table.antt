-- The rows of 01's table that are about blocks: each computes. Assumes nothing.
use mathlib.Core.Path.{refl}
use Rattle.wire.specs.Bytes.{part}
use Rattle.header.specs.Header.{header_bytes, header_of}
use Rattle.wire.specs.Sum.{plain_sum, checksum_of}
use Rattle.block.specs.Block.{framed, output_short, length_good, refused_write, taken_write, write_of, sums_agree, read_sized, read_of}
use Rattle.block.specs.Table.{BlockTable}

pub block_table : BlockTable
unfolding part header_bytes header_of plain_sum checksum_of framed output_short length_good refused_write taken_write write_of sums_agree read_sized read_of
block_table = record {
  sum_0105 = refl;
  sum_0107 = refl;
  sum_fd02 = refl;
  writes_9 = refl;
  writes_10 = refl;
  writes_254 = refl;
  writes_255 = refl;
  reads_9 = refl;
  reads_10 = refl;
  reads_254 = refl;
  reads_255 = refl;
}
