-- The rows of 01's table that are about sums: each computes. Assumes nothing.
use Rattle.std.proofs.Common.{refl}
use Rattle.wire.specs.Sum.{plain_sum, checksum_of}
use Rattle.wire.specs.Table.{SumTable}

pub sum_table : SumTable
unfolding plain_sum checksum_of
sum_table = record { sum_0105 = refl; sum_0107 = refl; sum_fd02 = refl }
