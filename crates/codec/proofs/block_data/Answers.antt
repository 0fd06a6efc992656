use Rattle.std.proofs.Common.{sym, ◌∙◌}
use Rattle.block.proofs.Reading.{reads_as}
use Rattle.codec.proofs.block_data.Goals as goal

pub data_part-requires : goal.data_part-requires
data_part-requires c = ((reads_as _ _ _).0 (sym c.read_block.ensures ∙ c.in-Ok.is)).0.good
