-- The contract of each public function asks nothing and determines the result, and of a write every byte of the output.
-- Assumes nothing.
use Rattle.std.proofs.Common.{sym, ◌∙◌}
use Rattle.block.specs.Block.{writing}
use Rattle.wire.specs.Determined.{Determined}
use Rattle.codec.proofs.refusal_number.Reads as number_reads
use Rattle.codec.proofs.refusal_number.Kinds as number_kinds
use Rattle.codec.proofs.write_block.Reads as write_block_reads
use Rattle.codec.proofs.write_block.Kinds as write_block_kinds
use Rattle.codec.proofs.read_block.Reads as read_block_reads
use Rattle.codec.proofs.read_block.Kinds as read_block_kinds
use Rattle.codec.proofs.block_data.Reads as block_data_reads
use Rattle.codec.proofs.block_data.Kinds as block_data_kinds

pub number_determined : Determined 0 number_kinds.ps number_kinds.r number_reads.Asked number_reads.Post (λ κs r s. r)
number_determined κs a = (tt, λ x y s t p q. p ∙ sym q)

pub write_block_determined : Determined 2 write_block_kinds.ps write_block_kinds.r write_block_reads.Asked write_block_reads.Post (λ κs r s. writing r s.1.1.1.0.now)
write_block_determined κs a = (tt, λ x y s t p q. p ∙ sym q)

pub read_block_determined : Determined 1 read_block_kinds.ps read_block_kinds.r read_block_reads.Asked read_block_reads.Post (λ κs r s. r)
read_block_determined κs a = (tt, λ x y s t p q. p ∙ sym q)

pub block_data_determined : Determined 1 block_data_kinds.ps block_data_kinds.r block_data_reads.Asked block_data_reads.Post (λ κs r s. r.now)
block_data_determined κs a = (tt, λ x y s t p q. p ∙ sym q)
