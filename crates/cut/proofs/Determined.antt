-- The contract of each public function asks nothing and determines the result. Assumes nothing.
use mathlib.Core.Path.{sym, ◌∙◌}
use Rattle.wire.specs.Determined.{Determined}
use Rattle.cut.proofs.blocks_in.Reads as blocks_in_reads
use Rattle.cut.proofs.blocks_in.Kinds as blocks_in_kinds
use Rattle.cut.proofs.cut_block.Reads as cut_block_reads
use Rattle.cut.proofs.cut_block.Kinds as cut_block_kinds

pub blocks_in_determined : Determined 0 blocks_in_kinds.ps blocks_in_kinds.r blocks_in_reads.Asked blocks_in_reads.Post (λ κs r s. r)
blocks_in_determined κs a = (tt, λ x y s t p q. p ∙ sym q)

pub cut_block_determined : Determined 0 cut_block_kinds.ps cut_block_kinds.r cut_block_reads.Asked cut_block_reads.Post (λ κs r s. r)
cut_block_determined κs a = (tt, λ x y s t p q. p ∙ sym q)
