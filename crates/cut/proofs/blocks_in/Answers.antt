use borrow.Author.Tests.{eq-eqb, ne_eqb}
use Rattle.cut.specs.Blocks.{block_count}
use Rattle.cut.proofs.blocks_in.Goals as goal

pub returns-then-length-eq0 : goal.returns-then-length-eq0
unfolding block_count
returns-then-length-eq0 c = simp (eq-eqb _ _ c.if-length-eq0.true)

pub returns : goal.returns
unfolding block_count
returns c = simp (ne_eqb _ _ c.if-length-eq0.false)
