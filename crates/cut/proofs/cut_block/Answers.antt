use borrow.Author.Tests.{le-leb, lt-leb, eq-eqb, ne_eqb}
use Rattle.cut.specs.Blocks.{cut_of, has_block, header_at, part_length}
use Rattle.cut.proofs.Counts.{count_is_fewest}
use native.Mathlib.Omega.{arith}
use mathlib.Core.Path.{◌∙◌}
use Rattle.cut.proofs.cut_block.Goals as goal
use Rattle.cut.proofs.cut_block.Goals.{then-k-lt1-via-then-k-lt1, then-k-lt1-via-else-k-lt1+then-count-k, then-k-lt1-via-else-k-lt1+else-count-k+then-k-gt-LAST_NUMBER}

pub returns-then-k-lt1 : goal.returns-then-k-lt1
unfolding cut_of has_block header_at part_length
returns-then-k-lt1 c =
    elim c.then-k-lt1.branch [
      | then-k-lt1-via-then-k-lt1 w ↦ simp (lt-leb _ _ w.if-k-lt1.true)
      | then-k-lt1-via-else-k-lt1+then-count-k w ↦
          simp (le-leb _ _ w.if-k-lt1.false, lt-leb _ _ (rw c.blocks_in-count.ensures at w.if-count-k.true))
      | then-k-lt1-via-else-k-lt1+else-count-k+then-k-gt-LAST_NUMBER w ↦
          simp (le-leb _ _ w.if-k-lt1.false, le-leb _ _ (rw c.blocks_in-count.ensures at w.if-count-k.false), lt-leb _ _ w.if-k-gt-LAST_NUMBER.true)
    ]

pub overflow_sub-result : goal.overflow_sub-result
overflow_sub-result c = let w = count_is_fewest c.args.length in omega (arith, c.blocks_in-count.ensures, c.if-last.true)

pub returns-then-last : goal.returns-then-last
unfolding cut_of has_block header_at part_length
returns-then-last c =
    let e = c.if-last.true ∙ c.blocks_in-count.ensures in
    let h = rw c.blocks_in-count.ensures at c.numbered.ensures in
    simp (le-leb _ _ c.if-k-lt1.false, le-leb _ _ (rw c.blocks_in-count.ensures at c.if-count-k.false), le-leb _ _ c.if-k-gt-LAST_NUMBER.false, eq-eqb _ _ e, h)

pub returns-else-last : goal.returns-else-last
unfolding cut_of has_block header_at part_length
returns-else-last c =
    let ne = ne_eqb _ _ (rw c.blocks_in-count.ensures at c.if-last.false) in
    let h = rw c.blocks_in-count.ensures at c.numbered.ensures in
    simp (le-leb _ _ c.if-k-lt1.false, le-leb _ _ (rw c.blocks_in-count.ensures at c.if-count-k.false), le-leb _ _ c.if-k-gt-LAST_NUMBER.false, ne, h)
