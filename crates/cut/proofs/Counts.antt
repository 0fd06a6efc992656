-- How many blocks a message makes. Assumes nothing.
use Prim.Native.Nat.{◌<◌}
use mathlib.Core.Path.{◌≡◌, refl}
use mathlib.Core.Bool.{Bool, true, false}
use native.Mathlib.Omega.{arith}
use lib.Dec.{eqb}
use borrow.Author.Tests.{eqb-true, eqb-false}
use Rattle.cut.specs.Blocks.{block_count}
use Rattle.cut.specs.Theorems.{CountIsFewest, FewestBlocks, MostBlocks}

pub count_is_fewest : CountIsFewest
unfolding block_count
count_is_fewest n = by (eqb n 0) refl
  where
    by : (t : Bool) → eqb n 0 ≡ t → FewestBlocks n (block_count n)
    by true e = let z = eqb-true n 0 e in rw e (record { some = omega arith; enough = omega arith; fewest = omega arith })
    by false e = let z : 0 < n = omega (arith, eqb-false n 0 e) in rw e (record { some = omega arith; enough = omega arith; fewest = omega arith })

pub most_blocks_lem : MostBlocks
unfolding block_count
most_blocks_lem = (refl, λ n few. omega (arith, (count_is_fewest n).fewest))
