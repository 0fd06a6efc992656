-- `request::primary_header` meets its contract.
use Prim.Native.Nat.{ℕ, ◌<◌, ◌+◌, ◌-◌, ◌/◌}
use lib.Dec.{eqb}
use native.Mathlib.Omega.{arith}
use Rattle.wire.proofs.Choice.{chosen}
use Rattle.cut.specs.Blocks.{block_count}
use borrow.Author.Rules.{rules}
use Rattle.clerk.proofs.request.primary_header.Goals as goal

-- a message has fewer blocks than would not fit a block number
few_blocks : (n : ℕ) → n < 65536 → block_count n < 65536
unfolding block_count
few_blocks n small = chosen (λ (k : ℕ). k < 65536) (eqb n 0) 1 ((n - 1) / 244 + 1) (λ t. omega arith) (λ f. omega arith)

pub overflow_cast-result : goal.overflow_cast-result
overflow_cast-result c = let small : c.args.length < 65536 = search rules in omega (arith, c.blocks_in-blocks.ensures, few_blocks c.from.result (omega (arith, c.from.ensures, small)))
