-- `tick` meets its contract.
use Prim.Native.Nat.{◌-◌}
use native.Mathlib.Omega.{arith}
use lib.ListN.{length, take, drop}
use Rattle.link.specs.Call.{tick_call}
use Rattle.bench.proofs.Joining.{joined_back, few}
use Rattle.link.specs.History as call
use Rattle.bench.proofs.run.tick.Goals as goal

pub joined-requires : goal.joined-requires
joined-requires c = (omega (arith, c.requires), few c.args.ran.link c.args.room.now (take (length c.args.out.now - c.args.ran.count) (drop c.args.ran.count c.args.out.now)) call.tick _ c.tick-answer.ensures)

pub returns : goal.returns
returns c = joined_back (tick_call c.args.ran.link c.args.room.now) c.args.out.now _ _ c.args.ran.count _ _ c.requires.0 c.tick-answer.ensures c.joined.ensures
