-- `call::drained` meets its contract.
use Rattle.unit.proofs.Gates.{past}
use Rattle.unit.proofs.Courses.{opens, shuts}
use Rattle.unit.proofs.call.drained.Goals as goal

pub onward-requires : goal.onward-requires
onward-requires c = let p = past c.args.link _ _ c.gate.ensures c.in_default.is in (p.output, p.block)

pub returns : goal.returns
returns c = opens c.args.link c.args.room.now c.args.out.now _ c.gate.ensures c.in_default.is (rw c.drained-link.ensures at c.onward.ensures)

pub returns-in-Err : goal.returns-in-Err
returns-in-Err c = shuts c.args.link c.args.room.now c.args.out.now _ _ c.gate.ensures c.in-Err.is c.refused.ensures
