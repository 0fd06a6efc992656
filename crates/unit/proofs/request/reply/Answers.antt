-- `request::reply` meets its contract.
use Rattle.unit.proofs.Gates.{past}
use Rattle.unit.proofs.Courses.{opens, shuts, requests}
use Rattle.unit.proofs.request.reply.Goals as goal

pub asks-requires : goal.asks-requires
asks-requires c = let p = past c.args.link _ _ c.gate.ensures c.in_default.is in (p.output, p.block)

pub returns : goal.returns
returns c =
    opens c.args.link c.args.room.now c.args.out.now _ c.gate.ensures c.in_default.is (requests c.args.link _ c.args.out.now c.reply-requested.ensures c.asks.ensures)

pub returns-in-Err : goal.returns-in-Err
returns-in-Err c = shuts c.args.link c.args.room.now c.args.out.now _ _ c.gate.ensures c.in-Err.is c.refused.ensures
