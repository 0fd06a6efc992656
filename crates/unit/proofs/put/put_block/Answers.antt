-- `put::put_block` meets its contract.
use Rattle.unit.proofs.Codes.{wrote, not_refused}
use Rattle.unit.proofs.put.put_block.Goals as goal

pub returns-in-Ok : goal.returns-in-Ok
returns-in-Ok c = wrote _ _ _ _ _ c.requires.0 c.requires.1 c.write_block.ensures c.in-Ok.is

pub returns-in-Err : goal.returns-in-Err
returns-in-Err c = not_refused c.args.header c.args.«data».now c.args.out.now _ _ c.requires.0 c.requires.1 c.write_block.ensures c.in-Err.is
