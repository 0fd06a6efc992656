-- `step::block_out` meets its contract.
use Rattle.unit.proofs.Courses.{block_left, notes_so}
use Rattle.unit.proofs.step.block_out.Goals as goal

pub returns : goal.returns
returns c =
    block_left c.args.link c.args.room.now c.args.out.now c.outgoing.ensures c.put_message-count.ensures
    (notes_so c.args.step.told c.args.step.remark c.args.link c.args.room.now c.note_of.ensures c.tells-heard.ensures) c.answers.ensures
