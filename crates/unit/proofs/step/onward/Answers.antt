-- `step::onward` meets its contract.
use Rattle.unit.proofs.Courses.{goes_onward, notes_so}
use Rattle.unit.proofs.step.onward.Goals as goal

pub returns : goal.returns
returns c =
    goes_onward c.args.link c.args.step.out c.args.ticks c.args.step.told c.args.out.now c.passing-midway.ensures
    (notes_so c.args.step.told c.args.step.remark c.args.link c.args.room.now c.note_of.ensures c.tells-heard.ensures) c.course.ensures
