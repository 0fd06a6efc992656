-- `told::data_in` meets its contract.
use mathlib.Core.Path.{sym}
use Rattle.unit.proofs.Courses.{short_part, whole_part}
use Rattle.unit.proofs.told.data_in.Goals as goal

pub returns-then-end-lt10 : goal.returns-then-end-lt10
returns-then-end-lt10 c = sym (rw c.from-end.ensures at (short_part c.from-end.result c.args.received.now c.if-end-lt10.true))

pub returns : goal.returns
returns c = rw c.from-end.ensures (whole_part _ _)
