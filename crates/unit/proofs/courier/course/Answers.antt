-- `courier::course` meets its contract.
use Rattle.unit.proofs.Courses.{closes}
use Rattle.unit.proofs.courier.course.Goals as goal

pub returns : goal.returns
returns c =
    let e = c.courier-carried.ensures in
    closes _ (rw e at c.settles.ensures.0) (rw e at c.settles.ensures.1)
