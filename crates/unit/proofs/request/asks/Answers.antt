-- `request::asks` meets its contract.
use mathlib.Core.Path.{refl}
use Rattle.unit.proofs.Courses.{closes}
use Rattle.unit.proofs.request.asks.Goals as goal

pub returns-in-Ok : goal.returns-in-Ok
returns-in-Ok c = simp c.in-Ok.is (rw c.untold.ensures at c.course.ensures)

pub returns-in-Err : goal.returns-in-Err
returns-in-Err c = simp c.in-Err.is (closes _ c.refused.ensures refl)
