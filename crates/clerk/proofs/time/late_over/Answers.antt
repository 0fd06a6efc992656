-- `time::late_over` meets its contract.
use mathlib.Core.Path.{◌≡◌, refl}
use Rattle.exchange.specs.Tick.{late_over}
use native.Mathlib.Omega.{arith}
use Rattle.clerk.proofs.Places.{one_more}
use Rattle.clerk.proofs.time.late_over.Goals as goal

pub loop-place-init : goal.loop-place-init
loop-place-init c = refl

pub loop-place-preserved : goal.loop-place-preserved
loop-place-preserved c = one_more _ _ c.loop-place.place c.loop-place.invariant c.late_at-outbox.ensures

pub returns : goal.returns
unfolding late_over
returns c = let all : c.loop-place.place ≡ 4 = omega (arith, c.loop-place.auto.place-end, c.loop-place-test.false) in rw all at c.loop-place.invariant
