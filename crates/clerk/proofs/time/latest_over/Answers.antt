-- `time::latest_over` meets its contract.
use mathlib.Core.Path.{◌≡◌, refl, sym}
use native.Mathlib.Omega.{arith}
use Rattle.clerk.proofs.Places.{one_more}
use Rattle.clerk.proofs.time.latest_over.Goals as goal

pub loop-place-init : goal.loop-place-init
loop-place-init c = refl

pub loop-place-preserved : goal.loop-place-preserved
loop-place-preserved c = one_more _ _ c.loop-place.place c.loop-place.invariant (rw (sym c.own_at.ensures, sym c.own_at-in-loop-place.ensures) c.latest_after-latest.ensures)

pub returns : goal.returns
returns c = let all : c.loop-place.place ≡ 4 = omega (arith, c.loop-place.auto.place-end, c.loop-place-test.false) in rw all at c.loop-place.invariant
