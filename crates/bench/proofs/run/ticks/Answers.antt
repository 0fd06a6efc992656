-- `ticks` meets its contract.
use Prim.Native.Nat.{ℕ, ◌+◌, ◌-◌, ◌≤◌}
use mathlib.Core.Path.{◌≡◌, sym, ap, ◌∙◌}
use native.Mathlib.Omega.{arith}
use Rattle.link.specs.History as call
use Rattle.talk.specs.Run.{Running, running, tick_run, ticks_run}
use Rattle.bench.proofs.Joining.{fits, ticks_on, ticks_end}
use Rattle.talk.specs.declared.Ran.{Ran}
use Rattle.bench.proofs.run.ticks.Goals as goal

pub loop-done-preserved : goal.loop-done-preserved
loop-done-preserved c =
    let s = running c.loop-done.ran c.loop-done.room c.loop-done.out in
    let left : ℕ = c.args.count - c.loop-done.done in
    let one : 1 ≤ left = omega (arith, c.loop-done-test.true) in
    let less : c.args.count - (c.loop-done.done + 1) ≡ left - 1 = omega arith in
    let e = c.tick-ran.ensures in
    let f = fits s _ call.tick c.loop-done.invariant.1 e in
    (ap (λ (x : Running). ticks_run x (c.args.count - (c.loop-done.done + 1))) e ∙ ap (ticks_run (tick_run s)) less ∙ sym (ticks_on s left one) ∙ c.loop-done.invariant.0, f.within, f.rooms ∙ c.loop-done.invariant.2)

pub returns : goal.returns
returns c =
    let s = running c.loop-done.ran c.loop-done.room c.loop-done.out in
    sym (ticks_end s (c.args.count - c.loop-done.done) (omega (arith, c.loop-done-test.false))) ∙ c.loop-done.invariant.0 ∙ ap (λ (r : Ran). ticks_run (running r c.args.room.now c.args.out.now) c.args.count) c.nothing-ran.ensures
