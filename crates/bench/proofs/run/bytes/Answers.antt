-- `bytes` meets its contract.
use Prim.Native.Nat.{◌+◌}
use mathlib.Core.Path.{sym, ap, ◌∙◌}
use native.Mathlib.Omega.{arith}
use lib.ListN.{drop, get_or}
use Rattle.link.specs.History as call
use Rattle.talk.specs.Run.{Running, running, bytes_run}
use Rattle.bench.proofs.Joining.{fits, bytes_on, bytes_end}
use Rattle.talk.specs.declared.Ran.{Ran}
use Rattle.bench.proofs.run.bytes.Goals as goal

pub loop-b-preserved : goal.loop-b-preserved
loop-b-preserved c =
    let bs = c.args.bytes.now in
    let i = c.loop-b.b-index in
    let s = running c.loop-b.ran c.loop-b.room c.loop-b.out in
    let e = c.byte-ran.ensures in
    let f = fits s _ (call.byte (get_or bs i 0) (c.type_inv.bytes i).fits) c.loop-b.invariant.1 e in
    (ap (λ (x : Running). bytes_run x (drop (i + 1) bs)) e ∙ sym (bytes_on s bs i c.loop-b-test.true) ∙ c.loop-b.invariant.0, f.within, f.rooms ∙ c.loop-b.invariant.2)

pub returns : goal.returns
returns c =
    let bs = c.args.bytes.now in
    let s = running c.loop-b.ran c.loop-b.room c.loop-b.out in
    sym (bytes_end s bs c.loop-b.b-index (omega (arith, c.loop-b-test.false, c.loop-b.auto.b-index-end))) ∙ c.loop-b.invariant.0 ∙ ap (λ (r : Ran). bytes_run (running r c.args.room.now c.args.out.now) bs) c.nothing-ran.ensures
