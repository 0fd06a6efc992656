-- `put_data` meets its contract.
use mathlib.Core.Path.{◌≡◌, refl, sym, ◌∙◌}
use native.Mathlib.Omega.{arith}
use lib.ListN.{length, length-set}
use lib.Seq.{paste-zero}
use Rattle.wire.specs.Lent.{filled}
use Rattle.wire.proofs.Lent.{no_room, in_room}
use Rattle.text.specs.Hex.{data_of}
use Rattle.text.proofs.Scanning.{data_length, data_at, paste_next, pasted}
use Rattle.parse.proofs.hex.put_data.Goals as goal

pub returns-then-bytes-count : goal.returns-then-bytes-count
returns-then-bytes-count c = no_room (data_of c.args.text.now) c.args.bytes.now (omega (arith, data_length c.args.text.now, c.if-bytes-count.true))

pub loop-i-init : goal.loop-i-init
loop-i-init c = (paste-zero c.args.bytes.now 0 (data_of c.args.text.now), refl)

pub bounds-bytes-i : goal.bounds-bytes-i
bounds-bytes-i c = omega (arith, c.loop-i.invariant.1, c.if-bytes-count.false)

pub loop-i-preserved : goal.loop-i-preserved
loop-i-preserved c =
    let text = c.args.text.now in
    let i = c.loop-i.i in
    let size = data_length text in
    let here = c.pair.ensures ∙ data_at text i (omega arith) in (
      rw (here, c.loop-i.invariant.0) (paste_next c.args.bytes.now (data_of text) i (omega (arith, c.if-bytes-count.false)) (omega arith)),
      length-set c.loop-i.bytes i c.pair.result ∙ c.loop-i.invariant.1,
    )

pub shape_of-bytes : goal.shape_of-bytes
shape_of-bytes c = c.loop-i.invariant.1

-- all are put
pub returns : goal.returns
returns c =
    let text = c.args.text.now in
    let size = data_length text in
    let all : c.loop-i.i ≡ length (data_of text) = omega (arith, c.loop-i-test.false, c.loop-i.auto.i-end) in
    (λ k. filled (sym size k) ((c.loop-i.invariant.0 ∙ pasted c.args.bytes.now (data_of text) c.loop-i.i all) k))
    ∙ in_room (data_of text) c.args.bytes.now (omega (arith, c.if-bytes-count.false))
