-- `printed::put_hex` meets its contract.
use mathlib.Core.Path.{◌≡◌, sym, ap, ◌∙◌}
use native.Mathlib.Omega.{arith}
use lib.ListN.{length}
use lib.Seq.{take_all}
use Rattle.wire.proofs.Lent.{put_fits}
use Rattle.script.specs.Hex.{hex_of}
use Rattle.script.proofs.Printing.{put_nothing, put_two, hex_length, hex_room}
use Rattle.scribe.proofs.printed.put_hex.Goals as goal

pub loop-i-init : goal.loop-i-init
unfolding hex_of
loop-i-init c = (omega arith, sym (put_nothing _ _))

pub overflow_mul-i : goal.overflow_mul-i
unfolding hex_of
overflow_mul-i c = omega (arith, hex_length c.args.bytes.now)

pub overflow_add-at : goal.overflow_add-at
unfolding hex_of
overflow_add-at c = omega (arith, hex_length c.args.bytes.now)

pub loop-i-smaller : goal.loop-i-smaller
unfolding hex_of
loop-i-smaller c = omega arith

-- the memory keeps its size
pub loop-i-preserved : goal.loop-i-preserved
loop-i-preserved c =
    let size : length c.loop-i.out ≡ length c.args.out.now =
    ap length c.loop-i.invariant.1 ∙ hex_room c.args.out.now c.args.bytes.now c.args.at c.loop-i.i c.requires c.loop-i.invariant.0 in (
      omega arith,
      put_two c.args.out.now c.args.bytes.now _ _ _ c.args.at c.loop-i.i (omega (arith, c.requires)) c.loop-i-test.true
          c.loop-i.invariant.1 c.two.ensures (c.put.ensures ∙ put_fits _ _ _ (omega (arith, hex_length c.args.bytes.now, size))),
    )

pub shape_of-out : goal.shape_of-out
unfolding hex_of
shape_of-out c =
    ap length c.loop-i.invariant.1 ∙ hex_room c.args.out.now c.args.bytes.now c.args.at c.loop-i.i c.requires c.loop-i.invariant.0

pub returns : goal.returns
unfolding hex_of
returns c = c.loop-i.invariant.1 ∙ rw (take_all c.loop-i.i c.args.bytes.now c.loop-i-test.false)
