-- `printed::put_number` meets its contract.
use Prim.Native.Nat.{◌+◌, ◌-◌, ◌/◌, ◌≤◌, ◌<◌}
use mathlib.Core.Path.{◌≡◌, refl, ◌∙◌}
use native.Mathlib.Omega.{arith}
use lib.ListN.{length, length-set}
use Rattle.script.specs.Printed.{number_text}
use Rattle.script.proofs.Digits.{number_longer}
use Rattle.script.proofs.Printing.{number_length, put_mark, put_last, put_first_digit}
use Rattle.scribe.proofs.printed.put_number.Goals as goal

pub overflow_add-end : goal.overflow_add-end
overflow_add-end c = omega (arith, number_length c.args.n c.args.mark, c.number_size.ensures.value)

pub overflow_sub-i : goal.overflow_sub-i
overflow_sub-i c = omega (arith, c.number_size.ensures.value)

pub bounds-out-i : goal.bounds-out-i
bounds-out-i c = omega (arith, number_length c.args.n c.args.mark, c.number_size.ensures.value)

pub loop-left-init : goal.loop-left-init
loop-left-init c = (omega (arith, c.number_size.ensures.value), omega arith, refl, refl)

pub overflow_sub-i-in-loop-left : goal.overflow_sub-i-in-loop-left
overflow_sub-i-in-loop-left c = omega (arith, number_longer c.loop-left.left c.loop-left-test.true, c.loop-left.invariant.0)

-- a digit has its place before those behind it
pub bounds-out-i-in-loop-left : goal.bounds-out-i-in-loop-left
bounds-out-i-in-loop-left c =
    let fits : c.args.at + c.number_size.result ≤ length c.args.out.now = omega (arith, number_length c.args.n c.args.mark, c.number_size.ensures.value) in
    let size : length c.loop-left.out ≡ length c.args.out.now =
    c.loop-left.invariant.2 ∙ length-set c.args.out.now (c.args.at + c.number_size.result - 1) c.args.mark in
    let longer = number_longer c.loop-left.left c.loop-left-test.true in
    omega (arith, fits, size, c.loop-left.invariant.0, c.loop-left.invariant.1, c.number_size.ensures.value)

pub loop-left-preserved : goal.loop-left-preserved
loop-left-preserved c =
    let fits : c.args.at + c.number_size.result ≤ length c.args.out.now = omega (arith, number_length c.args.n c.args.mark, c.number_size.ensures.value) in
    let size : length c.loop-left.out ≡ length c.args.out.now =
    c.loop-left.invariant.2 ∙ length-set c.args.out.now (c.args.at + c.number_size.result - 1) c.args.mark in
    let longer = number_longer c.loop-left.left c.loop-left-test.true in
    let within : c.loop-left.i - 1 < length c.loop-left.out =
    omega (arith, fits, size, c.loop-left.invariant.0, c.loop-left.invariant.1, c.number_size.ensures.value) in
    let next : c.loop-left.i - 1 ≡ c.args.at + length (number_text (c.loop-left.left / 10)) = omega (arith, c.loop-left.invariant.0) in (
      next,
      omega (arith, c.loop-left.invariant.1),
      length-set c.loop-left.out (c.loop-left.i - 1) c.ones.result ∙ c.loop-left.invariant.2,
      rw c.ones.ensures (put_last c.loop-left.out _ _ c.loop-left.left c.loop-left-test.true next within) ∙ c.loop-left.invariant.3,
    )

pub bounds-out-at : goal.bounds-out-at
bounds-out-at c =
    let fits : c.args.at + c.number_size.result ≤ length c.args.out.now = omega (arith, number_length c.args.n c.args.mark, c.number_size.ensures.value) in
    let size : length c.loop-left.out ≡ length c.args.out.now =
    c.loop-left.invariant.2 ∙ length-set c.args.out.now (c.args.at + c.number_size.result - 1) c.args.mark in
    omega (arith, fits, size, c.number_size.ensures.value)

pub shape_of-out : goal.shape_of-out
shape_of-out c =
    let size : length c.loop-left.out ≡ length c.args.out.now =
    c.loop-left.invariant.2 ∙ length-set c.args.out.now (c.args.at + c.number_size.result - 1) c.args.mark in
    length-set c.loop-left.out c.args.at c.ones-2.result ∙ size

pub returns : goal.returns
returns c =
    let sized = c.number_size.ensures.value in
    let fits : c.args.at + c.number_size.result ≤ length c.args.out.now = omega (arith, number_length c.args.n c.args.mark, c.number_size.ensures.value) in
    let size : length c.loop-left.out ≡ length c.args.out.now =
    c.loop-left.invariant.2 ∙ length-set c.args.out.now (c.args.at + c.number_size.result - 1) c.args.mark in
    record {
      out_after =
          rw c.ones-2.ensures (put_first_digit c.loop-left.out c.args.at c.loop-left.left (omega (arith, c.loop-left-test.false)) (omega (arith, size)))
          ∙ c.loop-left.invariant.3 ∙ put_mark c.args.out.now c.args.at _ c.args.n c.args.mark (omega arith) (omega arith);
      value = omega (arith, number_length c.args.n c.args.mark);
    }
