-- `printed::number_size` meets its contract.
use Prim.Native.Nat.{◌≤◌}
use mathlib.Core.Path.{ap}
use native.Mathlib.Omega.{arith}
use lib.ListN.{length}
use borrow.Author.Rules.{rules}
use Rattle.script.specs.Printed.{number_text}
use Rattle.script.proofs.Digits.{number_one, number_longer, number_short}
use Rattle.scribe.proofs.printed.number_size.Goals as goal

pub loop-left-init : goal.loop-left-init
loop-left-init c = omega arith

pub overflow_add-size : goal.overflow_add-size
overflow_add-size c =
    let short : length (number_text c.args.n) ≤ 10 = number_short c.args.n (search rules) in
    omega (arith, short, c.loop-left.invariant)

pub loop-left-preserved : goal.loop-left-preserved
loop-left-preserved c = omega (arith, number_longer c.loop-left.left c.loop-left-test.true, c.loop-left.invariant)

pub returns : goal.returns
returns c =
    let short : length (number_text c.args.n) ≤ 10 = number_short c.args.n (search rules) in
    let one = ap length (number_one c.loop-left.left (omega (arith, c.loop-left-test.false))) in
    record { value = omega (arith, c.loop-left.invariant); upper_bound = omega (arith, c.loop-left.invariant, short) }
