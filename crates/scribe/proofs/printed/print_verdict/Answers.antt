-- `printed::print_verdict` meets its contract.
use mathlib.Core.Path.{refl, ◌∙◌}
use native.Mathlib.Omega.{arith}
use Rattle.wire.proofs.Lent.{put_fits, in_room, no_room}
use Rattle.script.proofs.Printing.{put_three, number_length, verdict_length}
use Rattle.scribe.proofs.printed.print_verdict.Goals as goal

pub overflow_add-number_size : goal.overflow_add-number_size
overflow_add-number_size c = omega (arith, c.number_size.ensures.upper_bound)

pub overflow_add-number_size-2 : goal.overflow_add-number_size-2
overflow_add-number_size-2 c = omega (arith, c.number_size.ensures.upper_bound, c.number_size-2.ensures.upper_bound)

pub returns-then-text-number_size : goal.returns-then-text-number_size
returns-then-text-number_size c = no_room _ _ (omega (arith, verdict_length c.args.place c.args.verdict))

pub put_number-at_verdict-requires : goal.put_number-at_verdict-requires
put_number-at_verdict-requires c = omega (arith, number_length c.args.place 0x20)

pub put_number-requires : goal.put_number-requires
put_number-requires c = omega (arith, number_length c.args.place 0x20, number_length c.args.verdict 0x0A)

-- where there is room, each field stands where the one before it ends
pub returns : goal.returns
returns c =
    put_three _ _ _ _ _ _ _ _ _ _
    (c.put.ensures ∙ put_fits _ 0 _ (omega (arith, c.if-text-number_size.false))) refl
    c.put_number-at_verdict.ensures.out_after c.put_number-at_verdict.ensures.value
    c.put_number.ensures.out_after c.put_number.ensures.value
    ∙ in_room _ _ (omega (arith, c.if-text-number_size.false, verdict_length c.args.place c.args.verdict))
