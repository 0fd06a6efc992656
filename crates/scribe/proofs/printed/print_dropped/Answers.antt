-- `printed::print_dropped` meets its contract.
use mathlib.Core.Path.{refl, ◌∙◌}
use native.Mathlib.Omega.{arith}
use Rattle.wire.proofs.Lent.{put_fits, in_room, no_room}
use Rattle.script.proofs.Printing.{put_both, number_length, dropped_length}
use Rattle.scribe.proofs.printed.print_dropped.Goals as goal

pub overflow_add-number_size : goal.overflow_add-number_size
overflow_add-number_size c = omega (arith, c.number_size.ensures.upper_bound)

pub returns-then-text-number_size : goal.returns-then-text-number_size
returns-then-text-number_size c = no_room _ _ (omega (arith, dropped_length c.args.count, c.number_size.ensures.value))

pub put_number-requires : goal.put_number-requires
put_number-requires c = omega (arith, number_length c.args.count 0x0A)

-- where there is room, the number stands where the mark ends
pub returns : goal.returns
returns c =
    put_both _ _ _ _ _ _ _
    (c.put.ensures ∙ put_fits _ 0 _ (omega (arith, c.if-text-number_size.false))) refl
    c.put_number.ensures.out_after c.put_number.ensures.value
    ∙ in_room _ _ (omega (arith, c.if-text-number_size.false, c.number_size.ensures.value, dropped_length c.args.count))
