-- `printed::print_answer` meets its contract.
use mathlib.Core.Path.{◌≡◌, sym, ◌∙◌}
use native.Mathlib.Omega.{arith}
use lib.Dec.{leb}
use lib.ListN.{length}
use borrow.Author.Tests.{leb-true, leb-false}
use Rattle.script.specs.Printed.{answer_text}
use Rattle.wire.proofs.Lent.{in_room, no_room}
use Rattle.script.proofs.Printing.{answer_length, answer_fits}
use Rattle.scribe.proofs.printed.print_answer.Goals as goal

pub overflow_add-numbers : goal.overflow_add-numbers
overflow_add-numbers c = omega (arith, c.number_size.ensures.upper_bound, c.number_size-2.ensures.upper_bound)

pub returns-then-text-numbers : goal.returns-then-text-numbers
returns-then-text-numbers c = no_room _ _ (omega (arith, answer_length c.args.number c.args.bytes.now c.args.note))

-- what `data_fits` answers is whether all of the line fits
pub put_answer-requires : goal.put_answer-requires
put_answer-requires c =
    let whole : c.data_fits.result ≡ leb (length (answer_text c.args.number c.args.bytes.now c.args.note)) (length c.args.text.now) =
    c.data_fits.ensures
    ∙ answer_fits c.args.number c.args.bytes.now c.args.note _ _ _ c.number_size.ensures.value c.number_size-2.ensures.value c.if-text-numbers.false in
    leb-true _ _ (sym whole ∙ c.if-data_fits.true)

pub returns-then-data_fits : goal.returns-then-data_fits
returns-then-data_fits c =
    let whole : c.data_fits.result ≡ leb (length (answer_text c.args.number c.args.bytes.now c.args.note)) (length c.args.text.now) =
    c.data_fits.ensures
    ∙ answer_fits c.args.number c.args.bytes.now c.args.note _ _ _ c.number_size.ensures.value c.number_size-2.ensures.value c.if-text-numbers.false in
    c.put_answer.ensures ∙ in_room _ _ (leb-true _ _ (sym whole ∙ c.if-data_fits.true))

pub returns : goal.returns
returns c =
    let whole : c.data_fits.result ≡ leb (length (answer_text c.args.number c.args.bytes.now c.args.note)) (length c.args.text.now) =
    c.data_fits.ensures
    ∙ answer_fits c.args.number c.args.bytes.now c.args.note _ _ _ c.number_size.ensures.value c.number_size-2.ensures.value c.if-text-numbers.false in
    no_room _ _ (leb-false _ _ (sym whole ∙ c.if-data_fits.false))
