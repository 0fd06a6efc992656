-- `printed::put_answer` meets its contract.
use native.Mathlib.Omega.{arith}
use Rattle.script.specs.Printed.{number_field, data_field}
use Rattle.script.proofs.Printing.{three_length, put_three}
use Rattle.scribe.proofs.printed.put_answer.Goals as goal

pub put_number-at_data-requires : goal.put_number-at_data-requires
put_number-at_data-requires c = omega (arith, three_length (number_field c.args.number 0x20) (data_field c.args.bytes.now) (number_field c.args.note 0x0A))

pub put_data-at_note-requires : goal.put_data-at_note-requires
put_data-at_note-requires c = omega (arith, three_length (number_field c.args.number 0x20) (data_field c.args.bytes.now) (number_field c.args.note 0x0A))

pub put_number-requires : goal.put_number-requires
put_number-requires c = omega (arith, three_length (number_field c.args.number 0x20) (data_field c.args.bytes.now) (number_field c.args.note 0x0A))

-- each field stands where the one before it ends
pub returns : goal.returns
returns c =
    put_three _ _ _ _ _ _ _ _ _ _
    c.put_number-at_data.ensures.out_after c.put_number-at_data.ensures.value
    c.put_data-at_note.ensures.out_after c.put_data-at_note.ensures.value
    c.put_number.ensures.out_after c.put_number.ensures.value
