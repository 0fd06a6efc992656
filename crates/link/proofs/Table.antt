-- 01's numbers of refusals and notes, and 01's proved table. Assumes nothing.
use mathlib.Core.Path.{◌≡◌, refl}
use Rattle.wire.proofs.Table.{sum_table}
use Rattle.header.proofs.Table.{header_table}
use Rattle.cut.proofs.Table.{cut_table}
use Rattle.block.proofs.Table.{block_table}
use Rattle.table.proofs.Giving.{number_table}
use Rattle.line.specs.Codes.{note_of}
use Rattle.line.proofs.Table.{limit_met}
use Rattle.line.specs.declared.step.Remark.{Remark}
use Rattle.line.specs.declared.step.Remark.TheVariants as remark
use Rattle.link.specs.Answer.{note_number, note_by}
use Rattle.link.specs.Table.{RefusalNumbers, NoteNumbers, ProvedTable}

pub refusal_numbers : RefusalNumbers
refusal_numbers =
    record {
      done = refl;
      taken = λ p. refl;
      output_short_lem = refl;
      room_size = refl;
      state = refl;
      setting = refl;
      message = refl;
      data_long = refl;
      sending = refl;
      no_place = refl;
      place = refl;
      not_wanted = refl;
      replied = refl;
    }

pub of_line : (r : Remark) → note_number (note_by r) ≡ note_of r
of_line remark.Nothing = refl
of_line remark.GaveWay = refl
of_line remark.NoLength = refl
of_line remark.Gap = refl
of_line (remark.Bad fault) = refl

pub note_numbers : NoteNumbers
note_numbers =
    record {
      nothing = refl;
      kept = refl;
      misrouted = refl;
      duplicate = refl;
      stray = refl;
      no_place = refl;
      too_long_lem = refl;
      empty = refl;
      no_length = refl;
      gap = refl;
      bad_length = refl;
      bad_sum = λ r c. refl;
      of_line = of_line;
      same_fault = λ f. refl;
    }

pub proved_table : ProvedTable
proved_table = record { sums = sum_table; headers = header_table; blocks = block_table; cuts = cut_table; numbers = number_table; limit = limit_met }
