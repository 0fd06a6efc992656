-- 01's numbers of refusals and notes, as the unit gives them ("Refusal numbers and notes"); and 01's proved table.
use Rattle.std.specs.Prelude.{ℕ, ◌≡◌}
use Rattle.wire.specs.Table.{SumTable}
use Rattle.header.specs.Table.{HeaderTable}
use Rattle.cut.specs.Table.{CutTable}
use Rattle.block.specs.Table.{BlockTable}
use Rattle.table.specs.Theorems.{NumberTable}
use Rattle.line.specs.Table.{LimitMet}
use Rattle.line.specs.Codes.{note_of}
use Rattle.line.specs.declared.step.Remark.{Remark}
use Rattle.line.specs.declared.step.Remark.TheVariants as remark
use Rattle.line.specs.declared.phase.Fault.{Fault}
use Rattle.line.specs.declared.phase.Fault.TheVariants as fault
use Rattle.exchange.specs.declared.Note.TheVariants as block
use Rattle.exchange.specs.declared.Refusal.TheVariants as request
use Rattle.link.specs.Answer.{refusal_number, outcome_number, note_number, note_by}
use Rattle.link.specs.declared.Refusal.TheVariants as refusal
use Rattle.link.specs.declared.Outcome.TheVariants as outcome
use Rattle.link.specs.declared.Note.TheVariants as note

-- the table
pub record RefusalNumbers : Type 0 where
  pub done : outcome_number outcome.Done ≡ 0
  pub taken : (p : ℕ) → outcome_number (outcome.Taken p) ≡ 0
  pub output_short_lem : refusal_number refusal.OutputShort ≡ 1
  pub room_size : refusal_number refusal.RoomSize ≡ 2
  pub state : refusal_number refusal.State ≡ 3
  pub setting : refusal_number refusal.Setting ≡ 4
  pub message : refusal_number (refusal.Request request.Message) ≡ 5
  pub data_long : refusal_number (refusal.Request request.DataLong) ≡ 6
  pub sending : refusal_number (refusal.Request request.Sending) ≡ 7
  pub no_place : refusal_number (refusal.Request request.NoPlace) ≡ 8
  pub place : refusal_number (refusal.Request request.Place) ≡ 9
  pub not_wanted : refusal_number (refusal.Request request.NotWanted) ≡ 10
  pub replied : refusal_number (refusal.Request request.Replied) ≡ 11

-- "20 nothing, 21 to 27 above, and with a NAK 28 no length in T2, 29 gap in body, 30 bad length, 31 bad sum"
pub record NoteNumbers : Type 0 where
  pub nothing : note_number note.Nothing ≡ 20
  pub kept : note_number (note.Block block.Kept) ≡ 21
  pub misrouted : note_number (note.Block block.Misrouted) ≡ 22
  pub duplicate : note_number (note.Block block.Duplicate) ≡ 23
  pub stray : note_number (note.Block block.Stray) ≡ 24
  pub no_place : note_number (note.Block block.NoPlace) ≡ 25
  pub too_long_lem : note_number (note.Block block.TooLong) ≡ 26
  pub empty : note_number (note.Block block.Empty) ≡ 27
  pub no_length : note_number note.NoLength ≡ 28
  pub gap : note_number note.Gap ≡ 29
  pub bad_length : note_number (note.Bad fault.Length) ≡ 30
  pub bad_sum : (received counted : ℕ) → note_number (note.Bad (fault.Sum received counted)) ≡ 31
  -- they are the line's own
  pub of_line : (r : Remark) → note_number (note_by r) ≡ note_of r
  -- and name the line's fault
  pub same_fault : (f : Fault) → note_by (remark.Bad f) ≡ note.Bad f

-- "Proved as a single table, by one statement about the definitions"
pub record ProvedTable : Type 0 where
  -- "the two block sums above (0105, 0107); 254 bytes FF sum FD02"
  pub sums : SumTable
  pub headers : HeaderTable
  -- "N = 9 and 255 refused, 10 and 254 taken"
  pub blocks : BlockTable
  -- "0, 244, 245 and 4,096 data bytes make 1, 1, 2 and 17 blocks, the last with N = 10, 254, 11, 202"
  pub cuts : CutTable
  -- "number after 65,535 is 1, or 2 while 1 is held"
  pub numbers : NumberTable
  -- "804 ticks for RTY 3 and T2 100"
  pub limit : LimitMet
