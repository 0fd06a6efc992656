-- What a call answers, and the numbers of refusals and notes (01, "Refusal numbers and notes").
use Rattle.std.specs.Prelude.{ℕ, Bool, true, false}
use Rattle.line.specs.Codes.{fault_note}
use Rattle.line.specs.declared.step.Remark.{Remark}
use Rattle.line.specs.declared.step.Remark.TheVariants as remark
use Rattle.exchange.specs.Note.{note_number as block_note}
use Rattle.exchange.specs.Request.{refusal_number as request_number}
use Rattle.link.specs.declared.Refusal.{Refusal}
use Rattle.link.specs.declared.Refusal.TheVariants as refusal
use Rattle.link.specs.declared.Outcome.{Outcome}
use Rattle.link.specs.declared.Outcome.TheVariants as outcome
use Rattle.link.specs.declared.Note.{Note}
use Rattle.link.specs.declared.Note.TheVariants as note

-- 01's table; 5 to 11 are the transactions'
abbrev pub refusal_number : Refusal → ℕ
refusal_number refusal.OutputShort = 1
refusal_number refusal.RoomSize = 2
refusal_number refusal.State = 3
refusal_number refusal.Setting = 4
refusal_number (refusal.Request r) = request_number r

-- 0 where nothing was refused
abbrev pub outcome_number : Outcome → ℕ
outcome_number outcome.Done = 0
outcome_number (outcome.Taken p) = 0
outcome_number (outcome.Refused r) = refusal_number r

-- a call that was not refused
abbrev pub accepted : Outcome → Bool
accepted outcome.Done = true
accepted (outcome.Taken p) = true
accepted (outcome.Refused r) = false

-- "20 nothing, 21 to 27 above, and with a NAK 28 no length in T2, 29 gap in body, 30 bad length, 31 bad sum"
abbrev pub note_number : Note → ℕ
note_number note.Nothing = 20
note_number (note.Block n) = block_note n
note_number note.NoLength = 28
note_number note.Gap = 29
note_number (note.Bad fault) = fault_note fault

-- what the line remarked, as a note. The note of a block that went up is its judge's.
abbrev pub note_by : Remark → Note
note_by remark.Nothing = note.Nothing
note_by remark.GaveWay = note.Nothing
note_by remark.NoLength = note.NoLength
note_by remark.Gap = note.Gap
note_by (remark.Bad fault) = note.Bad fault
