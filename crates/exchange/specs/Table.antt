-- 01's numbers of notes and refusals, as this crate gives them.
use Rattle.std.specs.Prelude.{◌≡◌}
use Rattle.exchange.specs.Note.{note_number}
use Rattle.exchange.specs.Request.{refusal_number}
use Rattle.exchange.specs.declared.Note.TheVariants as note
use Rattle.exchange.specs.declared.Refusal.TheVariants as refusal

-- "A block that goes up is judged in this order"
pub record NoteNumbers : Type 0 where
  pub kept : note_number note.Kept ≡ 21
  pub misrouted : note_number note.Misrouted ≡ 22
  pub duplicate : note_number note.Duplicate ≡ 23
  pub stray : note_number note.Stray ≡ 24
  pub no_place : note_number note.NoPlace ≡ 25
  pub too_long_lem : note_number note.TooLong ≡ 26
  pub empty : note_number note.Empty ≡ 27

-- "Refusal numbers and notes"
pub record RefusalNumbers : Type 0 where
  pub message : refusal_number refusal.Message ≡ 5
  pub data_long : refusal_number refusal.DataLong ≡ 6
  pub sending : refusal_number refusal.Sending ≡ 7
  pub no_place : refusal_number refusal.NoPlace ≡ 8
  pub place : refusal_number refusal.Place ≡ 9
  pub not_wanted : refusal_number refusal.NotWanted ≡ 10
  pub replied : refusal_number refusal.Replied ≡ 11
