-- What a block that was judged comes to, and each note's number in 01 ("Messages"; "Refusal numbers and notes").
use Rattle.std.specs.Prelude.{ℕ}
use Rattle.place.specs.declared.Fate.{Fate}
use Rattle.place.specs.declared.Fate.TheVariants as fate
use Rattle.exchange.specs.declared.Note.{Note}
use Rattle.exchange.specs.declared.Note.TheVariants.{Kept, Misrouted, Duplicate, Stray, NoPlace, TooLong, Empty}

abbrev pub note_number : Note → ℕ
note_number Kept = 21
note_number Misrouted = 22
note_number Duplicate = 23
note_number Stray = 24
note_number NoPlace = 25
note_number TooLong = 26
note_number Empty = 27

-- rules 4, 5 and 7
abbrev pub note_by : Fate → Note
note_by fate.Empty = Empty
note_by fate.TooLong = TooLong
note_by (fate.Last n) = Kept
note_by (fate.More n) = Kept
