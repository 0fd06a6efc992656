-- Which notes cause a report (02, request 2): what `judging::causes` says of a note. Where none is caused and nothing ended, `judge` answers
-- what the rules left.
use Rattle.std.specs.Prelude.{Bool, true, false}
use Rattle.exchange.specs.declared.Note.{Note}
use Rattle.exchange.specs.declared.Note.TheVariants.{Kept, Misrouted, Duplicate, Stray, NoPlace, TooLong, Empty}

abbrev pub causes : Note → Bool
causes Kept = false
causes Misrouted = true
causes Duplicate = false
causes Stray = false
causes NoPlace = false
causes TooLong = true
causes Empty = false
