-- "Verdicts of an own place" (01, "Messages"), and the number of each.
use Rattle.std.specs.Prelude.{ℕ}
use Rattle.place.specs.declared.Verdict.{Verdict}
use Rattle.place.specs.declared.Verdict.TheVariants.{Sent, Answered, Declined, Other, Broken, NoReply, SendFailed}
use Rattle.place.specs.declared.Standing.{Standing}
use Rattle.place.specs.declared.Standing.TheVariants.{Free, Open, Given}

abbrev pub verdict_number : Verdict → ℕ
verdict_number Sent = 1
verdict_number Answered = 2
verdict_number Declined = 3
verdict_number Other = 4
verdict_number Broken = 5
verdict_number NoReply = 6
verdict_number SendFailed = 7

-- "0 open": the number of how a place stands; a free one has no verdict either
abbrev pub standing_number : Standing → ℕ
standing_number Free = 0
standing_number Open = 0
standing_number (Given v) = verdict_number v
