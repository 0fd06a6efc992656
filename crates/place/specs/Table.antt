-- 01's numbers of verdicts, as this crate gives them.
use Rattle.std.specs.Prelude.{◌≡◌}
use Rattle.place.specs.Verdict.{standing_number}
use Rattle.place.specs.declared.Verdict.TheVariants.{Sent, Answered, Declined, Other, Broken, NoReply, SendFailed}
use Rattle.place.specs.declared.Standing.TheVariants.{Open, Given}

-- "Verdicts of an own place: 0 open; 1 sent ..": by how the place stands; that these are printed is `LinesDo` (talk/specs/Lines.antt)
pub record VerdictNumbers : Type 0 where
  pub undecided : standing_number Open ≡ 0
  pub sent : standing_number (Given Sent) ≡ 1
  pub answered : standing_number (Given Answered) ≡ 2
  pub declined : standing_number (Given Declined) ≡ 3
  pub other : standing_number (Given Other) ≡ 4
  pub broken : standing_number (Given Broken) ≡ 5
  pub no_reply : standing_number (Given NoReply) ≡ 6
  pub send_failed : standing_number (Given SendFailed) ≡ 7
