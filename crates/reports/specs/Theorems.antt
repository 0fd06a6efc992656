-- What is proved of those that wait. Each proof is in `proofs/`.
use Rattle.std.specs.Prelude.{ℕ, ◌+◌, ◌≤◌, ◌<◌, ◌≡◌, true, List, [], ◌∷◌, ◌++◌, ◌↔◌, length}
use Rattle.reports.specs.Reports.{report, no_reports, waiting_in, added, oldest, without_oldest, showing, reports_in_range}
use Rattle.reports.specs.declared.Report.{Report}
use Rattle.reports.specs.declared.Reports.{Reports}

-- eight slots, and no more wait
pub record Sound (r : Reports) : Type 0 where
  pub slots : length r.waiting ≡ 8
  pub most : r.count ≤ 8

-- a report is of the function that is named, and shows the bytes that are: onlookers name one so too (exchange/specs/Reporting.antt)
abbrev pub ReportIs : Type 0
ReportIs = (f : ℕ) (h : List ℕ) → ((report f h).function ≡ f) × ((report f h).header ≡ h)

-- at a start none waits and none was dropped
pub record NoneAtStart : Type 0 where
  pub sound : Sound no_reports
  pub none : waiting_in no_reports ≡ []
  pub dropped : no_reports.dropped ≡ 0

-- a report that comes while fewer than eight wait
pub record Waits (r : Reports) (new : Report) (after : Reports) : Type 0 where
  pub sound : Sound after
  -- waits behind them
  pub behind : waiting_in after ≡ waiting_in r ++ (new ∷ [])
  pub dropped : after.dropped ≡ r.dropped
  pub shown : after.shown ≡ r.shown

-- and one that finds eight
pub record Drops (r after : Reports) : Type 0 where
  pub sound : Sound after
  -- "A ninth is dropped": it, and none that waits
  pub same : waiting_in after ≡ waiting_in r
  -- it is counted, up to 4,294,967,295
  pub counted : r.dropped < 4294967295 → after.dropped ≡ r.dropped + 1
  pub stops : 4294967295 ≤ r.dropped → after.dropped ≡ r.dropped
  pub shown : after.shown ≡ r.shown

pub record Comes (r : Reports) (new : Report) : Type 0 where
  pub waits : length (waiting_in r) < 8 → Waits r new (added r new)
  pub drops : length (waiting_in r) ≡ 8 → Drops r (added r new)

-- "Up to 8 reports wait .. A ninth is dropped, and a count of those .. goes up by one."
abbrev pub EachComes : Type 0
EachComes = (r : Reports) → Sound r → (new : Report) → Comes r new

-- "the oldest goes first"
pub record Goes (r after : Reports) : Type 0 where
  pub sound : Sound after
  pub first : waiting_in r ≡ oldest r ∷ waiting_in after
  pub dropped : after.dropped ≡ r.dropped
  pub shown : after.shown ≡ r.shown

abbrev pub OldestGoes : Type 0
OldestGoes = (r : Reports) → Sound r → 1 ≤ length (waiting_in r) → Goes r (without_oldest r)

-- what is shown is nothing to those that wait
pub record Shows (r : Reports) (h : List ℕ) (after : Reports) : Type 0 where
  pub sound : Sound after
  pub shown : after.shown ≡ h
  pub same : waiting_in after ≡ waiting_in r
  pub dropped : after.dropped ≡ r.dropped

abbrev pub ShownAlone : Type 0
ShownAlone = (r : Reports) → Sound r → (h : List ℕ) → Shows r h (showing r h)

-- as many wait as are counted
abbrev pub CountIs : Type 0
CountIs = (r : Reports) → Sound r → length (waiting_in r) ≡ r.count

-- docs/STATE.md
abbrev pub ReportsFitExactly : Type 0
ReportsFitExactly = (r : Reports) → reports_in_range r ≡ true ↔ (r.count ≤ 8)
