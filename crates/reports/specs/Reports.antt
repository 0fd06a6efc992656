-- Reports that wait, and what the one under way shows (E4 R1-7.6; 02, request 2).
use Rattle.std.specs.Prelude.{ℕ, ◌+◌, ◌-◌, Bool, cond, List, [], ◌∷◌, leb, ltb, eqb, get_or, replicate, set, take}
use Rattle.reports.specs.declared.Report.{Report}
use Rattle.reports.specs.declared.Reports.{Reports}

-- "Up to 8 reports wait"
abbrev pub most_waiting : ℕ
most_waiting = 8

-- "a count of those, defined from the history, goes up by one": it stops here
abbrev pub most_dropped : ℕ
most_dropped = 4294967295

-- a report of this function, which shows these ten header bytes
abbrev pub report : ℕ → List ℕ → Report
report f h = record { function = f; header = h }

abbrev pub no_report : Report
no_report = report 0 (replicate 10 0)

-- at a start none waits, and none was dropped
abbrev pub no_reports : Reports
no_reports = record { shown = replicate 10 0; count = 0; waiting = replicate 8 no_report; dropped = 0 }

-- those that wait, the oldest first
abbrev pub waiting_in : Reports → List Report
waiting_in r = take r.count r.waiting

-- ---- a report comes

unfoldable pub one_more : ℕ → ℕ
one_more n = cond (ltb n most_dropped) (n + 1) n

-- it waits behind the others
abbrev pub waits_behind : Reports → Report → Reports
waits_behind r new = record { shown = r.shown; count = r.count + 1; waiting = set r.waiting r.count new; dropped = r.dropped }

-- "A ninth is dropped": it, and none that waits
abbrev pub drops : Reports → Reports
drops r = record { shown = r.shown; count = r.count; waiting = r.waiting; dropped = one_more r.dropped }

unfoldable pub added : Reports → Report → Reports
added r new = cond (ltb r.count most_waiting) (waits_behind r new) (drops r)

-- ---- the oldest goes

-- "the oldest goes first"
abbrev pub oldest : Reports → Report
oldest r = get_or r.waiting 0 no_report

unfoldable pub less_one : ℕ → ℕ
less_one n = cond (eqb n 0) 0 (n - 1)

abbrev pub slot : Reports → ℕ → Report
slot r i = get_or r.waiting i no_report

-- the others move up
unfoldable pub without_oldest : Reports → Reports
without_oldest r = record {
  shown = r.shown;
  count = less_one r.count;
  waiting = slot r 1 ∷ slot r 2 ∷ slot r 3 ∷ slot r 4 ∷ slot r 5 ∷ slot r 6 ∷ slot r 7 ∷ no_report ∷ [];
  dropped = r.dropped;
}

-- the one under way shows these ten bytes
unfoldable pub showing : Reports → List ℕ → Reports
showing r h = record { shown = h; count = r.count; waiting = r.waiting; dropped = r.dropped }

-- ---- docs/STATE.md: 0 to 8

unfoldable pub reports_in_range : Reports → Bool
reports_in_range r = leb r.count most_waiting
