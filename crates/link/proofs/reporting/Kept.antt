-- The reports that the unit keeps are those that an onlooker keeps (`specs/Reporting.antt`: ReportsKept). Assumes nothing.
use Prim.Native.Nat.{ℕ, ◌≤◌}
use mathlib.Core.Path.{◌≡◌, sym, subst, ◌∙◌}
use mathlib.Core.List.{List, [], ◌∷◌}
use Rattle.reports.specs.Reports.{report}
use Rattle.exchange.specs.Reporting as exchange
use Rattle.exchange.specs.Reporting.{Reporter, nothing_reported, TurnIs}
use Rattle.exchange.specs.declared.Sending.{Sending}
use Rattle.exchange.specs.declared.Sending.TheVariants as sending
use Rattle.exchange.specs.declared.Exchange.{Exchange}
use Rattle.exchange.proofs.Runs.{run_any}
use Rattle.exchange.proofs.Reporting.{AllKept, kept_on, kept_fresh}
use Rattle.link.specs.Reading.{message_of, last_number_of}
use Rattle.link.specs.History.{Made, Track, exchange_track, terms_in, on_exchange_in, next, track}
use Rattle.link.specs.Inside.{Reached}
use Rattle.link.specs.Reporting.{reporter_sees, reporter_watch, reporter_seen, ReportsKept}
use Rattle.link.proofs.inside.Reached.{reached_next, start, reached_start}
use Rattle.link.proofs.inside.Places.{lent, goes, sound_inside}

-- ---- one call

pub kept_next : (t : Track) → Reached t → (s : Reporter) (m : Made) → AllKept t.link.exchange s → AllKept (next t m).link.exchange (reporter_sees t s m)
kept_next t r s m w =
    subst (λ (x : Exchange). AllKept x (reporter_sees t s m)) (goes t m)
    (run_any (terms_in t) (exchange.reporter_sees (terms_in t)) AllKept (kept_on (terms_in t)) (exchange_track t (lent t m)) s (on_exchange_in t m)
    (sound_inside t r) w)

-- ---- any calls

-- what holds of a start, and over one call more, of the unit and of the onlooker
module _ (P : Track → Reporter → Type 0)
    (step : (t : Track) → Reached t → (s : Reporter) (m : Made) → P t s → P (next t m) (reporter_sees t s m)) where
  calls_seen : (t : Track) → Reached t → (s : Reporter) (ms : List Made) → P t s → P (track t ms) (reporter_watch t s ms)
  unfolding track reporter_watch
  calls_seen t r s [] w = w
  calls_seen t r s (m ∷ ms) w = calls_seen (next t m) (reached_next t r m) (reporter_sees t s m) ms (step t r s m w)

  pub by_seen : (t : Track) (r : Reached t) → P (start t r) nothing_reported → P t (reporter_seen t r)
  by_seen t r w =
      subst (λ (v : Track). P v (reporter_seen t r)) r.so (calls_seen (start t r) (reached_start t r) nothing_reported r.calls w)

pub kept_inside : (t : Track) (r : Reached t) → r.setup.last ≤ 65535 → AllKept t.link.exchange (reporter_seen t r)
kept_inside t r fits = by_seen (λ v s. AllKept v.link.exchange s) kept_next t r (kept_fresh r.setup.last fits)

pub reports_kept : ReportsKept
reports_kept t r fits = (kept_inside t r fits).reports

-- a report on its way is the one that started last, shows its ten bytes, and has the last number given
pub report_kept : (t : Track) (r : Reached t) → r.setup.last ≤ 65535 → (f n : ℕ) → message_of t.link ≡ sending.Report f n
    → ((reporter_seen t r).underway ≡ report f t.link.exchange.reports.shown) × (n ≡ last_number_of t.link)
report_kept t r fits f n e =
    let k = kept_inside t r fits in
    let s = reporter_seen t r in (
      (subst (λ (z : Sending). TurnIs z s.turn s.underway t.link.exchange.reports.shown) e k.reports.turn).1,
      k.numbers.report f n e ∙ sym k.numbers.last,
    )
