-- The transaction numbers over every list of the unit's calls from a start, refused ones among them (`specs/History.antt`): the state
-- keeps "the last given" and "that of the latest own transaction to get a verdict" (01, "Messages"). The onlooker is that of
-- exchange/specs/Numbers.antt, at the unit's door: it goes by what is called and answered, and by what a user reads of the own places
-- before and after each call. Each proof is in `proofs/numbers/`.
use Rattle.std.specs.Prelude.{ℕ, ◌≤◌, ◌<◌, ◌≡◌, true, List, [], ◌∷◌, ◌≢◌, ◌⊎◌, Option}
use Rattle.table.specs.Number.{next_number}
use Rattle.exchange.specs.Request.{Request}
use Rattle.exchange.specs.Refusals.{number_given}
use Rattle.exchange.specs.Numbers.{number_shown, NumbersSeen, last_by, last_reported, latest_seen, numbers_at_start, NumbersAre, StartsReport, LatestMoves, in_use, NumberNew}
use Rattle.exchange.specs.declared.OwnReading.{OwnReading}
use Rattle.exchange.specs.declared.Primary.{Primary}
use Rattle.link.specs.Reading.{own_of, message_of, last_number_of}
use Rattle.link.specs.History.{Call, byte, tick, drained, request, Made, Track, answered, next, at_start}
use Rattle.link.specs.Inside.{Reached, Always}
use Rattle.link.specs.Moves.{Opens}
use Rattle.link.specs.declared.Outcome.{Outcome}
use Rattle.link.specs.declared.Outcome.TheVariants.{Done, Taken, Refused}

-- what was accepted shows the number that it was given (`last_by`, exchange/specs/Numbers.antt)
abbrev pub last_of : Outcome → Request → (ℕ → Option OwnReading) → ℕ → ℕ
last_of Done r after last = last
last_of (Taken p) r after last = last_by r (after p) last
last_of (Refused n) r after last = last

abbrev pub last_seen : Call → Outcome → (ℕ → Option OwnReading) → ℕ → ℕ
last_seen (byte b fits) o after last = last
last_seen tick o after last = last
last_seen drained o after last = last
last_seen (request r) o after last = last_of o r after last

-- one call: a report that started in it shows its number in what is being sent (`last_reported`, exchange/specs/Numbers.antt), and no other
-- call gives one; "On a tick the line goes first, then own places 0 to 3", which `latest_seen` tells by the verdicts
abbrev pub numbers_sees : Track → NumbersSeen → Made → NumbersSeen
numbers_sees t s m = record {
  last =
      last_reported (message_of t.link) (message_of (next t m).link)
      (last_seen m.call (answered t m).answer.outcome (own_of (next t m).link) s.last);
  latest = latest_seen (own_of t.link) (own_of (next t m).link) s.latest;
}

-- any calls
unfoldable pub numbers_watch : Track → NumbersSeen → List Made → NumbersSeen
numbers_watch t s [] = s
numbers_watch t s (m ∷ ms) = numbers_watch (next t m) (numbers_sees t s m) ms

-- those from the start
abbrev pub numbers_seen : (t : Track) → Reached t → NumbersSeen
numbers_seen t w = numbers_watch (at_start w.settings w.setup.last w.room) (numbers_at_start w.setup.last) w.calls

-- The numbers that the state keeps are the onlooker's. ("last transaction number | 0 to 65535", which the setting's type keeps to.)
abbrev pub NumbersKept : Type 0
NumbersKept = (t : Track) (w : Reached t) → w.setup.last ≤ 65535 → NumbersAre t.link.exchange (numbers_seen t w)

-- "the next after the last given": a primary that is accepted is given the next number, and so is a report that starts; no other call gives
-- one or takes one back. On a tick a report may start before a verdict falls: "that of the latest own transaction to get a verdict" is then
-- the one before the call, or behind it.
pub record LastCalls (t : Track) (m : Made) : Type 0 where
  pub given : ((p : ℕ) × (q : Primary) × Opens t m p q) → last_number_of (next t m).link ≡ number_given t.link.exchange
  pub started :
      (s : StartsReport t.link.exchange (next t m).link.exchange) → s.number ≡ last_number_of (next t m).link
  pub follows :
      StartsReport t.link.exchange (next t m).link.exchange
      → (last_number_of (next t m).link ≡ next_number (next t m).link.exchange.own (last_number_of t.link) t.link.exchange.numbers.latest)
      ⊎ (last_number_of (next t m).link ≡ next_number (next t m).link.exchange.own (last_number_of t.link) (next t m).link.exchange.numbers.latest)
  pub stays :
      (((p : ℕ) × (q : Primary) × Opens t m p q) → ⊥) → (StartsReport t.link.exchange (next t m).link.exchange → ⊥)
      → last_number_of (next t m).link ≡ last_number_of t.link

abbrev pub LastGiven : Type 0
LastGiven = (t : Track) (w : Reached t) → w.setup.last ≤ 65535 → (m : Made) → LastCalls t m

-- "that of the latest own transaction to get a verdict": of the one place that got one in the call; of several on a tick, where the line
-- goes first, of the highest that got one by its timers; and as it was if none did.
abbrev pub LatestGiven : Type 0
LatestGiven = Always (λ t. (m : Made) → LatestMoves t.link.exchange (next t m).link.exchange)

-- So the number that an accepted primary shows is that of no own place in use, nor of the latest own transaction to get a verdict: the
-- first two distinctions of E4 6.8.1, of own transactions, with the latest verdict for "completed" (docs/EXCEPTIONS.md).
abbrev pub NumberDistinct : Type 0
NumberDistinct =
    (t : Track) (w : Reached t) → w.setup.last ≤ 65535 → (m : Made) (p : ℕ) (q : Primary) → Opens t m p q
    → NumberNew t.link.exchange (numbers_seen t w) (number_shown (own_of (next t m).link p))

-- And so is that of a report which starts, of the places in use and the latest verdict behind the call.
abbrev pub ReportDistinct : Type 0
ReportDistinct =
    (t : Track) (w : Reached t) → w.setup.last ≤ 65535 → (m : Made) (s : StartsReport t.link.exchange (next t m).link.exchange)
    → NumberNew (next t m).link.exchange (numbers_sees t (numbers_seen t w) m) s.number

-- And at any time no two own places in use show the same number, whatever verdicts they have: so a reply is for one of them alone.
abbrev pub PlacesDistinct : Type 0
PlacesDistinct =
    (t : Track) (w : Reached t) → w.setup.last ≤ 65535 → (p q : ℕ) → p < 4 → q < 4 → p ≢ q
    → in_use (own_of t.link p) ≡ true → in_use (own_of t.link q) ≡ true → number_shown (own_of t.link p) ≢ number_shown (own_of t.link q)

-- `last_number`, by which a scheduler keeps the last transaction number for the next start, is the onlooker's: that which the start was told
-- of, and then that of the last accepted primary or started report
abbrev pub LastNumberRead : Type 0
LastNumberRead = (t : Track) (w : Reached t) → w.setup.last ≤ 65535 → last_number_of t.link ≡ (numbers_seen t w).last
