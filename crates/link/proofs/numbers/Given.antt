-- What one call of the unit does to the last transaction number given, and to that of the latest own transaction to get a verdict; the number
-- of a report that starts is new (`specs/Numbers.antt`). Assumes nothing.
use Rattle.std.specs.Prelude.{Option}
use Prim.Native.Nat.{ℕ, ◌≤◌}
use mathlib.Core.Path.{◌≡◌, refl, sym, ap, ◌∙◌, subst}
use mathlib.Core.List.{List, [], ◌∷◌}
use mathlib.Core.Logic.{◌⊎◌, inr}
use Rattle.settings.specs.declared.terms.Terms.{Terms}
use Rattle.table.specs.Number.{next_number}
use Rattle.exchange.specs.Send.{failed_of}
use Rattle.exchange.specs.Reading.{own_reading}
use Rattle.exchange.specs.Request.{primary, reply, freeing_own, freeing_incoming}
use Rattle.exchange.specs.Refusals.{number_given}
use Rattle.exchange.specs.Numbers.{NumbersSeen, latest_seen, NumbersAre, StartsReport, NumberNew}
use Rattle.exchange.specs.History as exchange
use Rattle.exchange.specs.Rules.{Fours}
use Rattle.exchange.specs.declared.Exchange.{Exchange}
use Rattle.exchange.specs.declared.OwnReading.{OwnReading}
use Rattle.exchange.specs.declared.Primary.{Primary}
use Rattle.exchange.proofs.Numbering.{unchanged, call_seen, none_started, last_goes, latest_moves, report_distinct as report_new}
use Rattle.exchange.proofs.Latest.{two_latest, two_follows, two_new}
use Rattle.exchange.proofs.Runs.{Sound, four_places, sound_on}
use Rattle.link.specs.Answer.{accepted}
use Rattle.link.specs.Reading.{own_of}
use Rattle.link.specs.History.{Call, byte, tick, drained, request, Made, Track, exchange_track, terms_in, answered, on_exchange_in, next}
use Rattle.link.specs.Inside.{Reached}
use Rattle.link.specs.Moves.{Opens}
use Rattle.link.specs.Device as device
use Rattle.link.specs.Device.{Few}
use Rattle.link.specs.Numbers.{last_seen, numbers_sees, numbers_seen, LastGiven, LatestGiven, ReportDistinct}
use Rattle.link.specs.declared.Outcome.{Outcome}
use Rattle.link.specs.declared.Outcome.TheVariants as outcome
use Rattle.link.proofs.inside.Places.{lent, goes, sound_inside}
use Rattle.link.proofs.device.Told.{few_told, told_exactly}
use Rattle.link.proofs.verdicts.Taken.{request_taken, request_leads}
use Rattle.link.proofs.numbers.Kept.{call_kept, numbers_kept}

module _ (t : Track) (sound : Sound t.link.exchange) (m : Made) where
  abbrev c : Terms
  c = terms_in t

  abbrev x : Exchange
  x = t.link.exchange

  abbrev room : List ℕ
  room = lent t m

  -- the transactions after these calls
  abbrev after : List exchange.Call → Exchange
  after ks = (exchange.track c (exchange_track t room) ks).exchange

  four : Fours x
  four = four_places x sound

  -- a send that failed, where 0.1 s pass behind it
  next_four : Fours (failed_of x).exchange
  next_four = four_places _ (sound_on c x room exchange.failed sound)

  abbrev Seen : Exchange → Type 0
  Seen y = y.numbers.latest ≡ latest_seen (own_reading x) (own_reading y) x.numbers.latest

  -- the verdicts in one call as in two
  few_latest : (ks : List exchange.Call) → Few ks → Seen (after ks)
  unfolding exchange.track
  few_latest _ device.none = unchanged x x refl
  few_latest _ (device.one k) = call_seen c x room four k
  few_latest _ device.lost_on_tick_lem =
      let y = (failed_of x).exchange in
      let z = after (exchange.failed ∷ exchange.tick ∷ []) in
      call_seen c y room next_four exchange.tick
      ∙ ap (latest_seen (own_reading y) (own_reading z)) (call_seen c x room four exchange.failed)
      ∙ two_latest c x four next_four x.numbers.latest

  latest_seen_lem : Seen (next t m).link.exchange
  latest_seen_lem = subst Seen (goes t m) (few_latest (on_exchange_in t m) (few_told t m))

pub latest_given : LatestGiven
latest_given t w m = latest_moves t.link.exchange (next t m).link.exchange (latest_seen_lem t (sound_inside t w) m)

-- ---- with the numbers that an onlooker keeps

module _ (t : Track) (w : Reached t) (fits : w.setup.last ≤ 65535) (m : Made) where
  abbrev sound : Sound t.link.exchange
  sound = sound_inside t w

  abbrev before : NumbersSeen
  before = numbers_seen t w

  are : NumbersAre t.link.exchange before
  are = numbers_kept t w fits

  are_then : NumbersAre (next t m).link.exchange (numbers_sees t before m)
  are_then = call_kept t sound before are m

  -- a primary that is accepted is one that opens
  not_opened : (((p : ℕ) × (q : Primary) × Opens t m p q) → ⊥) → (k : Call) → m.call ≡ k → (o : Outcome) → (answered t m).answer.outcome ≡ o
      → (own : ℕ → Option OwnReading) (last : ℕ) → last_seen k o own last ≡ last
  not_opened none (byte b less) e o f own last = refl
  not_opened none tick e o f own last = refl
  not_opened none drained e o f own last = refl
  not_opened none (request r) e outcome.Done f own last = refl
  not_opened none (request r) e (outcome.Refused n) f own last = refl
  not_opened none (request (primary q d)) e (outcome.Taken p) f own last =
      absurd (none (p, q, record { rest = d; told = ((told_exactly t m).asks (primary q d)).1 (ap accepted f, e); place = f }))
  not_opened none (request (reply k g d)) e (outcome.Taken p) f own last = refl
  not_opened none (request (freeing_own k)) e (outcome.Taken p) f own last = refl
  not_opened none (request (freeing_incoming k)) e (outcome.Taken p) f own last = refl

  -- a report that starts
  abbrev Follows : Exchange → Type 0
  Follows z =
      StartsReport t.link.exchange z
      → (z.numbers.last ≡ next_number z.own t.link.exchange.numbers.last t.link.exchange.numbers.latest)
      ⊎ (z.numbers.last ≡ next_number z.own t.link.exchange.numbers.last z.numbers.latest)

  few_follows : (ks : List exchange.Call) → Few ks → Follows (after t sound m ks)
  unfolding exchange.track
  few_follows _ device.none = λ q. absurd (q.new refl)
  few_follows _ (device.one k) = λ q. inr ((last_goes (terms_in t) t.link.exchange (lent t m) (four t sound m) before are k).started q).0
  few_follows _ device.lost_on_tick_lem = two_follows (terms_in t) t.link.exchange (four t sound m) (next_four t sound m) (lent t m) before are

  abbrev New : Exchange → Type 0
  New z =
      (q : StartsReport t.link.exchange z)
      → NumberNew z (record { last = 0; latest = latest_seen (own_of t.link) (own_reading z) before.latest }) q.number

  few_new : (ks : List exchange.Call) → Few ks → New (after t sound m ks)
  unfolding exchange.track
  few_new _ device.none = λ q. absurd (q.new refl)
  few_new _ (device.one k) = λ q.
      let n = report_new (terms_in t) t.link.exchange (lent t m) (four t sound m) before are k q in record { from_open = n.from_open; from_latest = n.from_latest }
  few_new _ device.lost_on_tick_lem = λ q.
      let n = two_new (terms_in t) t.link.exchange (four t sound m) (next_four t sound m) (lent t m) before are q in record { from_open = n.from_open; from_latest = n.from_latest }

pub last_given : LastGiven
last_given t w fits m =
    let x = t.link.exchange in
    let y = (next t m).link.exchange in
    let now = are_then t w fits m in
    record {
      given = λ g.
          let o = g.2 in
          let r = primary g.1 o.rest in
          let taken = request_taken t m r o.told in
          subst (λ (z : Exchange). z.numbers.last ≡ number_given x) (request_leads t m r o.told)
          ((last_goes (terms_in t) x (lent t m) (four_places x (sound_inside t w)) (numbers_seen t w) (are t w fits m) (exchange.request r)).given
          (record { header = g.1; rest = o.rest; place = taken.place; so = refl; taken = taken.asked }));
      started = λ q. now.report q.function q.number q.now ∙ sym now.last;
      follows = subst (Follows t w fits m) (goes t m) (few_follows t w fits m (on_exchange_in t m) (few_told t m));
      stays = λ none same.
          now.last ∙ none_started x y same _
          ∙ not_opened t w fits m none m.call refl (answered t m).answer.outcome refl (own_of (next t m).link) (numbers_seen t w).last
          ∙ sym (are t w fits m).last;
    }

pub report_distinct : ReportDistinct
report_distinct t w fits m q =
    let n = subst (New t w fits m) (goes t m) (few_new t w fits m (on_exchange_in t m) (few_told t m)) q in record { from_open = n.from_open; from_latest = n.from_latest }
