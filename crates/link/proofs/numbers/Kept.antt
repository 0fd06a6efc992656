-- The transaction numbers that the unit keeps are those that an onlooker keeps (`specs/Numbers.antt`). Assumes nothing.
use Rattle.std.specs.Prelude.{Ok, Option}
use Prim.Native.Nat.{ℕ}
use mathlib.Core.Path.{◌≡◌, refl, sym, ap, ◌∙◌, subst}
use mathlib.Core.Bool.{true, false≢true}
use mathlib.Core.List.{List, [], ◌∷◌}
use Rattle.settings.specs.declared.terms.Terms.{Terms}
use Rattle.exchange.specs.Reading.{own_reading}
use Rattle.exchange.specs.Send.{put_out_of}
use Rattle.exchange.specs.Request.{Request, primary}
use Rattle.exchange.specs.Numbers.{number_shown, NumbersSeen, latest_seen, last_asked, last_reported, numbers_sees as numbers_told, numbers_at_start, NumbersAre, StartsReport, NumberNew}
use Rattle.exchange.specs.History as exchange
use Rattle.exchange.specs.declared.OwnReading.{OwnReading}
use Rattle.exchange.specs.declared.Exchange.{Exchange}
use Rattle.exchange.proofs.BeingSent.{sending_ends}
use Rattle.exchange.proofs.Numbering.{none_started, request_starts, stays_on, numbers_kept_on, numbers_fresh, number_distinct as number_new}
use Rattle.exchange.proofs.Latest.{two_kept}
use Rattle.exchange.proofs.Runs.{Sound, four_places, sound_on}
use Rattle.link.specs.Run.{Left}
use Rattle.link.specs.History.{Call, byte, tick, drained, request, called, Room, Made, unless_refused, Track, exchange_track, terms_in, answered, on_exchange_in, next, track}
use Rattle.link.specs.Inside.{Reached}
use Rattle.link.specs.Verdicts.{Among, here}
use Rattle.link.specs.Device as device
use Rattle.link.specs.Device.{Few}
use Rattle.link.specs.Moves.{on_the_line}
use Rattle.link.specs.Numbers.{last_of, numbers_sees, numbers_watch, numbers_seen, NumbersKept, NumberDistinct, LastNumberRead}
use Rattle.link.specs.declared.Outcome.TheVariants as outcome
use Rattle.link.proofs.Cases.{by_request, answering}
use Rattle.link.proofs.inside.Reached.{reached_next, start, reached_start}
use Rattle.link.proofs.inside.Places.{lent, goes, sound_inside}
use Rattle.link.proofs.device.Told.{few_told, told_exactly}
use Rattle.link.proofs.verdicts.Taken.{request_taken, request_leads}
use Rattle.exchange.specs.Asked.{Asked}

-- ---- one call of the unit

module _ (t : Track) (sound : Sound t.link.exchange) (s : NumbersSeen) (w : NumbersAre t.link.exchange s) (m : Made) where
  abbrev c : Terms
  c = terms_in t

  abbrev x : Exchange
  x = t.link.exchange

  abbrev room : List ℕ
  room = lent t m

  -- the transactions after these calls
  abbrev after : List exchange.Call → Exchange
  after ks = (exchange.track c (exchange_track t room) ks).exchange

  -- the numbers are as they are seen, where this one is the last of a primary
  abbrev Keeps : ((ℕ → Option OwnReading) → ℕ) → Exchange → Type 0
  Keeps last z = NumbersAre z (record {
    last = last_reported x.sending z.sending (last (own_reading z));
    latest = latest_seen (own_reading x) (own_reading z) s.latest;
  })

  -- no report starts
  unreported : (z : Exchange) (last : ℕ) → (StartsReport x z → ⊥)
      → NumbersAre z (record { last = last; latest = latest_seen (own_reading x) (own_reading z) s.latest }) → Keeps (λ own. last) z
  unreported z last none = subst (λ n. NumbersAre z (record { last = n; latest = latest_seen (own_reading x) (own_reading z) s.latest })) (sym (none_started x z none last))

  -- nothing is told
  none : Keeps (λ own. s.last) (after [])
  unfolding exchange.track
  none = unreported x s.last (λ q. q.new refl) (stays_on x s w x refl)

  one : (k : exchange.Call) → NumbersAre (after (k ∷ [])) (numbers_told c x room s k)
  unfolding exchange.track
  one k = numbers_kept_on c x room (four_places x sound) s k w

  -- a byte, a tick, drained: a report that starts alone gives a number
  few_kept : (ks : List exchange.Call) → Few ks → ((r : Request) → Among (exchange.request r) ks → ⊥) → Keeps (λ own. s.last) (after ks)
  unfolding exchange.track
  few_kept _ device.none unasked = none
  few_kept _ (device.one (exchange.block h d)) unasked = one (exchange.block h d)
  few_kept _ (device.one exchange.tick) unasked = one exchange.tick
  few_kept _ (device.one exchange.put_out) unasked =
      unreported (put_out_of x) s.last (λ q. q.new (sym (sending_ends c x).put_out)) (one exchange.put_out)
  few_kept _ (device.one exchange.acknowledged) unasked = one exchange.acknowledged
  few_kept _ (device.one exchange.failed) unasked = one exchange.failed
  few_kept _ (device.one (exchange.request r)) unasked = absurd (unasked r here)
  few_kept _ device.lost_on_tick_lem unasked = two_kept c x (four_places x sound) (four_places _ (sound_on c x room exchange.failed sound)) room s w

  quietly : on_the_line m.call ≡ true → Keeps (λ own. s.last) (next t m).link.exchange
  quietly l =
      subst (Keeps (λ own. s.last)) (goes t m)
      (few_kept (on_exchange_in t m) (few_told t m) (λ r a. false≢true (sym (ap on_the_line (((told_exactly t m).asks r).0 a).1) ∙ l)))

  -- a request, refused or not
  module _ (r : Request) where
    abbrev Asks : Left → Type 0
    Asks l = Keeps (λ own. last_of l.answer.outcome r own s.last) (after (unless_refused l.answer.outcome (exchange.request r ∷ [])))

    taken : (p : ℕ) → (answering t.link r room).answer.asked ≡ Ok p → Keeps (λ own. last_of (outcome.Taken p) r own s.last) (after (exchange.request r ∷ []))
    unfolding exchange.track
    taken p e =
        let z = (answering t.link r room).answer.exchange in
        unreported z (last_of (outcome.Taken p) r (own_reading z) s.last) (request_starts c x room (four_places x sound) r)
        (subst (λ (a : Asked). NumbersAre z (record { last = last_asked r a (own_reading z) s.last; latest = latest_seen (own_reading x) (own_reading z) s.latest })) e
        (one (exchange.request r)))

    asks : Asks (called t.link room m.out (request r))
    asks = by_request t.link r room m.out Asks (λ n e. none) (λ p e l. taken p e) (λ p e l. taken p e) (λ n. none)

module _ (t : Track) (sound : Sound t.link.exchange) (s : NumbersSeen) (w : NumbersAre t.link.exchange s) where
  step : (k : Call) (r : Room) (o : List ℕ) → (let m : Made = record { call = k; room = r; out = o } in NumbersAre (next t m).link.exchange (numbers_sees t s m))
  step (byte b fits) r o = quietly t sound s w (record { call = byte b fits; room = r; out = o }) refl
  step tick r o = quietly t sound s w (record { call = tick; room = r; out = o }) refl
  step drained r o = quietly t sound s w (record { call = drained; room = r; out = o }) refl
  step (request q) r o =
      let m : Made = record { call = request q; room = r; out = o } in
      subst (Keeps t sound s w m (λ own. last_of (answered t m).answer.outcome q own s.last)) (goes t m) (asks t sound s w m q)

  pub call_kept : (m : Made) → NumbersAre (next t m).link.exchange (numbers_sees t s m)
  call_kept m = step m.call m.room m.out

-- ---- any calls

calls_kept : (t : Track) → Reached t → (s : NumbersSeen) (ms : List Made) → NumbersAre t.link.exchange s → NumbersAre (track t ms).link.exchange (numbers_watch t s ms)
unfolding track numbers_watch
calls_kept t r s [] w = w
calls_kept t r s (m ∷ ms) w = calls_kept (next t m) (reached_next t r m) (numbers_sees t s m) ms (call_kept t (sound_inside t r) s w m)

pub numbers_kept : NumbersKept
numbers_kept t r fits =
    subst (λ (v : Track). NumbersAre v.link.exchange (numbers_seen t r)) r.so
    (calls_kept (start t r) (reached_start t r) (numbers_at_start r.setup.last) r.calls (numbers_fresh r.setup.last fits))

-- and so the last one is read
pub last_number_read : LastNumberRead
last_number_read t r fits = (numbers_kept t r fits).last

-- ---- the number of a new primary

pub number_distinct : NumberDistinct
number_distinct t r fits m p q o =
    let x = t.link.exchange in
    let y = request_taken t m (primary q o.rest) o.told in
    let same : y.place ≡ p = let e = sym y.outcome ∙ o.place in cc in
    subst (λ (z : Exchange). NumberNew x (numbers_seen t r) (number_shown (own_reading z p))) (request_leads t m (primary q o.rest) o.told)
    (number_new (terms_in t) x (four_places x (sound_inside t r)) (numbers_seen t r) (numbers_kept t r fits) q o.rest (lent t m) p
    (y.asked ∙ ap Ok same))
