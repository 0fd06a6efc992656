-- The transaction numbers, where a send fails on a tick: "On a tick the line goes first, then own places 0 to 3". What is seen of the latest own
-- transaction to get a verdict, and of the last number given, from before both is what is seen of one and then of the other; and a report that
-- starts in either has the next number (02, request 2: "On a tick a failed message lets the oldest start, then places 0 to 3 add theirs").
-- The tick gives verdict 6. Assumes nothing.
use Rattle.std.specs.Prelude.{Option, Some, None}
use Prim.Native.Nat.{ℕ, ◌<◌}
use mathlib.Core.Path.{◌≡◌, refl, sym, ap, ◌∙◌, subst}
use mathlib.Core.Bool.{Bool, true, false, cond, false≢true}
use mathlib.Core.List.{List, [], ◌∷◌, map}
use mathlib.Core.Logic.{◌⊎◌, inl, inr, ⊎_elim, ◌≢◌}
use native.Mathlib.Omega.{arith}
use lib.ListN.{length-map}
use Rattle.wire.proofs.Choice.{either}
use Rattle.settings.specs.declared.terms.Terms.{Terms}
use Rattle.settings.proofs.Timers.{by_timer}
use Rattle.place.specs.Arriving.{arriving_tick}
use Rattle.place.specs.declared.Arriving.{Arriving}
use Rattle.place.specs.Own.{fresh_own, primary_of, own_is_free, own_standing, own_kept, ended, own_failed, awaited_by, await_tick, replying_by, reply_tick, own_tick}
use Rattle.place.specs.declared.Verdict.{Verdict}
use Rattle.place.specs.declared.OwnStage.{OwnStage}
use Rattle.place.specs.declared.OwnStage.TheVariants as stage
use Rattle.place.specs.declared.Own.{Own}
use Rattle.table.specs.Number.{number_of, held_number, first_after, next_number}
use Rattle.table.specs.Theorems.{InUse}
use Rattle.table.proofs.Giving.{next_alike}
use Rattle.table.proofs.Tables.{own_table}
use Rattle.exchange.specs.Exchange.{own_place, put_own, put_incoming, with_sending}
use Rattle.exchange.specs.Tick.{passed_of, tick_of}
use Rattle.exchange.specs.Send.{ended_own, ended_reply, ended_report, failed_by, failed_of}
use Rattle.exchange.specs.Reading.{own_reading, reads_own}
use Rattle.exchange.specs.Rules.{Fours}
use Rattle.exchange.specs.Reports.{same_message}
use Rattle.exchange.specs.Request.{sending_by}
use Rattle.exchange.specs.BeingSent.{NoneOrReport, none, report, ReportBegins}
use Rattle.exchange.specs.History as exchange
use Rattle.exchange.specs.Numbers.{number_shown, by_line, by_place, gets, NumbersSeen, highest, latest_seen, last_started, last_reported, numbers_sees, NumbersAre, StartsReport, in_use, NumberNew}
use Rattle.exchange.specs.Reporting.{is_six}
use Rattle.exchange.specs.declared.OwnReading.{OwnReading}
use Rattle.exchange.specs.declared.Sending.{Sending}
use Rattle.exchange.specs.declared.Sending.TheVariants as sending
use Rattle.exchange.specs.declared.Exchange.{Exchange}
use Rattle.exchange.proofs.Tables.{set_one}
use Rattle.exchange.proofs.Same.{same_message_lem, message_same}
use Rattle.exchange.proofs.BeingSent.{sending_ends}
use Rattle.exchange.proofs.Numbering.{read, same_gets, Shown, seen_shown, tick_gets, ticked_gets, highest_none, call_seen, same_started, last_goes, numbers_kept_on, used, report_distinct}

-- one place goes from a to b by the line, and then by the tick
record Steps (c : Terms) (a b : Own) : Type 0 where
  -- the line gives no verdict of a place
  pub of_line : gets by_place (read a) (read b) ≡ false
  -- what is seen from before the call is what each gives
  pub by_line_lem : gets by_line (read a) (read (own_tick c b)) ≡ gets by_line (read a) (read b)
  pub by_tick : gets by_place (read a) (read (own_tick c b)) ≡ gets by_place (read b) (read (own_tick c b))
  -- verdict 6 too
  pub by_six : gets is_six (read a) (read (own_tick c b)) ≡ gets is_six (read b) (read (own_tick c b))
  pub number : number_shown (read (own_tick c b)) ≡ number_shown (read b)

-- a tick leaves its number
waited_number : (h : List ℕ) (a : Arriving) (w : Option Arriving)
    → number_shown (read (replying_by (record { header = h; stage = stage.Replying a }) w)) ≡ number_shown (read (record { header = h; stage = stage.Replying a }))
unfolding ended
waited_number h a None = refl
waited_number h a (Some b) = refl

ticked_number : (c : Terms) (h : List ℕ) (z : OwnStage) → number_shown (read (own_tick c (record { header = h; stage = z }))) ≡ number_shown (read (record { header = h; stage = z }))
unfolding await_tick reply_tick ended
ticked_number c h stage.Free = refl
ticked_number c h stage.Sending = refl
ticked_number c h stage.PutOut = refl
ticked_number c h (stage.Awaiting timer) =
    let o : Own = record { header = h; stage = stage.Awaiting timer } in
    by_timer c.t3 timer (λ t. number_shown (read (awaited_by o t)) ≡ number_shown (read o)) (λ _. refl) (λ _. refl)
ticked_number c h (stage.Replying a) = waited_number h a (arriving_tick c a)
ticked_number c h (stage.Done v r) = refl

-- and leaves it in use, or free
waited_use : (h : List ℕ) (a : Arriving) (w : Option Arriving) → in_use (read (replying_by (record { header = h; stage = stage.Replying a }) w)) ≡ true
unfolding ended
waited_use h a None = refl
waited_use h a (Some b) = refl

ticked_use : (c : Terms) (h : List ℕ) (z : OwnStage) → in_use (read (own_tick c (record { header = h; stage = z }))) ≡ in_use (read (record { header = h; stage = z }))
unfolding await_tick reply_tick ended
ticked_use c h stage.Free = refl
ticked_use c h stage.Sending = refl
ticked_use c h stage.PutOut = refl
ticked_use c h (stage.Awaiting timer) =
    by_timer c.t3 timer (λ t. in_use (read (awaited_by (record { header = h; stage = stage.Awaiting timer }) t)) ≡ true) (λ _. refl) (λ _. refl)
ticked_use c h (stage.Replying a) = waited_use h a (arriving_tick c a)
ticked_use c h (stage.Done v r) = refl

-- the line leaves it as it is
same_steps : (c : Terms) (a : Own) → Steps c a a
same_steps c a = record {
  of_line = same_gets by_place (read a);
  by_line_lem = tick_gets c a.header a.stage ∙ sym (same_gets by_line (read a));
  by_tick = refl;
  by_six = refl;
  number = ticked_number c a.header a.stage;
}

-- its send fails
failed_steps : (c : Terms) (h : List ℕ) (z : OwnStage) → Steps c (record { header = h; stage = z }) (own_failed (record { header = h; stage = z }))
unfolding gets ended
failed_steps c h stage.Free = same_steps c _
failed_steps c h stage.Sending = record { of_line = refl; by_line_lem = refl; by_tick = refl; by_six = refl; number = refl }
failed_steps c h stage.PutOut = record { of_line = refl; by_line_lem = refl; by_tick = refl; by_six = refl; number = refl }
failed_steps c h (stage.Awaiting timer) = same_steps c _
failed_steps c h (stage.Replying a) = same_steps c _
failed_steps c h (stage.Done v r) = same_steps c _

-- what is read alike gives the same latest
highest_alike : (kind : Verdict → Bool) (f g v w : ℕ → Option OwnReading) (n : ℕ) → ((k : ℕ) → k < 4 → gets kind (f k) (g k) ≡ gets kind (v k) (w k))
    → ((k : ℕ) → k < 4 → number_shown (g k) ≡ number_shown (w k)) → highest kind f g n ≡ highest kind v w n
unfolding highest
highest_alike kind f g v w n same number =
    λ i.
    cond (same 3 (omega arith) i) (number 3 (omega arith) i)
    (cond (same 2 (omega arith) i) (number 2 (omega arith) i)
    (cond (same 1 (omega arith) i) (number 1 (omega arith) i)
    (cond (same 0 (omega arith) i) (number 0 (omega arith) i) n)))

module _ (c : Terms) (x : Exchange) (four : Fours x) (next_four : Fours (failed_of x).exchange) where
  abbrev y : Exchange
  y = (failed_of x).exchange

  abbrev z : Exchange
  z = (tick_of c y).exchange

  -- of four places
  failed_place : (k : ℕ) → k < 4 → (q : Sending) → Steps c (own_place x k) (own_place (failed_by q x).exchange k)
  unfolding ended_own ended_reply ended_report put_own put_incoming with_sending
  failed_place k less sending.Nothing = same_steps c (own_place x k)
  failed_place k less (sending.Primary p n) =
      set_one (λ t (o : Own). Steps c (own_place x k) o) x.own fresh_own p _ k (omega (arith, four.own))
      (λ e. subst (λ (j : ℕ). Steps c (own_place x j) (own_failed (own_place x p))) e (failed_steps c (own_place x p).header (own_place x p).stage)) (same_steps c (own_place x k))
  failed_place k less (sending.Reply p f n) = same_steps c (own_place x k)
  failed_place k less (sending.Report f n) = same_steps c (own_place x k)

  steps : (k : ℕ) → k < 4 → Steps c (own_place x k) (own_place y k)
  steps k less = failed_place k less x.sending

  ticked : (k : ℕ) → k < 4 → own_place z k ≡ own_tick c (own_place y k)
  unfolding passed_of
  ticked k less = (own_table y.own c next_four.own).1.each k less

  -- the tick gives verdict 6
  pub two_sixes : (k : ℕ) → k < 4 → gets is_six (own_reading x k) (own_reading z k) ≡ gets is_six (own_reading y k) (own_reading z k)
  unfolding own_reading
  two_sixes k less = rw (ticked k less) (steps k less).by_six

  -- in one call as in two
  pub two_latest : (n : ℕ) → latest_seen (own_reading y) (own_reading z) (latest_seen (own_reading x) (own_reading y) n) ≡ latest_seen (own_reading x) (own_reading z) n
  unfolding own_reading
  two_latest n =
      let f = own_reading x in
      let g = own_reading y in
      let h = own_reading z in
      ap (highest by_place g h)
      (highest_none by_line g h _ (ticked_gets c y next_four.own) ∙ highest_none by_place f g _ (λ k less. (steps k less).of_line)
      ∙ highest_alike by_line f g f h n (λ k less. rw (ticked k less) (sym (steps k less).by_line_lem)) (λ k less. rw (ticked k less) (sym (steps k less).number)))
      ∙ highest_alike by_place g h f h _ (λ k less. rw (ticked k less) (sym (steps k less).by_tick)) (λ k less. refl)

  -- ---- the number of a report that starts

  -- the tick leaves the numbers of places in use
  held_shown : (o : Own) → held_number o ≡ number_shown (read o)
  unfolding held_number number_of
  held_shown o = either (own_is_free o) (λ t. cond t 0 (number_of o) ≡ number_shown (cond t None (reads_own (primary_of o) (own_standing o) (own_kept o)))) (λ e. refl) (λ e. refl)

  held_on : (os : List Own) → map held_number (map (own_tick c) os) ≡ map held_number os
  held_on [] = refl
  held_on (o ∷ os) =
      let same = held_shown (own_tick c o) ∙ ticked_number c o.header o.stage ∙ sym (held_shown o) in
      λ i. same i ∷ held_on os i

  -- so with the same latest the next one is the same
  next_on : (last n : ℕ) → next_number z.own last n ≡ next_number y.own last n
  unfolding next_number passed_of
  next_on last n = ap (λ (hs : List ℕ). first_after 6 (n ∷ hs) last) (held_on y.own)

  -- what a place showed before the tick it shows behind it
  use_on : (k : ℕ) → k < 4 → in_use (own_reading z k) ≡ in_use (own_reading y k)
  unfolding own_reading
  use_on k less = rw (ticked k less) (ticked_use c (own_place y k).header (own_place y k).stage)

  number_on : (k : ℕ) → k < 4 → number_shown (own_reading z k) ≡ number_shown (own_reading y k)
  unfolding own_reading
  number_on k less = rw (ticked k less) (ticked_number c (own_place y k).header (own_place y k).stage)

  shown_on : (n : ℕ) → Shown (own_reading y) n → Shown (own_reading z) n
  shown_on n w = record {
    place = w.place;
    within = w.within;
    used = use_on w.place w.within ∙ w.used;
    number = w.number ∙ sym (number_on w.place w.within);
  }

  shown_used : (n : ℕ) → Shown (own_reading z) n → InUse z.own n
  unfolding own_reading passed_of
  shown_used n w =
      let o = own_place z w.place in
      let u = used o.header o.stage w.used in
      record { place = w.place; within = omega (arith, w.within, next_four.own, length-map y.own (own_tick c)); not_free = u.0; number = u.1 ∙ sym w.number }

  -- ---- both, with the numbers that an onlooker keeps

  module _ (room : List ℕ) (s : NumbersSeen) (w : NumbersAre x s) where
    -- behind the line
    between : NumbersAre y (numbers_sees c x room s exchange.failed)
    between = numbers_kept_on c x room four s exchange.failed w

    behind : NumbersAre z (numbers_sees c y room (numbers_sees c x room s exchange.failed) exchange.tick)
    behind = numbers_kept_on c y room next_four (numbers_sees c x room s exchange.failed) exchange.tick between

    -- a report that starts where nothing is being sent any more
    ended_last : (a v : Sending) → NoneOrReport v → ((f n : ℕ) → a ≡ sending.Report f n → n ≡ s.last) → last_reported sending.Nothing v s.last ≡ last_reported a v s.last
    ended_last a _ none on = refl
    ended_last a _ (report f n) on =
        either (same_message a (sending.Report f n)) (λ t. n ≡ cond t s.last n) (λ e. on f n (same_message_lem a (sending.Report f n) e)) (λ e. refl)

    two_last : last_reported y.sending z.sending (last_reported x.sending y.sending s.last) ≡ last_reported x.sending z.sending s.last
    two_last =
        ⊎_elim
        (λ (e : z.sending ≡ y.sending).
        ap (λ (t : Bool). last_started t z.sending (last_reported x.sending y.sending s.last)) (message_same y.sending z.sending (sym e))
        ∙ same_started z.sending _ ∙ ap (λ (v : Sending). last_reported x.sending v s.last) (sym e))
        (λ (b : ReportBegins y.sending z.sending).
        ap (λ (v : Sending). last_reported v z.sending (last_reported x.sending v s.last)) b.was ∙ ended_last x.sending z.sending b.now w.report)
        (sending_ends c y).ticked

    pub two_kept : NumbersAre z (record { last = last_reported x.sending z.sending s.last; latest = latest_seen (own_reading x) (own_reading z) s.latest })
    two_kept = record {
      last = behind.last ∙ two_last;
      latest = behind.latest ∙ two_latest s.latest;
      report = λ f n e. behind.report f n e ∙ two_last;
      fits = behind.fits;
    }

    -- it started by the line, or by the tick where nothing was being sent
    by_start : (P : ℕ → Type 0) → ((q : StartsReport x y) → z.numbers.last ≡ y.numbers.last → P q.number)
        → ((q : StartsReport y z) → y.numbers.last ≡ x.numbers.last → P q.number) → (q : StartsReport x z) → P q.number
    by_start P line time q =
        ⊎_elim
        (λ (e : z.sending ≡ y.sending).
        line (record { function = q.function; number = q.number; now = sym e ∙ q.now; new = λ k. q.new (k ∙ sym e) })
        ((last_goes c y room next_four _ between exchange.tick).stays (λ g. false≢true (let k = g.so in cc)) (λ k. k.new (sym e))))
        (λ (b : ReportBegins y.sending z.sending).
        time (record { function = q.function; number = q.number; now = q.now; new = λ k. false≢true (ap sending_by (sym b.was ∙ k ∙ q.now)) })
        ((last_goes c x room four s w exchange.failed).stays (λ g. false≢true (let k = g.so in cc)) (λ k. false≢true (ap sending_by (sym b.was ∙ k.now)))))
        (sending_ends c y).ticked

    -- "the next after the last given", by the latest verdict before the call or behind it: that of the failed send is one of a place in use
    pub two_follows : StartsReport x z
        → (z.numbers.last ≡ next_number z.own x.numbers.last x.numbers.latest) ⊎ (z.numbers.last ≡ next_number z.own x.numbers.last z.numbers.latest)
    two_follows =
        by_start (λ n. (z.numbers.last ≡ next_number z.own x.numbers.last x.numbers.latest) ⊎ (z.numbers.last ≡ next_number z.own x.numbers.last z.numbers.latest))
        (λ q e.
        let next : z.numbers.last ≡ next_number z.own x.numbers.last y.numbers.latest =
        e ∙ ((last_goes c x room four s w exchange.failed).started q).0 ∙ sym (next_on x.numbers.last y.numbers.latest) in
        ⊎_elim (λ (a : y.numbers.latest ≡ x.numbers.latest). inl (next ∙ ap (next_number z.own x.numbers.last) a))
        (λ (a : Shown (own_reading y) y.numbers.latest).
        ⊎_elim (λ (b : z.numbers.latest ≡ y.numbers.latest). inr (next ∙ ap (next_number z.own x.numbers.last) (sym b)))
        (λ (b : Shown (own_reading z) z.numbers.latest).
        inr (next ∙ next_alike z.own x.numbers.last y.numbers.latest z.numbers.latest (shown_used _ (shown_on _ a)) (shown_used _ b)))
        (seen_shown y z (call_seen c y room next_four exchange.tick)))
        (seen_shown x y (call_seen c x room four exchange.failed)))
        (λ q e.
        inr (((last_goes c y room next_four _ between exchange.tick).started q).0 ∙ ap (λ (n : ℕ). next_number z.own n z.numbers.latest) e))

    -- and it is new
    pub two_new : (q : StartsReport x z)
        → NumberNew z (record { last = last_reported x.sending z.sending s.last; latest = latest_seen (own_reading x) (own_reading z) s.latest }) q.number
    two_new =
        let seen : NumbersSeen = record { last = last_reported x.sending z.sending s.last; latest = latest_seen (own_reading x) (own_reading z) s.latest } in
        by_start (NumberNew z seen)
        (λ q e.
        let new = report_distinct c x room four s w exchange.failed q in
        let open_new : (k : ℕ) → k < 4 → in_use (own_reading z k) ≡ true → q.number ≢ number_shown (own_reading z k) =
        λ k less u same. new.from_open k less (sym (use_on k less) ∙ u) (same ∙ number_on k less) in
        record {
          from_open = open_new;
          from_latest = λ same.
              ⊎_elim (λ (b : z.numbers.latest ≡ y.numbers.latest). new.from_latest (same ∙ sym two_kept.latest ∙ b ∙ between.latest))
              (λ (b : Shown (own_reading z) z.numbers.latest). open_new b.place b.within b.used (same ∙ sym two_kept.latest ∙ b.number))
              (seen_shown y z (call_seen c y room next_four exchange.tick));
        })
        (λ q e.
        let new = report_distinct c y room next_four _ between exchange.tick q in
        record { from_open = new.from_open; from_latest = λ same. new.from_latest (same ∙ sym (two_latest s.latest)) })
