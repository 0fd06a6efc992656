-- The numbers that the state keeps are those that an onlooker keeps; and what one call does to each of them (`specs/Numbers.antt`). Assumes
-- nothing.
use Rattle.std.specs.Prelude.{Ok, Err, None, Option, Some}
use Prim.Native.Nat.{ℕ, zero, suc, ◌%◌, ◌≤◌, ◌<◌}
use mathlib.Core.Path.{◌≡◌, refl, sym, ap, ◌∙◌, subst}
use mathlib.Core.Bool.{Bool, true, false, cond, not, ◌&&◌, and-false, false≢true, true≢false}
use mathlib.Core.List.{List}
use mathlib.Core.Logic.{◌⊎◌, inl, inr, ⊎_elim, ◌≢◌}
use native.Mathlib.Omega.{arith}
use lib.Dec.{eqb, ltb}
use lib.ListN.{length, length-map, length-set, get_or-eq_default}
use lib.Seq.{set_out, get_or-set_same, get_or-set_other}
use borrow.Author.Tests.{eqb-true, eqb-false, ltb-true, ltb-false}
use Rattle.wire.proofs.Choice.{either}
use Rattle.header.specs.Header.{header_of, header_bytes}
use Rattle.header.specs.declared.header.Header.{Header}
use Rattle.settings.specs.declared.terms.Terms.{Terms}
use Rattle.settings.proofs.Timers.{by_timer}
use Rattle.place.proofs.Arrivals.{by_waited}
use Rattle.place.specs.Own.{fresh_own, primary_of, standing_at, given_by, own_standing, own_is_free, own_has_verdict, own_kept, ended, own_put_out, own_sent, own_failed, awaited_by, await_tick, replying_by, reply_tick, own_tick, own_offered}
use Rattle.place.specs.declared.Verdict.{Verdict}
use Rattle.place.specs.declared.Verdict.TheVariants.{Sent, Answered, Declined, Other, Broken, NoReply, SendFailed}
use Rattle.place.specs.declared.Standing.TheVariants.{Free, Open, Given}
use Rattle.place.specs.declared.Reply.{Reply}
use Rattle.place.specs.declared.OwnStage.{OwnStage}
use Rattle.place.specs.declared.OwnStage.TheVariants as stage
use Rattle.place.specs.declared.Own.{Own}
use Rattle.reports.specs.declared.Reports.{Reports}
use Rattle.table.specs.Own.{own_at, own_put, ticked_own}
use Rattle.table.specs.Number.{number_of, next_number}
use Rattle.table.proofs.Finding.{reply_lowest}
use Rattle.table.proofs.Giving.{number_given_lem, next_other}
use Rattle.table.proofs.Tables.{own_table}
use Rattle.exchange.specs.Exchange.{fresh_exchange, own_place, got_verdict, latest_after, put_own, put_incoming, with_sending, put_replied, saved_now}
use Rattle.exchange.specs.Tick.{passed_of, tick_of}
use Rattle.exchange.specs.Send.{put_out_by, ended_own, ended_reply, ended_report, sent_by, failed_by, freeing}
use Rattle.exchange.specs.Judge.{thrown, reply_block, message_block, begins_at, rules_of, box_behind}
use Rattle.exchange.specs.Reports.{outbox_of, same_message}
use Rattle.exchange.specs.BeingSent.{sending_after}
use Rattle.exchange.specs.Theorems.{from_caller}
use Rattle.exchange.specs.Reading.{own_reading, reads_own}
use Rattle.exchange.specs.Request.{sending_by, Requesting, refused_by, refused, reply_accepted, Request, primary, reply, freeing_own, freeing_incoming, answer_of}
use Rattle.exchange.specs.Refusals.{number_given, Opened}
use Rattle.exchange.specs.Rules.{Fours}
use Rattle.exchange.specs.History.{Call, block, tick, put_out, acknowledged, failed, request, called, at_start}
use Rattle.exchange.specs.Numbers.{number_shown, given, shows, any_verdict, by_line, by_place, gets, NumbersSeen, highest, latest_seen, last_asked, last_started, last_reported, numbers_sees, numbers_at_start, NumbersAre, NumbersKeptOn, NumbersKept, GivesNumber, StartsReport, LastMoves, LastGoes, Got, NotByLine, LatestMoves, LatestGoes, in_use, NumberNew, NumberDistinct, ReportDistinct}
use Rattle.exchange.specs.declared.Sending.{Sending}
use Rattle.exchange.specs.declared.Sending.TheVariants as sending
use Rattle.exchange.specs.declared.Numbers.{Numbers}
use Rattle.exchange.specs.declared.Changed.{Changed}
use Rattle.exchange.specs.declared.Exchange.{Exchange}
use Rattle.exchange.specs.declared.OwnReading.{OwnReading}
use Rattle.exchange.specs.declared.Primary.{Primary}
use Rattle.exchange.proofs.Cases.{by_behind, by_judge, by_request}
use Rattle.exchange.proofs.Refusing.{lowest_free}
use Rattle.exchange.proofs.Accepting.{opened, accepted_opens, own_released_lem}
use Rattle.exchange.proofs.Same.{message_same, message_other, other_message}
use Rattle.exchange.proofs.Starting.{Box, still, over, begins, freed_on, judged_on, ticked_on}
use Rattle.exchange.proofs.BeingSent.{request_sends, sending_ends}
use Rattle.exchange.proofs.Runs.{four_places, sound_fresh, run_any}
use Rattle.place.specs.declared.Standing.{Standing}
use Rattle.exchange.specs.Asked.{Asked}

-- ---- one place

-- what is read of it
abbrev pub read : Own → Option OwnReading
read o = cond (own_is_free o) None (reads_own (primary_of o) (own_standing o) (own_kept o))

-- one that stays as it is gets no verdict
pub same_gets : (kind : Verdict → Bool) (r : Option OwnReading) → gets kind r r ≡ false
unfolding gets
same_gets kind None = refl
same_gets kind (Some r) = by r.standing
  where
    by : (s : Standing) → not (given any_verdict s) && given kind s ≡ false
    by Free = refl
    by Open = refl
    by (Given v) = refl

-- nor does one that is left without
open_shows : (kind : Verdict → Bool) (h : List ℕ) (z : OwnStage) → given_by (standing_at z) ≡ false → shows kind (read (record { header = h; stage = z })) ≡ false
open_shows kind h stage.Free e = refl
open_shows kind h stage.Sending e = refl
open_shows kind h stage.PutOut e = refl
open_shows kind h (stage.Awaiting timer) e = refl
open_shows kind h (stage.Replying a) e = refl
open_shows kind h (stage.Done v r) e = absurd (true≢false e)

open_gets : (kind : Verdict → Bool) (r : Option OwnReading) (o : Own) → own_has_verdict o ≡ false → gets kind r (read o) ≡ false
unfolding gets
open_gets kind r o e = ap (λ (t : Bool). not (shows any_verdict r) && t) (open_shows kind o.header o.stage e) ∙ and-false (not (shows any_verdict r))

-- a verdict is one of the line or one of the place
one_kind : (t : Bool) (m n : ℕ) → cond (not t) m (cond t m n) ≡ m
one_kind true m n = refl
one_kind false m n = refl

-- what is read of it tells whether it has one
pub shown : (h : List ℕ) (z : OwnStage) → shows any_verdict (read (record { header = h; stage = z })) ≡ given_by (standing_at z)
shown h stage.Free = refl
shown h stage.Sending = refl
shown h stage.PutOut = refl
shown h (stage.Awaiting timer) = refl
shown h (stage.Replying a) = refl
shown h (stage.Done v r) = refl

-- so it does whether it gets one; t is whether it had one before
after_shown : (t : Bool) (h : List ℕ) (z : OwnStage) (n : ℕ)
    → (let r = read (record { header = h; stage = z }) in cond (not t && shows by_place r) (number_shown r) (cond (not t && shows by_line r) (number_shown r) n))
    ≡ cond (not t && given_by (standing_at z)) ((header_of h).system % 65536) n
after_shown true h z n = refl
after_shown false h stage.Free n = refl
after_shown false h stage.Sending n = refl
after_shown false h stage.PutOut n = refl
after_shown false h (stage.Awaiting timer) n = refl
after_shown false h (stage.Replying a) n = refl
after_shown false h (stage.Done v r) n = one_kind (by_line v) ((header_of h).system % 65536) n

-- if it gets one, its number is the latest
one_latest : (a o : Own) (n : ℕ)
    → cond (gets by_place (read a) (read o)) (number_shown (read o)) (cond (gets by_line (read a) (read o)) (number_shown (read o)) n) ≡ latest_after n a o
unfolding gets latest_after got_verdict number_of
one_latest a o n = rw (shown a.header a.stage) (after_shown (own_has_verdict a) o.header o.stage n)

-- ---- four places

module _ (kind : Verdict → Bool) (f g : ℕ → Option OwnReading) (n : ℕ) where
  -- none gets one
  pub highest_none : ((k : ℕ) → k < 4 → gets kind (f k) (g k) ≡ false) → highest kind f g n ≡ n
  unfolding highest
  highest_none none = rw (none 3 (omega arith), none 2 (omega arith), none 1 (omega arith), none 0 (omega arith))

  -- no other than place q does
  highest_one : (q : ℕ) → q < 4 → ((k : ℕ) → k < 4 → k ≢ q → gets kind (f k) (g k) ≡ false)
      → highest kind f g n ≡ cond (gets kind (f q) (g q)) (number_shown (g q)) n
  unfolding highest
  highest_one zero less none = rw (none 3 (omega arith) (λ e. omega arith), none 2 (omega arith) (λ e. omega arith), none 1 (omega arith) (λ e. omega arith))
  highest_one (suc zero) less none = rw (none 3 (omega arith) (λ e. omega arith), none 2 (omega arith) (λ e. omega arith), none 0 (omega arith) (λ e. omega arith))
  highest_one (suc (suc zero)) less none = rw (none 3 (omega arith) (λ e. omega arith), none 1 (omega arith) (λ e. omega arith), none 0 (omega arith) (λ e. omega arith))
  highest_one (suc (suc (suc zero))) less none = rw (none 2 (omega arith) (λ e. omega arith), none 1 (omega arith) (λ e. omega arith), none 0 (omega arith) (λ e. omega arith))
  highest_one (suc (suc (suc (suc q)))) less none = absurd (omega arith)

  -- place q does, and none above it
  highest_top : (q : ℕ) → q < 4 → gets kind (f q) (g q) ≡ true → ((k : ℕ) → q < k → k < 4 → gets kind (f k) (g k) ≡ false) → highest kind f g n ≡ number_shown (g q)
  unfolding highest
  highest_top zero less got none = rw (none 3 (omega arith) (omega arith), none 2 (omega arith) (omega arith), none 1 (omega arith) (omega arith), got)
  highest_top (suc zero) less got none = rw (none 3 (omega arith) (omega arith), none 2 (omega arith) (omega arith), got)
  highest_top (suc (suc zero)) less got none = rw (none 3 (omega arith) (omega arith), got)
  highest_top (suc (suc (suc zero))) less got none = rw got
  highest_top (suc (suc (suc (suc q)))) less got none = absurd (omega arith)

-- a place in use shows this number
pub record Shown (g : ℕ → Option OwnReading) (n : ℕ) : Type 0 where
  pub place : ℕ
  pub within : place < 4
  pub used : in_use (g place) ≡ true
  pub number : n ≡ number_shown (g place)

-- one that gets a verdict is in use
gets_used : (kind : Verdict → Bool) (r s : Option OwnReading) → gets kind r s ≡ true → in_use s ≡ true
unfolding gets
gets_used kind r None e = absurd (false≢true (sym (and-false (not (shows any_verdict r))) ∙ e))
gets_used kind r (Some k) e = refl

-- so the highest is shown by one, or is as it was
module _ (kind : Verdict → Bool) (f g : ℕ → Option OwnReading) (n : ℕ) where
  abbrev AsWas : ℕ → Type 0
  AsWas m = (m ≡ n) ⊎ Shown g m

  one_shown : (k : ℕ) → k < 4 → (m : ℕ) → AsWas m → AsWas (cond (gets kind (f k) (g k)) (number_shown (g k)) m)
  one_shown k less m w =
      either (gets kind (f k) (g k)) (λ t. AsWas (cond t (number_shown (g k)) m))
      (λ e. inr (record { place = k; within = less; used = gets_used kind (f k) (g k) e; number = refl })) (λ e. w)

  highest_shown : (m : ℕ) → AsWas m → AsWas (highest kind f g m)
  unfolding highest
  highest_shown m w =
      one_shown 3 (omega arith) _ (one_shown 2 (omega arith) _ (one_shown 1 (omega arith) _ (one_shown 0 (omega arith) m w)))

module _ (x y : Exchange) (n : ℕ) where
  -- the latest is shown by a place in use, or is as it was
  latest_shown : (latest_seen (own_reading x) (own_reading y) n ≡ n) ⊎ Shown (own_reading y) (latest_seen (own_reading x) (own_reading y) n)
  latest_shown =
      highest_shown by_place (own_reading x) (own_reading y) n _ (highest_shown by_line (own_reading x) (own_reading y) n n (inl refl))

  -- no place gets a verdict
  latest_none : ((kind : Verdict → Bool) (k : ℕ) → k < 4 → gets kind (own_reading x k) (own_reading y k) ≡ false) → latest_seen (own_reading x) (own_reading y) n ≡ n
  latest_none none = highest_none by_place (own_reading x) (own_reading y) _ (none by_place) ∙ highest_none by_line (own_reading x) (own_reading y) n (none by_line)

  -- the places are as they were
  latest_same : x.own ≡ y.own → latest_seen (own_reading x) (own_reading y) n ≡ n
  unfolding own_reading
  latest_same same = latest_none (λ kind k less. subst (λ os. gets kind (read (own_place x k)) (read (own_at os k)) ≡ false) same (same_gets kind (read (own_place x k))))

  -- or but for place p, which is left without one
  latest_without : (p : ℕ) → ((k : ℕ) → k ≢ p → own_place y k ≡ own_place x k) → own_has_verdict (own_place y p) ≡ false → latest_seen (own_reading x) (own_reading y) n ≡ n
  unfolding own_reading
  latest_without p others without =
      latest_none (λ kind k less.
      either (eqb k p) (λ t. gets kind (read (own_place x k)) (read (own_place y k)) ≡ false)
      (λ e. open_gets kind (read (own_place x k)) (own_place y k) (ap (λ (j : ℕ). own_has_verdict (own_place y j)) (eqb-true k p e) ∙ without))
      (λ e. rw (others k (eqb-false k p e)) (same_gets kind (read (own_place x k)))))

  -- place p is put anew
  latest_put : (p : ℕ) (o : Own) → p < length x.own → length x.own ≡ 4 → y.own ≡ own_put x.own p o
      → latest_seen (own_reading x) (own_reading y) n ≡ latest_after n (own_place x p) o
  unfolding own_reading
  latest_put p o less four put =
      let there : own_place y p ≡ o = ap (λ (os : List Own). own_at os p) put ∙ get_or-set_same x.own p o fresh_own less in
      let none : (kind : Verdict → Bool) (k : ℕ) → k < 4 → k ≢ p → gets kind (read (own_place x k)) (read (own_place y k)) ≡ false =
      λ kind k within ne.
      subst (λ (a : Own). gets kind (read (own_place x k)) (read a) ≡ false)
      (sym (ap (λ (os : List Own). own_at os k) put ∙ get_or-set_other x.own p k o fresh_own ne)) (same_gets kind (read (own_place x k))) in
      highest_one by_place (own_reading x) (own_reading y) _ p (omega arith) (none by_place)
      ∙ ap (cond (gets by_place (own_reading x p) (own_reading y p)) (number_shown (own_reading y p))) (highest_one by_line (own_reading x) (own_reading y) n p (omega arith) (none by_line))
      ∙ one_latest (own_place x p) (own_place y p) n
      ∙ ap (latest_after n (own_place x p)) there

-- ---- what a call is seen to do to the latest

abbrev pub Seen : Exchange → Exchange → Type 0
Seen x y = y.numbers.latest ≡ latest_seen (own_reading x) (own_reading y) x.numbers.latest

pub seen_shown : (x y : Exchange) → Seen x y → (y.numbers.latest ≡ x.numbers.latest) ⊎ Shown (own_reading y) y.numbers.latest
seen_shown x y e = subst (λ n. (n ≡ x.numbers.latest) ⊎ Shown (own_reading y) n) (sym e) (latest_shown x y x.numbers.latest)

-- no own place changes
same_seen : (x y : Exchange) → x.own ≡ y.own → y.numbers.latest ≡ x.numbers.latest → Seen x y
same_seen x y own same = same ∙ sym (latest_same x y x.numbers.latest own)

pub unchanged : (x y : Exchange) → y ≡ x → Seen x y
unchanged x y same = same_seen x y (ap (λ (z : Exchange). z.own) (sym same)) (ap (λ (z : Exchange). z.numbers.latest) same)

-- own place p does, and is left without a verdict
without : (x y : Exchange) (p : ℕ) → ((k : ℕ) → k ≢ p → own_place y k ≡ own_place x k) → own_has_verdict (own_place y p) ≡ false
    → y.numbers.latest ≡ x.numbers.latest → Seen x y
without x y p others none same = same ∙ sym (latest_without x y x.numbers.latest p others none)

-- own place p is put anew; none is put outside the table
put_seen : (x y : Exchange) (p : ℕ) (o : Own) → length x.own ≡ 4 → (4 ≤ p → o ≡ fresh_own) → y.own ≡ own_put x.own p o
    → y.numbers.latest ≡ latest_after x.numbers.latest (own_place x p) o → Seen x y
unfolding latest_after got_verdict
put_seen x y p o four out put latest =
    latest
    ∙ either (ltb p 4) (λ t. latest_after x.numbers.latest (own_place x p) o ≡ latest_seen (own_reading x) (own_reading y) x.numbers.latest)
    (λ e. sym (latest_put x y x.numbers.latest p o (omega (arith, ltb-true p 4 e)) four put))
    (λ e.
    let above : 4 ≤ p = ltb-false p 4 e in
    let none : latest_after x.numbers.latest (own_place x p) o ≡ x.numbers.latest =
    rw (get_or-eq_default x.own fresh_own {n = p} (omega arith), out above) in
    none ∙ sym (latest_same x y x.numbers.latest (sym (put ∙ set_out x.own p o (omega arith)))))

-- ---- a call that is no request, before anything is reported of it

-- z is what it leaves: no number is given; what is being sent goes on, or is over; and the latest is as it is seen
record Leaves (x z : Exchange) : Type 0 where
  four : length z.own ≡ 4
  last : z.numbers.last ≡ x.numbers.last
  sending : (z.sending ≡ x.sending) ⊎ (z.sending ≡ sending.Nothing)
  shown : z.reports.shown ≡ x.reports.shown
  seen : Seen x z

module _ (x : Exchange) (four : length x.own ≡ 4) where
  -- no own place changes
  same_left : (z : Exchange) → x.own ≡ z.own → z.numbers ≡ x.numbers → (z.sending ≡ x.sending) ⊎ (z.sending ≡ sending.Nothing) → z.reports ≡ x.reports → Leaves x z
  same_left z own numbers sends reports = record {
    four = ap length (sym own) ∙ four;
    last = ap (λ (n : Numbers). n.last) numbers;
    sending = sends;
    shown = ap (λ (r : Reports). r.shown) reports;
    seen = same_seen x z own (ap (λ (n : Numbers). n.latest) numbers);
  }

  -- own place p is put anew
  put_left : (z : Exchange) (p : ℕ) (o : Own) → (4 ≤ p → o ≡ fresh_own) → z.own ≡ own_put x.own p o
      → z.numbers ≡ record { last = x.numbers.last; latest = latest_after x.numbers.latest (own_place x p) o }
      → (z.sending ≡ x.sending) ⊎ (z.sending ≡ sending.Nothing) → z.reports ≡ x.reports → Leaves x z
  put_left z p o out put numbers sends reports = record {
    four = ap length put ∙ length-set x.own p o ∙ four;
    last = ap (λ (n : Numbers). n.last) numbers;
    sending = sends;
    shown = ap (λ (r : Reports). r.shown) reports;
    seen = put_seen x z p o four out put (ap (λ (n : Numbers). n.latest) numbers);
  }

  -- a primary goes on or ends, by f; where there is no place, nothing does
  outside : (f : Own → Own) → f fresh_own ≡ fresh_own → (p : ℕ) → 4 ≤ p → f (own_place x p) ≡ fresh_own
  outside f e p above = ap f (get_or-eq_default x.own fresh_own {n = p} (omega arith)) ∙ e

  put_out_left : (q : Sending) → Leaves x (put_out_by q x)
  unfolding put_own
  put_out_left sending.Nothing = same_left _ refl refl (inl refl) refl
  put_out_left (sending.Primary p n) = put_left _ p (own_put_out (own_place x p)) (outside own_put_out refl p) refl refl (inl refl) refl
  put_out_left (sending.Reply p f n) = same_left _ refl refl (inl refl) refl
  put_out_left (sending.Report f n) = same_left _ refl refl (inl refl) refl

  sent_left : (q : Sending) → Leaves x (sent_by q x).exchange
  unfolding ended_own ended_reply ended_report put_own put_incoming with_sending
  sent_left sending.Nothing = same_left _ refl refl (inl refl) refl
  sent_left (sending.Primary p n) = put_left _ p (own_sent (own_place x p)) (outside own_sent refl p) refl refl (inr refl) refl
  sent_left (sending.Reply p f n) = same_left _ refl refl (inr refl) refl
  sent_left (sending.Report f n) = same_left _ refl refl (inr refl) refl

  failed_left : (q : Sending) → Leaves x (failed_by q x).exchange
  unfolding ended_own ended_reply ended_report put_own put_incoming with_sending
  failed_left sending.Nothing = same_left _ refl refl (inl refl) refl
  failed_left (sending.Primary p n) = put_left _ p (own_failed (own_place x p)) (outside own_failed refl p) refl refl (inr refl) refl
  failed_left (sending.Reply p f n) = same_left _ refl refl (inr refl) refl
  failed_left (sending.Report f n) = same_left _ refl refl (inr refl) refl

  -- a block of a reply may give a verdict, any other gives none
  block_left : (c : Terms) (h d room : List ℕ) → Leaves x (rules_of c x h d room).answer.exchange
  unfolding thrown reply_block message_block begins_at saved_now put_own put_replied put_incoming with_sending
  block_left c h d room =
      by_judge c x h d room (λ j. Leaves x j.answer.exchange)
      (λ e. same_left _ refl refl (inl refl) refl) (λ e u. same_left _ refl refl (inl refl) refl)
      (λ p e r.
      put_left _ p (own_offered (own_place x p) (header_of h) (length d))
      (λ above. let within = (((reply_lowest x.own (header_of h) four).at p).0 r).0 in absurd (omega arith)) refl refl
      (by_behind (λ z. (z ≡ x.sending) ⊎ (z ≡ sending.Nothing)) x.sending p (λ t. inr refl) (λ t. inl refl)) refl)
      (λ p e r m. same_left _ refl refl (inl refl) refl) (λ p gone f e r m o v u t. same_left _ refl refl (inl refl) refl)
      (λ n t r m. same_left _ refl refl (inl refl) refl)

-- ---- a tick

-- it gives no verdict of the line
pub tick_gets : (c : Terms) (h : List ℕ) (z : OwnStage) → gets by_line (read (record { header = h; stage = z })) (read (own_tick c (record { header = h; stage = z }))) ≡ false
unfolding gets await_tick reply_tick ended
tick_gets c h stage.Free = refl
tick_gets c h stage.Sending = refl
tick_gets c h stage.PutOut = refl
tick_gets c h (stage.Awaiting timer) =
    by_timer c.t3 timer (λ t. shows by_line (read (awaited_by (record { header = h; stage = stage.Awaiting timer }) t)) ≡ false) (λ _. refl) (λ _. refl)
tick_gets c h (stage.Replying a) =
    by_waited c a (λ t. shows by_line (read (replying_by (record { header = h; stage = stage.Replying a }) t)) ≡ false) refl (λ _. refl)
tick_gets c h (stage.Done v r) = refl

module _ (c : Terms) (x : Exchange) (four : length x.own ≡ 4) where
  -- at each place
  pub ticked_gets : (k : ℕ) → k < 4 → gets by_line (own_reading x k) (own_reading (tick_of c x).exchange k) ≡ false
  unfolding own_reading passed_of
  ticked_gets k less = rw ((own_table x.own c four).1.each k less) (tick_gets c (own_place x k).header (own_place x k).stage)

  -- if it gets one, its number is the latest
  at_place : (k : ℕ) → k < 4 → (n : ℕ)
      → cond (gets by_place (own_reading x k) (own_reading (tick_of c x).exchange k)) (number_shown (own_reading (tick_of c x).exchange k)) n
      ≡ latest_after n (own_place x k) (own_place (tick_of c x).exchange k)
  unfolding own_reading
  at_place k less n =
      rw (ticked_gets k less) at (one_latest (own_place x k) (own_place (tick_of c x).exchange k) n)

  tick_left : Leaves x (passed_of c x).exchange
  unfolding own_reading passed_of highest
  tick_left =
      let n = x.numbers.latest in
      let f = own_reading x in
      let g = own_reading (tick_of c x).exchange in
      let os = x.own in
      let qs = ticked_own c x.own in
      let first = at_place 0 (omega arith) n in
      let second = at_place 1 (omega arith) _ ∙ ap (λ m. latest_after m (own_at os 1) (own_at qs 1)) first in
      let third = at_place 2 (omega arith) _ ∙ ap (λ m. latest_after m (own_at os 2) (own_at qs 2)) second in
      let fourth = at_place 3 (omega arith) _ ∙ ap (λ m. latest_after m (own_at os 3) (own_at qs 3)) third in
      record {
        four = length-map x.own (own_tick c) ∙ four;
        last = refl;
        sending = inl refl;
        shown = refl;
        seen = sym (ap (highest by_place f g) (highest_none by_line f g n ticked_gets) ∙ fourth);
      }

-- ---- a request

-- the number is the lower half of the system bytes
number_back : (h : Header) → (header_of (header_bytes h)).system % 65536 ≡ h.system % 65536
unfolding header_of header_bytes
number_back h = omega arith

-- an accepted primary shows the number that it was given
module _ (x : Exchange) (four : Fours x) (fits : x.numbers.last ≤ 65535) where
  given_fits : number_given x ≤ 65535
  given_fits = (number_given_lem x.own x.numbers.last x.numbers.latest four.own fits).fits

  pub given_shown : (c : Terms) (q : Primary) (d room : List ℕ) (p : ℕ) (y : Exchange) (left : List ℕ) → Opened c x q d room p y left → number_shown (own_reading y p) ≡ number_given x
  unfolding own_reading
  given_shown c q d room p y left o =
      ap (λ (i : Own). number_shown (read i)) o.place ∙ number_back o.header ∙ omega (arith, o.as_asked.system, given_fits)

-- the last number given, where what is asked for is accepted, and where it is refused
abbrev pub last_taken : Exchange → Request → ℕ
last_taken x (primary q d) = number_given x
last_taken x (reply p f d) = x.numbers.last
last_taken x (freeing_own p) = x.numbers.last
last_taken x (freeing_incoming p) = x.numbers.last

abbrev pub last_answered : Exchange → Request → Asked → ℕ
last_answered x r (Ok p) = last_taken x r
last_answered x r (Err n) = x.numbers.last

-- a primary gives its number; a reply, and a release, leave no verdict that was not there
module _ (c : Terms) (x : Exchange) (room : List ℕ) (four : Fours x) where
  abbrev LeftBy : Request → Requesting → Type 0
  LeftBy r a = (a.answer.exchange.numbers.last ≡ last_answered x r a.answer.asked) × Seen x a.answer.exchange

  request_left : (r : Request) → LeftBy r (answer_of c x r room)
  unfolding refused refused_by reply_accepted put_incoming with_sending
  request_left =
      by_request c x room LeftBy (λ r n. (refl, unchanged x x refl))
      (λ q d p u e.
      let o = opened c x q d room four p ((lowest_free x four p).0 e) in
      (o.last, without x _ p o.others (ap own_has_verdict o.place) o.latest))
      (λ p f d u a b. (refl, same_seen x _ refl refl))
      (λ p e.
      let f = own_released_lem x p e in (
        ap (λ (n : Numbers). n.last) f.numbers,
        without x _ p f.others (ap (λ (z : OwnStage). given_by (standing_at z)) f.place) (ap (λ (n : Numbers). n.latest) f.numbers),
      ))
      (λ p e. (refl, same_seen x _ refl refl))

-- it sends what was asked for, or leaves what is being sent: no report
no_report : (r : Request) (a : Asked) (z : Sending) (f n : ℕ) → sending_after r a z ≡ sending.Report f n
    → (z ≡ sending.Report f n) × ((after : ℕ → Option OwnReading) (last : ℕ) → last_asked r a after last ≡ last)
no_report (primary q d) (Ok p) z f n e = absurd (true≢false (ap from_caller e))
no_report (reply k g d) (Ok p) z f n e = absurd (true≢false (ap from_caller e))
no_report (freeing_own k) (Ok p) z f n e = (e, λ after last. refl)
no_report (freeing_incoming k) (Ok p) z f n e = (e, λ after last. refl)
no_report r (Err m) z f n e = (e, λ after last. refl)

-- ---- one call

-- what a report touches goes from x to y, by the places and the latest verdict as they are then
abbrev pub Moves : Exchange → Exchange → Type 0
Moves x y = Box y.own y.numbers.latest (outbox_of x) (outbox_of y)

left_moves : (x z : Exchange) → Leaves x z → Moves x z
left_moves x z w = ⊎_elim (λ e. still w.last e w.shown) (λ e. over w.last e) w.sending

-- the end of a message frees the line
freeing_moves : (x : Exchange) (z : Changed) → Leaves x z.exchange → Moves x (freeing x.sending z).exchange
freeing_moves x z w =
    let y = z.exchange in freed_on y (outbox_of x) x.sending (left_moves x y w)

module _ (c : Terms) (x : Exchange) (room : List ℕ) (four : Fours x) where
  -- no number is given by a call, but for a report that starts, where it is no request; a request is what it is
  abbrev pub CallMoves : Call → Type 0
  CallMoves (block h d) = Moves x (called c x room (block h d)).exchange
  CallMoves tick = Moves x (called c x room tick).exchange
  CallMoves put_out = Moves x (called c x room put_out).exchange
  CallMoves acknowledged = Moves x (called c x room acknowledged).exchange
  CallMoves failed = Moves x (called c x room failed).exchange
  CallMoves (request r) = (answer_of c x r room).answer.exchange.numbers.last ≡ last_answered x r (answer_of c x r room).answer.asked

  pub call_moves : (k : Call) → CallMoves k
  unfolding box_behind
  call_moves (block h d) =
      let z = (rules_of c x h d room).answer in
      let y = z.exchange in
      judged_on y (outbox_of x) z.note c x.sending h (left_moves x y (block_left x four.own c h d room))
  call_moves tick =
      let y = (passed_of c x).exchange in
      ticked_on y (outbox_of x) c x.own (left_moves x y (tick_left c x four.own))
  call_moves put_out = left_moves x _ (put_out_left x four.own x.sending)
  call_moves acknowledged = freeing_moves x (sent_by x.sending x) (sent_left x four.own x.sending)
  call_moves failed = freeing_moves x (failed_by x.sending x) (failed_left x four.own x.sending)
  call_moves (request r) = (request_left c x room four r).0

  -- the last block put out leaves what a report shows
  pub put_out_shows : (called c x room put_out).exchange.reports.shown ≡ x.reports.shown
  put_out_shows = (put_out_left x four.own x.sending).shown

  -- the latest is as it is seen
  pub call_seen : (k : Call) → Seen x (called c x room k).exchange
  unfolding own_reading
  call_seen (block h d) = (block_left x four.own c h d room).seen
  call_seen tick = (tick_left c x four.own).seen
  call_seen put_out = (put_out_left x four.own x.sending).seen
  call_seen acknowledged = (sent_left x four.own x.sending).seen
  call_seen failed = (failed_left x four.own x.sending).seen
  call_seen (request r) = (request_left c x room four r).1

-- ---- the last number given

-- the same message gives none
pub same_started : (z : Sending) (n : ℕ) → last_started true z n ≡ n
same_started sending.Nothing n = refl
same_started (sending.Primary p m) n = refl
same_started (sending.Reply p f m) n = refl
same_started (sending.Report f m) n = refl

-- nor does a call in which no report starts
pub none_started : (x y : Exchange) → (StartsReport x y → ⊥) → (n : ℕ) → last_reported x.sending y.sending n ≡ n
none_started x y none n = by y.sending refl
  where
    by : (z : Sending) → y.sending ≡ z → last_reported x.sending z n ≡ n
    by sending.Nothing e = refl
    by (sending.Primary p m) e = refl
    by (sending.Reply p f m) e = refl
    by (sending.Report f m) e =
        either (same_message x.sending (sending.Report f m)) (λ t. cond t n m ≡ n) (λ t. refl)
        (λ t. absurd (none (record { function = f; number = m; now = e; new = λ q. message_other x.sending (sending.Report f m) t (q ∙ e) })))

-- that of a report
number_in : Sending → ℕ
number_in sending.Nothing = 0
number_in (sending.Primary p n) = 0
number_in (sending.Reply p f n) = 0
number_in (sending.Report f n) = n

no_start : (z : Sending) → z ≡ sending.Nothing → (f n : ℕ) → z ≢ sending.Report f n
no_start z e f n r = false≢true (ap sending_by (sym e ∙ r))

-- where a report on its way has the last number given, one that starts is another one: the next number is never the last
pub begun_new : (x y : Exchange) → ((f n : ℕ) → x.sending ≡ sending.Report f n → n ≡ x.numbers.last) → (f : ℕ)
    → y.numbers.last ≡ next_number y.own x.numbers.last y.numbers.latest → y.sending ≡ sending.Report f y.numbers.last
    → x.sending ≢ y.sending
begun_new x y on f l e same = next_other y.own x.numbers.last y.numbers.latest (sym l ∙ on f y.numbers.last (same ∙ e))

module _ (x y : Exchange) (s : NumbersSeen) (w : NumbersAre x s) where
  begun : (f : ℕ) → y.numbers.last ≡ next_number y.own x.numbers.last y.numbers.latest → y.sending ≡ sending.Report f y.numbers.last
      → x.sending ≢ y.sending
  begun = begun_new x y (λ f n e. w.report f n e ∙ sym w.last)

  -- it is the last given
  moved_last : Moves x y → y.numbers.last ≡ last_reported x.sending y.sending s.last
  moved_last (still l e h) =
      l ∙ w.last
      ∙ sym (ap (λ (t : Bool). last_started t y.sending s.last) (message_same x.sending y.sending (sym e)) ∙ same_started y.sending s.last)
  moved_last (over l e) = l ∙ w.last ∙ sym (ap (λ (z : Sending). last_reported x.sending z s.last) e)
  moved_last (begins r l e h) =
      sym (ap (λ (t : Bool). last_started t y.sending s.last) (other_message x.sending y.sending (begun r.function l e))
      ∙ ap (λ (z : Sending). last_started false z s.last) e)

  moved_report : Moves x y → (f n : ℕ) → y.sending ≡ sending.Report f n → n ≡ y.numbers.last
  unfolding number_in
  moved_report (still l e h) f n q = w.report f n (sym e ∙ q) ∙ sym (l ∙ w.last)
  moved_report (over l e) f n q = absurd (no_start y.sending e f n q)
  moved_report (begins r l e h) f n q = ap number_in (sym q ∙ e)

  moved_fits : length y.own ≡ 4 → Moves x y → y.numbers.last ≤ 65535
  moved_fits four (still l e h) = subst (λ n. n ≤ 65535) (sym l) w.fits
  moved_fits four (over l e) = subst (λ n. n ≤ 65535) (sym l) w.fits
  moved_fits four (begins r l e h) =
      subst (λ n. n ≤ 65535) (sym l) (number_given_lem y.own x.numbers.last y.numbers.latest four w.fits).fits

  -- so what it is tells whether a report started
  moved_started : Moves x y → (q : StartsReport x y)
      → (y.numbers.last ≡ next_number y.own x.numbers.last y.numbers.latest) × (q.number ≡ y.numbers.last)
  unfolding number_in
  moved_started (still l e h) q = absurd (q.new (sym e))
  moved_started (over l e) q = absurd (no_start y.sending e q.function q.number q.now)
  moved_started (begins r l e h) q = (l, ap number_in (sym q.now ∙ e))

  moved_stays : Moves x y → (StartsReport x y → ⊥) → y.numbers.last ≡ x.numbers.last
  moved_stays (still l e h) none = l
  moved_stays (over l e) none = l
  moved_stays (begins r l e h) none =
      absurd (none (record { function = r.function; number = y.numbers.last; now = e; new = begun r.function l e }))

  moved_goes : {Gives : Type 0} → (Gives → ⊥) → Moves x y → LastMoves Gives x y
  moved_goes never m = record { given = λ g. absurd (never g); started = moved_started m; stays = λ none. moved_stays m }

module _ (c : Terms) (x : Exchange) (room : List ℕ) (four : Fours x) where
  -- a request that gives no number leaves the last one
  no_primary : (r : Request) (a : Asked) → (answer_of c x r room).answer.asked ≡ a → (GivesNumber c x room (request r) → ⊥) → last_answered x r a ≡ x.numbers.last
  no_primary (primary q d) (Ok p) e none = absurd (none (record { header = q; rest = d; place = p; so = refl; taken = e }))
  no_primary (reply p f d) (Ok k) e none = refl
  no_primary (freeing_own p) (Ok k) e none = refl
  no_primary (freeing_incoming p) (Ok k) e none = refl
  no_primary r (Err n) e none = refl

  -- no other call is a primary
  abbrev asks : Call → Bool
  asks (block h d) = false
  asks tick = false
  asks put_out = false
  asks acknowledged = false
  asks failed = false
  asks (request r) = true

  unasked : (k : Call) → asks k ≡ false → GivesNumber c x room k → ⊥
  unasked k e g = false≢true (sym e ∙ ap asks g.so)

  -- the last number, once what is asked for is answered
  abbrev behind : Call → ℕ
  behind (block h d) = x.numbers.last
  behind tick = x.numbers.last
  behind put_out = x.numbers.last
  behind acknowledged = x.numbers.last
  behind failed = x.numbers.last
  behind (request r) = last_answered x r (answer_of c x r room).answer.asked

  given_last : (k : Call) → GivesNumber c x room k → behind k ≡ number_given x
  given_last k g = ap behind g.so ∙ ap (last_answered x (primary g.header g.rest)) g.taken

  -- none starts a report
  pub request_starts : (r : Request) → StartsReport x (answer_of c x r room).answer.exchange → ⊥
  request_starts r q =
      let a = (answer_of c x r room).answer in
      let was = (no_report r a.asked x.sending q.function q.number (sym (request_sends c x r room).becomes ∙ q.now)).0 in
      q.new (was ∙ sym q.now)

pub last_goes : LastGoes
last_goes c x room four s w (block h d) = moved_goes x _ s w (unasked c x room four (block h d) refl) (call_moves c x room four (block h d))
last_goes c x room four s w tick = moved_goes x _ s w (unasked c x room four tick refl) (call_moves c x room four tick)
last_goes c x room four s w put_out = moved_goes x _ s w (unasked c x room four put_out refl) (call_moves c x room four put_out)
last_goes c x room four s w acknowledged = moved_goes x _ s w (unasked c x room four acknowledged refl) (call_moves c x room four acknowledged)
last_goes c x room four s w failed = moved_goes x _ s w (unasked c x room four failed refl) (call_moves c x room four failed)
last_goes c x room four s w (request r) = record {
  given = λ g. call_moves c x room four (request r) ∙ given_last c x room four (request r) g;
  started = λ q. absurd (request_starts c x room four r q);
  stays = λ none same. call_moves c x room four (request r) ∙ no_primary c x room four r (answer_of c x r room).answer.asked refl none;
}

-- ---- that of the latest own transaction to get a verdict

-- no verdict is shown before
none_shown : (r : Option OwnReading) → ((h : Header) (v : Verdict) (k : Reply) → r ≢ reads_own h (Given v) k) → shows any_verdict r ≡ false
none_shown None none = refl
none_shown (Some r) none = by r.standing refl
  where
    by : (s : Standing) → r.standing ≡ s → given any_verdict s ≡ false
    by Free e = refl
    by Open e = refl
    by (Given v) e = absurd (none r.primary v r.reply (λ i. reads_own r.primary (e i) r.reply))

-- a place that got one gets one of its kind
got_gets : (kind : Verdict → Bool) (r s : Option OwnReading) (g : Got r s) → gets kind r s ≡ kind g.verdict
unfolding gets
got_gets kind r s g = ap (λ (t : Bool). not t && shows kind s) (none_shown r g.none_before) ∙ ap (shows kind) g.now

-- one of no such kind
not_gets : (kind : Verdict → Bool) (r s : Option OwnReading) → ((g : Got r s) → kind g.verdict ≡ false) → gets kind r s ≡ false
unfolding gets
not_gets kind r None none = and-false (not (shows any_verdict r))
not_gets kind r (Some q) none = by q.standing refl
  where
    by : (z : Standing) → q.standing ≡ z → not (shows any_verdict r) && given kind z ≡ false
    by Free e = and-false (not (shows any_verdict r))
    by Open e = and-false (not (shows any_verdict r))
    by (Given v) e =
        either (shows any_verdict r) (λ t. not t && kind v ≡ false) (λ e. refl)
        (λ n.
        none (record {
          header = q.primary;
          verdict = v;
          reply = q.reply;
          none_before = λ a b d same. false≢true (sym n ∙ ap (shows any_verdict) same);
          now = λ i. reads_own q.primary (e i) q.reply;
        }))

-- its kind, by the two verdicts of the line
not_by_line : (v : Verdict) → NotByLine v → by_line v ≡ false
not_by_line Sent n = absurd (n.not_sent refl)
not_by_line Answered n = refl
not_by_line Declined n = refl
not_by_line Other n = refl
not_by_line Broken n = refl
not_by_line NoReply n = refl
not_by_line SendFailed n = absurd (n.not_failed refl)

only_not_by_line : (v : Verdict) → (NotByLine v → ⊥) → by_place v ≡ false
only_not_by_line v n =
    either (by_line v) (λ t. not t ≡ false) (λ e. refl)
    (λ e. absurd (n (record { not_sent = λ z. false≢true (sym e ∙ ap by_line z); not_failed = λ z. false≢true (sym e ∙ ap by_line z) })))

-- what is seen of the latest is that of the place
pub latest_moves : (x y : Exchange) → Seen x y → LatestMoves x y
latest_moves x y seen =
    let f = own_reading x in
    let g = own_reading y in
    let n = x.numbers.latest in
    record {
      alone = λ p less got others.
          let none : (kind : Verdict → Bool) (q : ℕ) → q < 4 → q ≢ p → gets kind (f q) (g q) ≡ false =
          λ kind q within ne. not_gets kind (f q) (g q) (λ other. absurd (others q within ne other)) in
          seen ∙ highest_one by_place f g _ p less (none by_place)
          ∙ ap (cond (gets by_place (f p) (g p)) (number_shown (g p))) (highest_one by_line f g n p less (none by_line))
          ∙ ap (λ (t : Bool). cond t (number_shown (g p)) (cond (gets by_line (f p) (g p)) (number_shown (g p)) n)) (got_gets by_place (f p) (g p) got)
          ∙ ap (λ (t : Bool). cond (by_place got.verdict) (number_shown (g p)) (cond t (number_shown (g p)) n)) (got_gets by_line (f p) (g p) got)
          ∙ one_kind (by_line got.verdict) (number_shown (g p)) n;
      highest = λ p less got by_place_lem above.
          seen
          ∙ highest_top by_place f g _ p less (got_gets by_place (f p) (g p) got ∙ ap not (not_by_line got.verdict by_place_lem))
          (λ q past within. not_gets by_place (f q) (g q) (λ other. only_not_by_line other.verdict (above q past within other)));
      stays = λ none. seen ∙ latest_none x y n (λ kind p less. not_gets kind (f p) (g p) (λ got. absurd (none p less got)));
    }

pub latest_goes : LatestGoes
latest_goes c x room four k = latest_moves x (called c x room k).exchange (call_seen c x room four k)

-- ---- any calls

module _ (c : Terms) (x : Exchange) (room : List ℕ) (four : Fours x) (s : NumbersSeen) (w : NumbersAre x s) where
  -- an accepted primary shows its number
  last_shown : (r : Request) (a : Asked) → (answer_of c x r room).answer.asked ≡ a
      → last_answered x r a ≡ last_asked r a (own_reading (answer_of c x r room).answer.exchange) s.last
  last_shown (primary q d) (Ok p) e = sym (given_shown x four w.fits c q d room p _ _ (accepted_opens c x q d room four p e))
  last_shown (reply p f d) (Ok k) e = w.last
  last_shown (freeing_own p) (Ok k) e = w.last
  last_shown (freeing_incoming p) (Ok k) e = w.last
  last_shown r (Err n) e = w.last

  answered_fits : (r : Request) (a : Asked) → last_answered x r a ≤ 65535
  answered_fits (primary q d) (Ok p) = given_fits x four w.fits
  answered_fits (reply p f d) (Ok k) = w.fits
  answered_fits (freeing_own p) (Ok k) = w.fits
  answered_fits (freeing_incoming p) (Ok k) = w.fits
  answered_fits r (Err n) = w.fits

  -- where no request is made
  moved_are : (y : Exchange) → length y.own ≡ 4 → Moves x y → Seen x y
      → NumbersAre y (record { last = last_reported x.sending y.sending s.last; latest = latest_seen (own_reading x) (own_reading y) s.latest })
  moved_are y own m seen = record {
    last = moved_last x y s w m;
    latest = seen ∙ ap (latest_seen (own_reading x) (own_reading y)) w.latest;
    report = λ f n e. moved_report x y s w m f n e ∙ moved_last x y s w m;
    fits = moved_fits x y s w own m;
  }

-- nothing is accepted, and nothing starts
kept_same : (x : Exchange) (s : NumbersSeen) → NumbersAre x s → (y : Exchange) → y.numbers.last ≡ x.numbers.last → y.sending ≡ x.sending → Seen x y
    → NumbersAre y (record { last = s.last; latest = latest_seen (own_reading x) (own_reading y) s.latest })
kept_same x s w y last same seen = record {
  last = last ∙ w.last;
  latest = seen ∙ ap (latest_seen (own_reading x) (own_reading y)) w.latest;
  report = λ f n e. w.report f n (sym same ∙ e);
  fits = subst (λ n. n ≤ 65535) (sym last) w.fits;
}

-- nothing is called
pub stays_on : (x : Exchange) (s : NumbersSeen) → NumbersAre x s → (y : Exchange) → y ≡ x
    → NumbersAre y (record { last = s.last; latest = latest_seen (own_reading x) (own_reading y) s.latest })
stays_on x s w y e = kept_same x s w y (ap (λ (z : Exchange). z.numbers.last) e) (ap (λ (z : Exchange). z.sending) e) (unchanged x y e)

pub numbers_kept_on : NumbersKeptOn
numbers_kept_on c x room four s (block h d) w =
    moved_are c x room four s w _ (block_left x four.own c h d room).four (call_moves c x room four (block h d)) (call_seen c x room four (block h d))
numbers_kept_on c x room four s tick w =
    moved_are c x room four s w _ (tick_left c x four.own).four (call_moves c x room four tick) (call_seen c x room four tick)
numbers_kept_on c x room four s put_out w =
    let z = put_out_left x four.own x.sending in kept_same x s w _ z.last (sending_ends c x).put_out (call_seen c x room four put_out)
numbers_kept_on c x room four s acknowledged w =
    moved_are c x room four s w _ (sent_left x four.own x.sending).four (call_moves c x room four acknowledged) (call_seen c x room four acknowledged)
numbers_kept_on c x room four s failed w =
    moved_are c x room four s w _ (failed_left x four.own x.sending).four (call_moves c x room four failed) (call_seen c x room four failed)
numbers_kept_on c x room four s (request r) w =
    let a = (answer_of c x r room).answer in
    let y = a.exchange in
    let g = request_left c x room four r in
    record {
      last = g.0 ∙ last_shown c x room four s w r a.asked refl;
      latest = g.1 ∙ ap (latest_seen (own_reading x) (own_reading y)) w.latest;
      report = λ f n e.
          let o = no_report r a.asked x.sending f n (sym (request_sends c x r room).becomes ∙ e) in
          w.report f n o.0 ∙ sym (o.1 (own_reading y) s.last);
      fits = subst (λ n. n ≤ 65535) (sym g.0) (answered_fits c x room four s w r a.asked);
    }

-- at a start
pub numbers_fresh : (last : ℕ) → last ≤ 65535 → NumbersAre (fresh_exchange last) (numbers_at_start last)
numbers_fresh last fits = record { last = refl; latest = refl; report = λ f n e. absurd (no_start sending.Nothing refl f n e); fits = fits }

pub numbers_kept : NumbersKept
numbers_kept c last room fits whole ks =
    run_any c (numbers_sees c) NumbersAre (λ x lent s k g w. numbers_kept_on c x lent (four_places x g) s k w)
    (at_start last room) (numbers_at_start last) ks (sound_fresh last room whole)
    (numbers_fresh last fits)

-- an onlooker who begins now starts from the state's own
abbrev pub numbers_of : Exchange → NumbersSeen
numbers_of x = record { last = x.numbers.last; latest = x.numbers.latest }

pub own_numbers : (x : Exchange) (s : NumbersSeen) → NumbersAre x s → NumbersAre x (numbers_of x)
own_numbers x s w = record { last = refl; latest = refl; report = λ f n e. w.report f n e ∙ sym w.last; fits = w.fits }

-- ---- the number of a new primary, and of a report that starts

-- a place in use, and the number that it shows
pub used : (h : List ℕ) (z : OwnStage) → in_use (read (record { header = h; stage = z })) ≡ true
    → (own_is_free (record { header = h; stage = z }) ≡ false) × ((header_of h).system % 65536 ≡ number_shown (read (record { header = h; stage = z })))
used h stage.Free e = absurd (false≢true e)
used h stage.Sending e = (refl, refl)
used h stage.PutOut e = (refl, refl)
used h (stage.Awaiting timer) e = (refl, refl)
used h (stage.Replying a) e = (refl, refl)
used h (stage.Done v r) e = (refl, refl)

-- the next number is such a one
next_new : (x : Exchange) → length x.own ≡ 4 → (last : ℕ) → last ≤ 65535 → (s : NumbersSeen) → x.numbers.latest ≡ s.latest → (number : ℕ)
    → number ≡ next_number x.own last x.numbers.latest → NumberNew x s number
unfolding own_reading
next_new x four last fits s latest number next =
    let given = number_given_lem x.own last x.numbers.latest four fits in
    record {
      from_open = λ k less e same.
          let o = own_place x k in
          let u = used o.header o.stage e in
          given.first.left (inr (record { place = k; within = omega (arith, four); not_free = u.0; number = u.1 ∙ sym same ∙ next }));
      from_latest = λ same. given.first.left (inl (sym next ∙ same ∙ sym latest));
    }

pub number_distinct : NumberDistinct
number_distinct c x four s w q d room p taken =
    next_new x four.own x.numbers.last w.fits s w.latest _ (given_shown x four w.fits c q d room p _ _ (accepted_opens c x q d room four p taken))

-- of a call that may start one
module _ (c : Terms) (x : Exchange) (room : List ℕ) (four : Fours x) (s : NumbersSeen) (w : NumbersAre x s) (k : Call) where
  started_new : length (called c x room k).exchange.own ≡ 4 → (q : StartsReport x (called c x room k).exchange)
      → NumberNew (called c x room k).exchange (numbers_sees c x room s k) q.number
  started_new own q =
      let g = (last_goes c x room four s w k).started q in
      next_new (called c x room k).exchange own x.numbers.last w.fits (numbers_sees c x room s k) (numbers_kept_on c x room four s k w).latest q.number
      (g.1 ∙ g.0)

pub report_distinct : ReportDistinct
report_distinct c x room four s w (block h d) = started_new c x room four s w (block h d) (block_left x four.own c h d room).four
report_distinct c x room four s w tick = started_new c x room four s w tick (tick_left c x four.own).four
report_distinct c x room four s w put_out = started_new c x room four s w put_out (put_out_left x four.own x.sending).four
report_distinct c x room four s w acknowledged = started_new c x room four s w acknowledged (sent_left x four.own x.sending).four
report_distinct c x room four s w failed = started_new c x room four s w failed (failed_left x four.own x.sending).four
report_distinct c x room four s w (request r) = λ q. absurd (request_starts c x room four r q)
