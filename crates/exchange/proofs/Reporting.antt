-- The reports that wait, the one on its way and how many were dropped are those that an onlooker keeps (`specs/Reporting.antt`). Assumes
-- nothing.
use Rattle.std.specs.Prelude.{Option, Some, None, Ok, Err}
use Prim.Native.Nat.{ℕ, ◌≤◌, ◌<◌}
use mathlib.Core.Path.{◌≡◌, refl, sym, ap, ◌∙◌, subst}
use mathlib.Core.Bool.{Bool, true, false, cond, not, ◌&&◌, false≢true, and-false}
use mathlib.Core.List.{List, [], ◌∷◌}
use native.Mathlib.Omega.{arith}
use lib.Dec.{eqb, ltb}
use lib.ListN.{length}
use borrow.Author.Tests.{eqb-true, eqb-false}
use Rattle.wire.proofs.Choice.{either, chosen, both}
use Rattle.header.specs.Header.{header_of, header_bytes}
use Rattle.header.specs.declared.header.Header.{Header}
use Rattle.settings.specs.Timer.{ticked}
use Rattle.settings.specs.declared.terms.Terms.{Terms}
use Rattle.place.specs.Arriving.{arriving_tick}
use Rattle.place.specs.Fate.{fate_of}
use Rattle.place.specs.Own.{fresh_own, primary_of, follows, verdict_of, standing_at, given_by, stage_at, ended, own_has_verdict, own_takes, replied, replied_by, own_offered, first_out, own_put_out, acknowledged, own_sent, own_failed, awaited_by, await_tick, replying_by, reply_tick, own_tick, own_released, own_kept}
use Rattle.place.specs.OwnHistory as own
use Rattle.place.specs.declared.Fate.{Fate}
use Rattle.place.specs.declared.Fate.TheVariants as fate
use Rattle.place.specs.declared.Verdict.{Verdict}
use Rattle.place.specs.declared.Verdict.TheVariants.{Sent, Answered, Declined, Other, Broken, NoReply, SendFailed}
use Rattle.place.specs.declared.OwnStage.{OwnStage}
use Rattle.place.specs.declared.OwnStage.TheVariants as stage
use Rattle.place.specs.declared.Own.{Own}
use Rattle.table.specs.Own.{reply_for}
use Rattle.reports.specs.Reports.{report}
use Rattle.reports.proofs.Waiting.{none_at_start}
use Rattle.reports.specs.declared.Report.{Report}
use Rattle.reports.specs.declared.Reports.{Reports}
use Rattle.exchange.specs.Exchange.{fresh_exchange, own_place, got_verdict, put_own, put_incoming, with_sending, sent_from}
use Rattle.exchange.specs.Note.{note_number}
use Rattle.exchange.specs.Reports.{outbox_of, caused, freed_in, freed}
use Rattle.exchange.specs.Tick.{passed_of, is_no_reply, no_reply_at, got_no_reply, late_at, late_over}
use Rattle.exchange.specs.Send.{ended_own, ended_reply, ended_report, put_out_by, put_out_of, sent_by, failed_by}
use Rattle.exchange.specs.Judge.{rules_of, caused_by, judge_of, box_behind}
use Rattle.exchange.specs.Reading.{own_reading}
use Rattle.exchange.specs.Request.{refused_by, refused, claimed_at, reply_accepted, Request, primary, reply, freeing_own, freeing_incoming, answer_of}
use Rattle.exchange.specs.Rules.{Fours}
use Rattle.exchange.specs.History.{Call, block, tick, put_out, acknowledged as acked, failed, request, called, anew, at_start}
use Rattle.exchange.specs.Releases as side
use Rattle.exchange.specs.Watching.{told_by, found_at, taken_at, own_sees}
use Rattle.exchange.specs.Numbers.{number_shown, shows, any_verdict, gets, NumbersSeen, numbers_sees, numbers_at_start, NumbersAre, in_use}
use Rattle.exchange.specs.Posting.{primary_asked}
use Rattle.exchange.specs.Reporting.{Turn, nobody, caller, reporter, Reporter, nothing_reported, is_nobody, waits_too, is_lost, counted, is_due, is_caused, oldest_of, ends, by_note, is_six, by_place, proves, sends, reporter_asked, reporter_sees, TurnIs, ReportsAre, ReportsKeptOn, ReportsKept}
use Rattle.exchange.specs.declared.OwnReading.{OwnReading}
use Rattle.exchange.specs.declared.Note.{Note}
use Rattle.exchange.specs.declared.Note.TheVariants.{Kept, Misrouted, Duplicate, Stray, NoPlace, TooLong, Empty}
use Rattle.exchange.specs.declared.Sending.{Sending}
use Rattle.exchange.specs.declared.Sending.TheVariants as sending
use Rattle.exchange.specs.declared.Outbox.{Outbox}
use Rattle.exchange.specs.declared.Exchange.{Exchange}
use Rattle.exchange.specs.declared.Refusal.{Refusal}
use Rattle.exchange.specs.declared.Primary.{Primary}
use Rattle.exchange.proofs.Accepting.{accepted_opens}
use Rattle.exchange.proofs.BeingSent.{sending_ends, sent_none, failed_none}
use Rattle.exchange.proofs.Cases.{by_request}
use Rattle.exchange.proofs.Causing.{BoxIs, caused_is, over_is, freed_is}
use Rattle.exchange.proofs.Boxes.{rules_spare, proven}
use Rattle.exchange.proofs.Sides.{by_event}
use Rattle.exchange.proofs.Runs.{Sound, four_places, sound_fresh, run_any}
use Rattle.exchange.proofs.OneCall.{call}
use Rattle.exchange.proofs.Repeated.{any_fresh}
use Rattle.exchange.proofs.Numbering.{read, shown, same_gets, numbers_kept_on, numbers_fresh}
use Rattle.exchange.proofs.Posting.{asked_for}
use Rattle.place.specs.declared.Arriving.{Arriving}
use Rattle.exchange.specs.Asked.{Asked}

-- ---- the header of a place in use

-- a place is as it was, or it was in use and is at another stage; verdict 6 it gets by a tick alone
pub data Goes (ticks : Bool) (o : Own) : Own → Type 0 where
  still : Goes ticks o o
  moved : (z : OwnStage) → in_use (read o) ≡ true → not ticks && no_reply_at z ≡ false → Goes ticks o (stage_at o z)

-- by whatever it was
abbrev pub Keeps : Own → Own → Type 0
Keeps o q = Goes true o q

eased : {ticks : Bool} {o q : Own} → Goes ticks o q → Keeps o q
eased still = still
eased (moved z e n) = moved z e refl

-- so it has the same header
pub same_header : {o q : Own} → Keeps o q → q.header ≡ o.header
same_header still = refl
same_header (moved z e n) = refl

-- and one in use was in use
kept_header : {o q : Own} → Keeps o q → in_use (read q) ≡ true → (in_use (read o) ≡ true) × (q.header ≡ o.header)
kept_header still u = (u, refl)
kept_header (moved z e n) u = (e, refl)

-- no whole reply gets it
reply_verdict : (o : Own) (b : Header) → is_no_reply (verdict_of o b) ≡ false
unfolding verdict_of
reply_verdict o b =
    chosen (λ v. is_no_reply v ≡ false) (eqb b.stream (primary_of o).stream) _ Other
    (λ t.
    chosen (λ v. is_no_reply v ≡ false) (follows b.function (primary_of o).function) Answered _ (λ i. refl)
    (λ i. chosen (λ v. is_no_reply v ≡ false) (eqb b.function 0) Declined Other (λ j. refl) (λ j. refl)))
    (λ t. refl)

abbrev at : List ℕ → OwnStage → Own
at h z = record { header = h; stage = z }

module _ (h : List ℕ) where
  put_out_keeps : (z : OwnStage) → Goes false (at h z) (own_put_out (at h z))
  unfolding first_out
  put_out_keeps stage.Free = still
  put_out_keeps stage.Sending = chosen (Goes false (at h stage.Sending)) (header_of h).w _ _ (λ t. moved _ refl refl) (λ t. still)
  put_out_keeps stage.PutOut = still
  put_out_keeps (stage.Awaiting n) = still
  put_out_keeps (stage.Replying a) = still
  put_out_keeps (stage.Done v r) = still

  acked_keeps : (z : OwnStage) → in_use (read (at h z)) ≡ true → Goes false (at h z) (acknowledged (at h z))
  unfolding acknowledged ended
  acked_keeps z e = chosen (Goes false (at h z)) (header_of h).w _ _ (λ t. moved _ e refl) (λ t. moved _ e refl)

  sent_keeps : (z : OwnStage) → Goes false (at h z) (own_sent (at h z))
  sent_keeps stage.Free = still
  sent_keeps stage.Sending = acked_keeps stage.Sending refl
  sent_keeps stage.PutOut = acked_keeps stage.PutOut refl
  sent_keeps (stage.Awaiting n) = still
  sent_keeps (stage.Replying a) = still
  sent_keeps (stage.Done v r) = still

  failed_keeps : (z : OwnStage) → Goes false (at h z) (own_failed (at h z))
  unfolding ended
  failed_keeps stage.Free = still
  failed_keeps stage.Sending = moved _ refl refl
  failed_keeps stage.PutOut = moved _ refl refl
  failed_keeps (stage.Awaiting n) = still
  failed_keeps (stage.Replying a) = still
  failed_keeps (stage.Done v r) = still

  awaited_keeps : (z : OwnStage) → in_use (read (at h z)) ≡ true → (t : Option ℕ) → Goes true (at h z) (awaited_by (at h z) t)
  unfolding ended
  awaited_keeps z e None = moved _ e refl
  awaited_keeps z e (Some n) = moved _ e refl

  waited_keeps : (z : OwnStage) → in_use (read (at h z)) ≡ true → (w : Option Arriving) → Goes true (at h z) (replying_by (at h z) w)
  unfolding ended
  waited_keeps z e None = moved _ e refl
  waited_keeps z e (Some a) = moved _ e refl

  tick_keeps : (c : Terms) (z : OwnStage) → Goes true (at h z) (own_tick c (at h z))
  unfolding await_tick reply_tick
  tick_keeps c stage.Free = still
  tick_keeps c stage.Sending = still
  tick_keeps c stage.PutOut = still
  tick_keeps c (stage.Awaiting n) = awaited_keeps (stage.Awaiting n) refl (ticked c.t3 n)
  tick_keeps c (stage.Replying a) = waited_keeps (stage.Replying a) refl (arriving_tick c a)
  tick_keeps c (stage.Done v r) = still

  release_keeps : (z : OwnStage) → Goes false (at h z) (own_released (at h z))
  release_keeps stage.Free = still
  release_keeps stage.Sending = still
  release_keeps stage.PutOut = still
  release_keeps (stage.Awaiting n) = still
  release_keeps (stage.Replying a) = still
  release_keeps (stage.Done v r) = moved _ refl refl

  -- a block is taken where a reply is awaited or arriving
  replied_keeps : (z : OwnStage) (b : Header) (f : Fate) → in_use (read (at h z)) ≡ true → Goes false (at h z) (replied_by (at h z) b f)
  unfolding ended
  replied_keeps z b fate.Empty e = moved _ e refl
  replied_keeps z b fate.TooLong e = moved _ e refl
  replied_keeps z b (fate.Last n) e = moved _ e (reply_verdict (at h z) b)
  replied_keeps z b (fate.More n) e = moved _ e refl

  takes_used : (z : OwnStage) (b : Header) → own_takes (at h z) b ≡ true → in_use (read (at h z)) ≡ true
  takes_used stage.Free b e = absurd (false≢true e)
  takes_used stage.Sending b e = refl
  takes_used stage.PutOut b e = refl
  takes_used (stage.Awaiting n) b e = refl
  takes_used (stage.Replying a) b e = refl
  takes_used (stage.Done v r) b e = refl

  block_keeps : (z : OwnStage) (b : Header) (size : ℕ) → Goes false (at h z) (own_offered (at h z) b size)
  unfolding own_offered replied
  block_keeps z b size =
      chosen (Goes false (at h z)) (own_takes (at h z) b) _ _
      (λ t. replied_keeps z b (fate_of b (own_kept (at h z)).length size) (takes_used z b t)) (λ t. still)

abbrev is_tick : {c : Terms} → own.Event c → Bool
is_tick (own.claim x) = false
is_tick own.put_out = false
is_tick own.sent = false
is_tick own.failed = false
is_tick own.tick = true
is_tick own.release = false
is_tick (own.block b size q) = false

-- any event but a new primary, of which the place's onlooker sees that it is asked for
event_keeps : (c : Terms) (o : Own) (e : own.Event c) (s : own.Seen) → s.request ≡ own.none → (own.sees o s e).request ≡ own.none → Goes (is_tick e) o (own.step o e)
event_keeps c o (own.claim x) s i j = absurd (false≢true cc)
event_keeps c o own.put_out s i j = put_out_keeps o.header o.stage
event_keeps c o own.sent s i j = sent_keeps o.header o.stage
event_keeps c o own.failed s i j = failed_keeps o.header o.stage
event_keeps c o own.tick s i j = tick_keeps o.header c o.stage
event_keeps c o own.release s i j = release_keeps o.header o.stage
event_keeps c o (own.block b size q) s i j = block_keeps o.header o.stage b size

-- ---- verdict 6

six : (v : Verdict) → is_six v ≡ is_no_reply v
six Sent = refl
six Answered = refl
six Declined = refl
six Other = refl
six Broken = refl
six NoReply = refl
six SendFailed = refl

got_six : (t : Bool) (h : List ℕ) (z : OwnStage) → not t && shows is_six (read (at h z)) ≡ (not t && given_by (standing_at z)) && no_reply_at z
got_six true h z = refl
got_six false h stage.Free = refl
got_six false h stage.Sending = refl
got_six false h stage.PutOut = refl
got_six false h (stage.Awaiting n) = refl
got_six false h (stage.Replying a) = refl
got_six false h (stage.Done v r) = six v

-- what is read of a place tells whether it gets verdict 6
pub gets_six : (a o : Own) → gets is_six (read a) (read o) ≡ got_no_reply a o
unfolding gets got_no_reply got_verdict
gets_six a o = rw (shown a.header a.stage) (got_six (own_has_verdict a) o.header o.stage)

-- so it got it in use
six_used : (h : List ℕ) (z : OwnStage) → no_reply_at z ≡ true → in_use (read (at h z)) ≡ true
six_used h stage.Free e = absurd (false≢true e)
six_used h stage.Sending e = refl
six_used h stage.PutOut e = refl
six_used h (stage.Awaiting n) e = refl
six_used h (stage.Replying a) e = refl
six_used h (stage.Done v r) e = refl

got_used : (a o : Own) → got_no_reply a o ≡ true → in_use (read o) ≡ true
unfolding got_no_reply
got_used a o e = six_used o.header o.stage ((both (got_verdict a o) (no_reply_at o.stage)).0 e).1

-- ---- one call, at the own places

-- each own place in use keeps the header of its primary's last block
abbrev pub Headed : Exchange → (ℕ → List ℕ) → Type 0
Headed x f = (p : ℕ) → p < 4 → in_use (own_reading x p) ≡ true → (own_place x p).header ≡ f p

-- where no primary is accepted, the onlooker of a place to which none came sees none
pub either_none : (t : Bool) (a b : own.Seen) → a.request ≡ own.none → b.request ≡ own.none → (cond t a b).request ≡ own.none
either_none t a b e f = chosen (λ (s : own.Seen). s.request ≡ own.none) t a b (λ i. e) (λ i. f)

answered_none : (a : own.Answer) (b : Header) (size : ℕ) → (own.answered a own.nothing_seen b size).request ≡ own.none
answered_none own.passed b size = refl
answered_none own.kept b size = refl
answered_none own.spoilt b size = refl

no_tick : {c : Terms} (o : Own) (e : own.Event c) → (own.sees o own.nothing_seen e).since ≡ 0 → is_tick e ≡ false
no_tick o (own.claim x) n = refl
no_tick o own.put_out n = refl
no_tick o own.sent n = refl
no_tick o own.failed n = refl
no_tick o own.tick n = absurd (omega arith)
no_tick o own.release n = refl
no_tick o (own.block b size q) n = refl

module _ (c : Terms) (x : Exchange) (room : List ℕ) (four : Fours x) where
  abbrev pub NoneSeen : Call → Type 0
  NoneSeen k = (p : ℕ) → (own_sees c p x room own.nothing_seen k).request ≡ own.none

  pub keeps_on : (k : Call) → NoneSeen k → (p : ℕ) → p < 4 → Keeps (own_place x p) (own_place (called c x room k).exchange p)
  keeps_on k none p less =
      by_event (λ (o : Own) (s : own.Seen). s.request ≡ own.none → Keeps (own_place x p) o) (call c x p less side.own room k four.own own.nothing_seen)
      (λ i. still) (λ e i j. eased (event_keeps c (own_place x p) e own.nothing_seen refl j)) (none p)

  -- the onlooker of a place counts a tick, so that verdict 6 comes by no other call
  quiet_on : (k : Call) → NoneSeen k → ((p : ℕ) → (own_sees c p x room own.nothing_seen k).since ≡ 0)
      → (p : ℕ) → p < 4 → Goes false (own_place x p) (own_place (called c x room k).exchange p)
  quiet_on k none since p less =
      by_event (λ (o : Own) (s : own.Seen). s.request ≡ own.none → s.since ≡ 0 → Goes false (own_place x p) o)
      (call c x p less side.own room k four.own own.nothing_seen) (λ i j. still)
      (λ e i j n.
      subst (λ (t : Bool). Goes t (own_place x p) (own.step (own_place x p) e)) (no_tick (own_place x p) e n)
      (event_keeps c (own_place x p) e own.nothing_seen refl j))
      (none p) (since p)

  pub headed_on : (k : Call) (f : ℕ → List ℕ) → NoneSeen k → Headed x f → Headed (called c x room k).exchange f
  unfolding own_reading
  headed_on k f none w p less u = let v = kept_header (keeps_on k none p less) u in v.1 ∙ w p less v.0

  pub block_none : (h d : List ℕ) → NoneSeen (block h d)
  block_none h d p = either_none (found_at (reply_for x.own (header_of h)) p) _ _ (answered_none (told_by (judge_of c x h d room).answer.note) (header_of h) (length d)) refl

  -- a request that is refused
  pub refused_none : (r : Request) (n : Refusal) → (answer_of c x r room).answer.asked ≡ Err n → NoneSeen (request r)
  refused_none r n e p = rw e

  pub reply_none : (k f : ℕ) (d : List ℕ) → NoneSeen (request (reply k f d))
  reply_none k f d p = either_none (taken_at (answer_of c x (reply k f d) room).answer.asked p) _ _ refl refl

  pub free_own_none : (k : ℕ) → NoneSeen (request (freeing_own k))
  free_own_none k p = either_none (taken_at (answer_of c x (freeing_own k) room).answer.asked p) _ _ refl refl

  pub free_incoming_none : (k : ℕ) → NoneSeen (request (freeing_incoming k))
  free_incoming_none k p = either_none (taken_at (answer_of c x (freeing_incoming k) room).answer.asked p) _ _ refl refl

  -- a primary that is accepted: its place keeps what was asked for, with the number that it shows
  primary_headed : x.numbers.last ≤ 65535 → (q : Primary) (d : List ℕ) (p : ℕ) → (answer_of c x (primary q d) room).answer.asked ≡ Ok p
      → (f : ℕ → List ℕ) → Headed x f
      → (let z = (answer_of c x (primary q d) room).answer.exchange in Headed z (anew f p (header_bytes (primary_asked c q (length d) (number_shown (own_reading z p))))))
  unfolding own_reading
  primary_headed fits q d p e f w k less u =
      let z = (answer_of c x (primary q d) room).answer.exchange in
      let o = accepted_opens c x q d room four p e in
      let same = asked_for c x room four fits q d p _ _ o in
      either (eqb k p) (λ t. (own_place z k).header ≡ cond t (header_bytes (primary_asked c q (length d) (number_shown (own_reading z p)))) (f k))
      (λ t. ap (λ (j : ℕ). (own_place z j).header) (eqb-true k p t) ∙ ap (λ (i : Own). i.header) o.place ∙ ap header_bytes same)
      (λ t. let other = o.others k (eqb-false k p t) in ap (λ (i : Own). i.header) other ∙ w k less (ap (λ (i : Own). in_use (read i)) (sym other) ∙ u))

-- ---- verdict 6 comes by a tick alone

none_got : {o q : Own} → Goes false o q → gets is_six (read o) (read q) ≡ false
unfolding got_no_reply
none_got {o} still = same_gets is_six (read o)
none_got {o} (moved z e n) = gets_six o (stage_at o z) ∙ ap (λ (t : Bool). got_verdict o (stage_at o z) && t) n ∙ and-false (got_verdict o (stage_at o z))

none_shown : (r q : Option OwnReading) → shows is_six q ≡ false → gets is_six r q ≡ false
unfolding gets
none_shown r q e = ap (λ (t : Bool). not (shows any_verdict r) && t) e ∙ and-false (not (shows any_verdict r))

either_zero : (t : Bool) (a b : own.Seen) → a.since ≡ 0 → b.since ≡ 0 → (cond t a b).since ≡ 0
either_zero t a b e f = chosen (λ (s : own.Seen). s.since ≡ 0) t a b (λ i. e) (λ i. f)

answered_zero : (a : own.Answer) (b : Header) (size : ℕ) → (own.answered a own.nothing_seen b size).since ≡ 0
answered_zero own.passed b size = refl
answered_zero own.kept b size = refl
answered_zero own.spoilt b size = refl

module _ (c : Terms) (x : Exchange) (room : List ℕ) (four : Fours x) where
  -- no own place gets it in this call
  abbrev pub NoSix : Call → Type 0
  NoSix k = (p : ℕ) → p < 4 → gets is_six (own_reading x p) (own_reading (called c x room k).exchange p) ≡ false

  quiet_six : (k : Call) → NoneSeen c x room four k → ((p : ℕ) → (own_sees c p x room own.nothing_seen k).since ≡ 0) → NoSix k
  unfolding own_reading
  quiet_six k none since p less = none_got (quiet_on c x room four k none since p less)

  pub block_six : (h d : List ℕ) → NoSix (block h d)
  block_six h d =
      quiet_six (block h d) (block_none c x room four h d)
      (λ p. either_zero (found_at (reply_for x.own (header_of h)) p) _ _ (answered_zero (told_by (judge_of c x h d room).answer.note) (header_of h) (length d)) refl)

  pub put_out_six : NoSix put_out
  put_out_six =
      quiet_six put_out (λ p. either_none (sent_from x.sending p) _ _ refl refl) (λ p. either_zero (sent_from x.sending p) _ _ refl refl)

  pub acked_six : NoSix acked
  acked_six = quiet_six acked (λ p. either_none (sent_from x.sending p) _ _ refl refl) (λ p. either_zero (sent_from x.sending p) _ _ refl refl)

  pub failed_six : NoSix failed
  failed_six = quiet_six failed (λ p. either_none (sent_from x.sending p) _ _ refl refl) (λ p. either_zero (sent_from x.sending p) _ _ refl refl)

  -- a primary that is accepted has none
  opened_six : (q : Primary) (d : List ℕ) (p : ℕ) → (answer_of c x (primary q d) room).answer.asked ≡ Ok p → NoSix (request (primary q d))
  unfolding own_reading
  opened_six q d p e k less =
      let z = (answer_of c x (primary q d) room).answer.exchange in
      let o = accepted_opens c x q d room four p e in
      either (eqb k p) (λ t. gets is_six (own_reading x k) (own_reading z k) ≡ false)
      (λ t. ap (λ (j : ℕ). gets is_six (own_reading x k) (own_reading z j)) (eqb-true k p t) ∙ ap (λ (i : Own). gets is_six (own_reading x k) (read i)) o.place ∙ none_shown (own_reading x k) _ refl)
      (λ t. ap (λ (i : Own). gets is_six (own_reading x k) (read i)) (o.others k (eqb-false k p t)) ∙ same_gets is_six (own_reading x k))

  asked_six : (r : Request) (a : Asked) → (answer_of c x r room).answer.asked ≡ a → NoSix (request r)
  asked_six (primary q d) (Ok p) e = opened_six q d p e
  asked_six (reply k f d) (Ok p) e =
      quiet_six (request (reply k f d)) (reply_none c x room four k f d) (λ q. either_zero (taken_at (answer_of c x (reply k f d) room).answer.asked q) _ _ refl refl)
  asked_six (freeing_own k) (Ok p) e =
      quiet_six (request (freeing_own k)) (free_own_none c x room four k) (λ q. either_zero (taken_at (answer_of c x (freeing_own k) room).answer.asked q) _ _ refl refl)
  asked_six (freeing_incoming k) (Ok p) e =
      quiet_six (request (freeing_incoming k)) (free_incoming_none c x room four k)
      (λ q. either_zero (taken_at (answer_of c x (freeing_incoming k) room).answer.asked q) _ _ refl refl)
  asked_six r (Err n) e = quiet_six (request r) (refused_none c x room four r n e) (λ p. rw e)

  pub request_six : (r : Request) → NoSix (request r)
  request_six r = asked_six r (answer_of c x r room).answer.asked refl

-- ---- what the onlooker keeps of the primaries: reports change nothing of it

module _ (s : Reporter) where
  caused_same : (c : Terms) (r : Report) → (is_caused c r s).primaries ≡ s.primaries
  unfolding is_due
  caused_same c r =
      chosen (λ (u : Reporter). u.primaries ≡ s.primaries) c.host s (is_due r s) (λ t. refl)
      (λ t.
      chosen (λ (u : Reporter). u.primaries ≡ s.primaries) (is_nobody s.turn) _ _ (λ e. refl)
      (λ e. chosen (λ (u : Reporter). u.primaries ≡ s.primaries) (ltb (length s.waiting) 8) (waits_too r (counted s)) (is_lost (counted s)) (λ i. refl) (λ i. refl)))

  noted_same : (c : Terms) (n : ℕ) (h : List ℕ) → (by_note c n h s).primaries ≡ s.primaries
  noted_same c n h =
      chosen (λ (u : Reporter). u.primaries ≡ s.primaries) (eqb n 22) (is_caused c (report 1 h) s) _ (λ t. caused_same c (report 1 h))
      (λ t. chosen (λ (u : Reporter). u.primaries ≡ s.primaries) (eqb n 26) (is_caused c (report 11 h) s) s (λ e. caused_same c (report 11 h)) (λ e. refl))

  place_same : (c : Terms) (before after : ℕ → Option OwnReading) (p : ℕ) → (by_place c before after p s).primaries ≡ s.primaries
  place_same c before after p =
      chosen (λ (u : Reporter). u.primaries ≡ s.primaries) (gets is_six (before p) (after p)) (is_caused c (report 9 (s.primaries p)) s) s
      (λ t. caused_same c (report 9 (s.primaries p))) (λ t. refl)

  oldest_same : (l : List Report) → (oldest_of l s).primaries ≡ s.primaries
  oldest_same [] = refl
  oldest_same (r ∷ rest) = refl

  ends_same : (t : Turn) → (ends t s).primaries ≡ s.primaries
  ends_same nobody = refl
  ends_same caller = oldest_same s.waiting
  ends_same reporter = oldest_same s.waiting

-- ---- one call

-- what holds between calls, in two parts
pub box_of : (x : Exchange) (s : Reporter) → ReportsAre x s → BoxIs x.sending x.reports s
box_of x s w = record {
  sound = w.sound;
  turn = w.turn;
  waiting = w.waiting;
  dropped = w.dropped;
  none_lost = w.none_lost;
  most = w.most;
  none_idle = w.none_idle;
}

both_are : (x : Exchange) (s : Reporter) (f : ℕ → List ℕ) → BoxIs x.sending x.reports s → s.primaries ≡ f → Headed x f → ReportsAre x s
both_are x s f w same headed = record {
  sound = w.sound;
  turn = w.turn;
  waiting = w.waiting;
  dropped = w.dropped;
  primaries = λ p less u. headed p less u ∙ ap (λ (g : ℕ → List ℕ). g p) (sym same);
  none_lost = w.none_lost;
  most = w.most;
  none_idle = w.none_idle;
}

-- by its note
pub noted_is : (c : Terms) (y : Exchange) (h : List ℕ) (b : Outbox) (s : Reporter) (n : Note) → BoxIs b.sending b.reports s
    → (let a = caused_by n c y h b in BoxIs a.sending a.reports (by_note c (note_number n) h s))
noted_is c y h b s Kept w = w
noted_is c y h b s Misrouted w = caused_is y.own y.numbers.latest b s c (report 1 h) w
noted_is c y h b s Duplicate w = w
noted_is c y h b s Stray w = w
noted_is c y h b s NoPlace w = w
noted_is c y h b s TooLong w = caused_is y.own y.numbers.latest b s c (report 11 h) w
noted_is c y h b s Empty w = w

-- by one place
module _ (c : Terms) (x y : Exchange) (f : ℕ → List ℕ) (headed : Headed y f) where
  abbrev pub LateIs : Outbox → Reporter → Type 0
  LateIs b s = BoxIs b.sending b.reports s × (s.primaries ≡ f)

  pub late_is : (latest p : ℕ) → p < 4 → (b : Outbox) (s : Reporter) → LateIs b s → LateIs (late_at c x.own y.own latest p b) (by_place c (own_reading x) (own_reading y) p s)
  unfolding late_at own_reading
  late_is latest p less b s w = (
    rw (gets_six (own_place x p) (own_place y p))
        (either (got_no_reply (own_place x p) (own_place y p))
        (λ t.
        got_no_reply (own_place x p) (own_place y p) ≡ t
        → (let a = cond t (caused c y.own latest b (report 9 (own_place y p).header)) b in BoxIs a.sending a.reports (cond t (is_caused c (report 9 (s.primaries p)) s) s)))
        (λ t e.
        let header : (own_place y p).header ≡ s.primaries p = headed p less (got_used (own_place x p) (own_place y p) e) ∙ ap (λ (g : ℕ → List ℕ). g p) (sym w.1) in
        subst (λ (h : List ℕ). (let a = caused c y.own latest b (report 9 (own_place y p).header) in BoxIs a.sending a.reports (is_caused c (report 9 h) s))) header
        (caused_is y.own latest b s c (report 9 (own_place y p).header) w.0))
        (λ t e. w.0) refl),
    place_same s c (own_reading x) (own_reading y) p ∙ w.1,
  )

-- the last block is out, and the end of a send: the reports stay
module _ (x : Exchange) where
  pub out_spares : (z : Sending) → (put_out_by z x).reports ≡ x.reports
  unfolding put_own
  out_spares sending.Nothing = refl
  out_spares (sending.Primary p n) = refl
  out_spares (sending.Reply p f n) = refl
  out_spares (sending.Report f n) = refl

  pub sent_spares : (z : Sending) → ((sent_by z x).exchange.reports ≡ x.reports) × ((failed_by z x).exchange.reports ≡ x.reports)
  unfolding ended_own ended_reply ended_report put_own put_incoming with_sending
  sent_spares sending.Nothing = (refl, refl)
  sent_spares (sending.Primary p n) = (refl, refl)
  sent_spares (sending.Reply p f n) = (refl, refl)
  sent_spares (sending.Report f n) = (refl, refl)

-- a message was accepted: it is a caller's turn
asked_is : (x : Exchange) (s : Reporter) (f : ℕ → List ℕ) (z : Sending) → BoxIs x.sending x.reports s
    → TurnIs z caller s.underway x.reports.shown → BoxIs z x.reports (sends caller f s)
asked_is x s f z w turn = record {
  sound = w.sound;
  turn = turn;
  waiting = w.waiting;
  dropped = w.dropped;
  none_lost = w.none_lost;
  most = w.most;
  none_idle = λ e. absurd (false≢true cc);
}

module _ (c : Terms) (x : Exchange) (room : List ℕ) (four : Fours x) (s : Reporter) (w : ReportsAre x s) where
  abbrev On : Call → Type 0
  On k = ReportsAre (called c x room k).exchange (reporter_sees c x room s k)

  block_on : (h d : List ℕ) → On (block h d)
  unfolding freed_in freed rules_of box_behind
  block_on h d =
      let j = (rules_of c x h d room).answer in
      let y = j.exchange in
      let t = proves x h (note_number j.note) in
      let u = cond t (ends s.turn s) s in
      let behind = freed_is y.own y.numbers.latest (outbox_of y) s x.sending
      (subst (λ (r : Reports). BoxIs x.sending r s) (sym (rules_spare c x h d room).1) (box_of x s w)) t (proven c x h d room) in
      both_are _ _ s.primaries (noted_is c y h (freed_in x.sending y) u j.note behind)
      (noted_same u c (note_number j.note) h
      ∙ chosen (λ (v : Reporter). v.primaries ≡ s.primaries) t (ends s.turn s) s (λ e. ends_same s s.turn) (λ e. refl))
      (headed_on c x room four (block h d) s.primaries (block_none c x room four h d) w.primaries)

  tick_on : On tick
  unfolding passed_of late_over late_at
  tick_on =
      let y = (called c x room tick).exchange in
      let headed = headed_on c x room four tick s.primaries (λ p. refl) w.primaries in
      let at = late_is c x y s.primaries headed y.numbers.latest in
      let first = at 0 (omega arith) (outbox_of (passed_of c x).exchange) s (box_of x s w, refl) in
      let v = at 3 (omega arith) _ _ (at 2 (omega arith) _ _ (at 1 (omega arith) _ _ first)) in
      both_are _ _ s.primaries v.0 v.1 headed

  put_out_on : On put_out
  put_out_on =
      both_are _ s s.primaries
      (subst (λ (z : Sending). BoxIs z (put_out_of x).reports s) (sym (sending_ends c x).put_out)
      (subst (λ (r : Reports). BoxIs x.sending r s) (sym (out_spares x x.sending)) (box_of x s w)))
      refl
      (headed_on c x room four put_out s.primaries (λ p. either_none (sent_from x.sending p) _ _ refl refl) w.primaries)

  -- the end of a send, y being what is left of it
  ended_on : (y : Exchange) → y.sending ≡ sending.Nothing → y.reports ≡ x.reports
      → (let a = freed_in x.sending y in BoxIs a.sending a.reports (ends s.turn s))
  unfolding freed_in freed
  ended_on y free same =
      over_is y.own y.numbers.latest (outbox_of y) s x.sending (subst (λ (r : Reports). BoxIs x.sending r s) (sym same) (box_of x s w)) free

  acked_on : On acked
  acked_on =
      both_are _ _ s.primaries (ended_on (sent_by x.sending x).exchange (sent_none x.sending x refl) (sent_spares x x.sending).0)
      (ends_same s s.turn) (headed_on c x room four acked s.primaries (λ p. either_none (sent_from x.sending p) _ _ refl refl) w.primaries)

  failed_on : On failed
  failed_on =
      both_are _ _ s.primaries (ended_on (failed_by x.sending x).exchange (failed_none x.sending x refl) (sent_spares x x.sending).1)
      (ends_same s s.turn) (headed_on c x room four failed s.primaries (λ p. either_none (sent_from x.sending p) _ _ refl refl) w.primaries)

  request_is : (r : Request) → (let a = (answer_of c x r room).answer in BoxIs a.exchange.sending a.exchange.reports (reporter_asked c (own_reading a.exchange) r a.asked s))
  unfolding refused refused_by claimed_at reply_accepted put_own put_incoming with_sending
  request_is =
      by_request c x room
      (λ r a. BoxIs a.answer.exchange.sending a.answer.exchange.reports (reporter_asked c (own_reading a.answer.exchange) r a.answer.asked s))
      (λ r n. box_of x s w) (λ q d p u e. asked_is x s _ _ (box_of x s w) refl) (λ p f d u a b. asked_is x s _ _ (box_of x s w) refl)
      (λ p e. box_of x s w) (λ p e. box_of x s w)

  -- the primaries of a request that was refused, or accepted
  asked_headed : x.numbers.last ≤ 65535 → (r : Request) (a : Asked) → (answer_of c x r room).answer.asked ≡ a
      → (let z = (answer_of c x r room).answer.exchange in Headed z (reporter_asked c (own_reading z) r a s).primaries)
  asked_headed fits (primary q d) (Ok p) e = primary_headed c x room four fits q d p e s.primaries w.primaries
  asked_headed fits (reply k f d) (Ok p) e = headed_on c x room four (request (reply k f d)) s.primaries (reply_none c x room four k f d) w.primaries
  asked_headed fits (freeing_own k) (Ok p) e = headed_on c x room four (request (freeing_own k)) s.primaries (free_own_none c x room four k) w.primaries
  asked_headed fits (freeing_incoming k) (Ok p) e =
      headed_on c x room four (request (freeing_incoming k)) s.primaries (free_incoming_none c x room four k) w.primaries
  asked_headed fits r (Err n) e = headed_on c x room four (request r) s.primaries (refused_none c x room four r n e) w.primaries

  call_on : x.numbers.last ≤ 65535 → (k : Call) → On k
  call_on fits (block h d) = block_on h d
  call_on fits tick = tick_on
  call_on fits put_out = put_out_on
  call_on fits acked = acked_on
  call_on fits failed = failed_on
  call_on fits (request r) = both_are _ _ _ (request_is r) refl (asked_headed fits r (answer_of c x r room).answer.asked refl)

pub reports_kept_on : ReportsKeptOn
reports_kept_on c x room four fits s k w = call_on c x room four s w fits k

-- ---- any calls

-- the numbers are as their own onlooker keeps them, so the last one fits
pub record AllKept (x : Exchange) (s : Reporter) : Type 0 where
  pub reports : ReportsAre x s
  pub seen : NumbersSeen
  pub numbers : NumbersAre x seen

pub kept_on : (c : Terms) (x : Exchange) (room : List ℕ) (s : Reporter) (k : Call) → Sound x → AllKept x s
    → AllKept (called c x room k).exchange (reporter_sees c x room s k)
unfolding own_reading
kept_on c x room s k g w =
    let four = four_places x g in
    record {
      reports = reports_kept_on c x room four w.numbers.fits s k w.reports;
      seen = numbers_sees c x room w.seen k;
      numbers = numbers_kept_on c x room four w.seen k w.numbers;
    }

pub kept_fresh : (last : ℕ) → last ≤ 65535 → AllKept (fresh_exchange last) nothing_reported
unfolding own_reading
kept_fresh last fits = record {
  reports = record {
    sound = none_at_start.sound;
    turn = refl;
    waiting = none_at_start.none;
    dropped = none_at_start.dropped;
    primaries = λ p less u. absurd (false≢true (ap (λ (o : Own). in_use (read o)) (sym (any_fresh fresh_own 4 p)) ∙ u));
    none_lost = refl;
    most = omega arith;
    none_idle = λ e. refl;
  };
  seen = numbers_at_start last;
  numbers = numbers_fresh last fits;
}

pub reports_kept : ReportsKept
reports_kept c last room fits whole ks =
    (run_any c (reporter_sees c) AllKept (kept_on c) (at_start last room) nothing_reported ks (sound_fresh last room whole) (kept_fresh last fits)).reports
