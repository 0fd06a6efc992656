-- The message being sent is the one that was accepted, or the report that started, last (`specs/Posting.antt`). Assumes nothing.
use Rattle.std.specs.Prelude.{Option, Some, None, Ok, Err}
use Prim.Native.Nat.{ℕ, ◌+◌, ◌*◌, ◌≤◌, ◌<◌}
use mathlib.Core.Path.{◌≡◌, refl, sym, ap, ◌∙◌, subst}
use mathlib.Core.Bool.{Bool, true, false, cond, false≢true}
use mathlib.Core.List.{List, [], ◌∷◌}
use mathlib.Core.Logic.{◌⊎◌, ⊎_elim, ◌≢◌}
use native.Mathlib.Omega.{arith}
use lib.ListN.{length}
use borrow.Author.Tests.{eq-eqb}
use Rattle.header.specs.Header.{InRange, header_of}
use Rattle.header.specs.declared.header.Header.{Header}
use Rattle.settings.specs.declared.terms.Terms.{Terms}
use Rattle.place.specs.Own.{primary_of as own_primary}
use Rattle.place.specs.OwnHistory as own
use Rattle.place.proofs.Verdicts.{request_shown, sent_header, answered_header}
use Rattle.place.specs.Incoming.{primary_of as incoming_primary, fresh_incoming}
use Rattle.place.specs.IncomingHistory as incoming
use Rattle.place.specs.IncomingTheorems.{is_complete}
use Rattle.place.proofs.Completing.{complete_stays}
use Rattle.place.specs.declared.Standing.{Standing}
use Rattle.place.specs.declared.Standing.TheVariants as standing
use Rattle.place.specs.declared.End.TheVariants as end
use Rattle.place.specs.declared.IncomingStage.{IncomingStage}
use Rattle.place.specs.declared.IncomingStage.TheVariants as arrival
use Rattle.place.specs.declared.Incoming.{Incoming}
use Rattle.table.specs.Own.{reply_for}
use Rattle.table.specs.Incoming.{message_for, open_alike, free_incoming}
use Rattle.reports.specs.declared.Reports.{Reports}
use Rattle.exchange.specs.Exchange.{fresh_exchange, own_place, incoming_place, sent_from}
use Rattle.exchange.specs.Tick.{tick_of}
use Rattle.exchange.specs.Send.{outgoing_at, outgoing_of, sent_of, failed_of}
use Rattle.exchange.specs.Judge.{judge_of}
use Rattle.exchange.specs.Request.{sending_by, Request, primary, reply, freeing_own, freeing_incoming, answer_of}
use Rattle.exchange.specs.Range.{sending_in_range, SendingFits}
use Rattle.exchange.specs.Reading.{incoming_reading, header_by, own_reading}
use Rattle.exchange.specs.Refusals.{Opened}
use Rattle.exchange.specs.Rules.{Fours}
use Rattle.exchange.specs.BeingSent.{sending_after, ReportBegins}
use Rattle.exchange.specs.Reports.{same_message}
use Rattle.exchange.specs.Numbers.{number_shown, NumbersAre}
use Rattle.exchange.specs.History.{Call, block, tick, put_out, acknowledged, failed, request, called, Joined, of_new, of_reply, joins, if_kept, joins_asked, sees, Track, next, track, at_start}
use Rattle.exchange.specs.Releases as side
use Rattle.exchange.specs.Theorems.{length_sent, from_caller}
use Rattle.exchange.specs.Watching.{told_by, found_at, taken_at, accepted_as, reply_from, own_taken, own_sees, OwnAt, watch}
use Rattle.exchange.specs.Underway.{OnItsWay, Way, none, way_at, way, is_onway, Underway, ReplyAt, reply_sees}
use Rattle.exchange.specs.Posting.{Post, post, nothing_posted, primary_asked, reply_asked, report_sent, post_asked, post_started, post_reported, post_sees, OutgoingAccepted}
use Rattle.exchange.specs.declared.Sending.{Sending}
use Rattle.exchange.specs.declared.Sending.TheVariants as sending
use Rattle.exchange.specs.declared.Exchange.{Exchange}
use Rattle.exchange.specs.declared.Outgoing.TheVariants as outgoing
use Rattle.exchange.specs.declared.OwnReading.{OwnReading}
use Rattle.exchange.specs.declared.IncomingReading.{IncomingReading}
use Rattle.exchange.specs.declared.Note.{Note}
use Rattle.exchange.specs.declared.Note.TheVariants.{Kept, Misrouted, Duplicate, Stray, NoPlace, TooLong, Empty}
use Rattle.exchange.specs.declared.Primary.{Primary}
use Rattle.exchange.proofs.Accepting.{refused_number, refused_changes_nothing, accepted_opens, accepted_replies, accepted_releases}
use Rattle.exchange.proofs.Same.{message_same, other_message}
use Rattle.exchange.proofs.Starting.{still, over, begins}
use Rattle.exchange.proofs.BeingSent.{request_sends, sending_ends}
use Rattle.exchange.proofs.Sides.{by_event, nothing_seen}
use Rattle.exchange.proofs.OneCall.{call}
use Rattle.exchange.proofs.Ranges.{sending_fits_exactly}
use Rattle.exchange.proofs.Inside.{Ranged, one_ranged}
use Rattle.exchange.proofs.Runs.{Sound, four_places, sound_fresh, sound_on, run_any}
use Rattle.exchange.proofs.Watching.{own_watched_on, watched_start}
use Rattle.exchange.proofs.Underway.{apart, underway_open, underway_on}
use Rattle.exchange.proofs.Replies.{reply_watched_on}
use Rattle.exchange.proofs.Repeated.{any_fresh}
use Rattle.exchange.proofs.Another.{Numbered, call_numbered, begun_other}
use Rattle.exchange.proofs.Numbering.{numbers_fresh, numbers_of, own_numbers, Moves, call_moves, put_out_shows, given_shown, numbers_kept_on}
use Rattle.exchange.specs.Asked.{Asked}

-- ---- what the onlookers of the places know of it

-- a request that is underway or out keeps its header
module _ (s : own.Seen) where
  -- whether this is its place or not
  either_header : (t : Bool) (y : own.Seen) → y.header ≡ s.header → (cond t y s).header ≡ s.header
  either_header true y e = e
  either_header false y e = refl

  asked_header : (c : Terms) (x : Exchange) → OnItsWay s.request → (t : Bool) (r : Request) → (cond t (own_taken c x s r) s).header ≡ s.header
  asked_header c x u true (primary q d) =
      let shown : own.Request → Header = λ r. (own.asked r s (accepted_as c x q (length d))).header in ⊎_elim (ap shown) (ap shown) u
  asked_header c x u true (reply k f d) = refl
  asked_header c x u true (freeing_own k) = refl
  asked_header c x u true (freeing_incoming k) = refl
  asked_header c x u false r = refl

  header_kept : (c : Terms) (p : ℕ) (x : Exchange) (room : List ℕ) → OnItsWay s.request → (k : Call) → (own_sees c p x room s k).header ≡ s.header
  header_kept c p x room u (block h d) =
      either_header (found_at (reply_for x.own (header_of h)) p) _ (answered_header s (told_by (judge_of c x h d room).answer.note) (header_of h) (length d))
  header_kept c p x room u tick = refl
  header_kept c p x room u put_out = either_header (sent_from x.sending p) _ (sent_header s s.request).0
  header_kept c p x room u acknowledged = either_header (sent_from x.sending p) _ (sent_header s s.request).1
  header_kept c p x room u failed = either_header (sent_from x.sending p) _ (sent_header s s.request).2
  header_kept c p x room u (request r) = asked_header c x u (taken_at (answer_of c x r room).answer.asked p) r

-- a message whose reply is on its way keeps its own
replying_at : (z : IncomingStage) → is_onway (way_at z) ≡ true → incoming.shows_at z ≡ incoming.replying
replying_at arrival.Free e = absurd (false≢true e)
replying_at (arrival.Open a) e = absurd (false≢true e)
replying_at (arrival.Complete n) e = absurd (false≢true e)
replying_at (arrival.Replying n) e = refl
replying_at (arrival.Replied n end.Sent) e = absurd (false≢true e)
replying_at (arrival.Replied n end.Failed) e = absurd (false≢true e)

replying_kept : (c : Terms) (i : Incoming) → incoming.shows i ≡ incoming.replying → (e : incoming.Event c) → (incoming.step i e).header ≡ i.header
replying_kept c i r (incoming.begin h n q b) = ((complete_stays c i).kept (ap is_complete r) (incoming.begin h n q b) refl).1
replying_kept c i r (incoming.block h n q) = ((complete_stays c i).kept (ap is_complete r) (incoming.block h n q) refl).1
replying_kept c i r incoming.tick = ((complete_stays c i).kept (ap is_complete r) incoming.tick refl).1
replying_kept c i r incoming.answer = ((complete_stays c i).kept (ap is_complete r) incoming.answer refl).1
replying_kept c i r incoming.sent = ((complete_stays c i).kept (ap is_complete r) incoming.sent refl).1
replying_kept c i r incoming.failed = ((complete_stays c i).kept (ap is_complete r) incoming.failed refl).1
replying_kept c i r incoming.release = ap (λ (j : Incoming). j.header) ((complete_stays c i).on_its_way r)

-- ---- one call

-- what is known of the message being sent: it is as it was posted. F is that a number has no more than its bits.
pub record Holds (F : Type 0) (c : Terms) (x : Exchange) (s : Post) : Type 0 where
  pub size : from_caller x.sending ≡ true → length_sent x.sending ≡ length s.text
  pub message : F → from_caller x.sending ≡ true → InRange s.header → outgoing_of x ≡ outgoing.Message s.header (length s.text)
  pub report : (f n : ℕ) → x.sending ≡ sending.Report f n → s ≡ report_sent c.device f n x.reports.shown
  -- a reply has the function that was asked for, whatever numbers its header has
  pub function : (p f n : ℕ) → x.sending ≡ sending.Reply p f n → f ≡ s.header.function

-- and between calls: it is one of a place, or a report that has the last number; and what the onlookers of the places have seen
pub record Carries (F : Type 0) (c : Terms) (x : Exchange) (s : Post) : Type 0 where
  pub holds : Holds F c x s
  ranged : Ranged x
  numbered : Numbered x
  pub numbers : F → NumbersAre x (numbers_of x)
  own : (p : ℕ) → p < 4 → (z : own.Seen) × OwnAt c p x z × Underway p x z
  way : (p : ℕ) → p < 4 → (z : Way) × ReplyAt p x z

-- the header is that of its place
same_outgoing : (z : Sending) (x y : Exchange) → ((p n : ℕ) → z ≡ sending.Primary p n → own_primary (own_place y p) ≡ own_primary (own_place x p))
    → ((p f n : ℕ) → z ≡ sending.Reply p f n → (incoming_place y p).header ≡ (incoming_place x p).header) → outgoing_at z y ≡ outgoing_at z x
same_outgoing sending.Nothing x y o i = refl
same_outgoing (sending.Primary p n) x y o i = ap (λ (h : Header). outgoing.Message h n) (o p n refl)
same_outgoing (sending.Reply p f n) x y o i = ap (λ (h : Header). outgoing.Message (reply_asked h f) n) (i p f n refl)
same_outgoing (sending.Report f n) x y o i = refl

-- the same message is posted once
same_started : (c : Terms) (z : Sending) (shown : List ℕ) (s : Post) → post_started c true z shown s ≡ s
same_started c sending.Nothing shown s = refl
same_started c (sending.Primary p n) shown s = refl
same_started c (sending.Reply p f n) shown s = refl
same_started c (sending.Report f n) shown s = refl

pub same_post : (c : Terms) (x y : Exchange) (s : Post) → y.sending ≡ x.sending → post_reported c x y s ≡ s
same_post c x y s e =
    ap (λ (t : Bool). post_started c t y.sending y.reports.shown s) (message_same x.sending y.sending (sym e))
    ∙ same_started c y.sending y.reports.shown s

-- a report that starts is posted
new_post : (c : Terms) (x y : Exchange) (s : Post) → x.sending ≢ y.sending → (f n : ℕ) → y.sending ≡ sending.Report f n
    → post_reported c x y s ≡ report_sent c.device f n y.reports.shown
new_post c x y s other f n e =
    ap (λ (t : Bool). post_started c t y.sending y.reports.shown s) (other_message x.sending y.sending other)
    ∙ ap (λ (z : Sending). post_started c false z y.reports.shown s) e

-- a request starts none
pub asked_post : (c : Terms) (x y : Exchange) (s : Post) (r : Request) (a : Asked) → y.sending ≡ sending_after r a x.sending → post_reported c x y s ≡ s
asked_post c x y s (primary q d) (Ok p) e =
    ap (λ (z : Sending). post_started c (same_message x.sending z) z y.reports.shown s) e
asked_post c x y s (reply k f d) (Ok p) e =
    ap (λ (z : Sending). post_started c (same_message x.sending z) z y.reports.shown s) e
asked_post c x y s (freeing_own k) (Ok p) e = same_post c x y s e
asked_post c x y s (freeing_incoming k) (Ok p) e = same_post c x y s e
asked_post c x y s r (Err n) e = same_post c x y s e

-- Of two calls, in the second of which time passes, one starts at most: it is posted once.
module _ (c : Terms) (x y v : Exchange) (s : Post) (numbered : Numbered y) (late : (v.sending ≡ y.sending) ⊎ ReportBegins y.sending v.sending) where
  idle_post : (a : Exchange) (q : Post) → v.sending ≡ sending.Nothing → post_reported c a v q ≡ q
  idle_post a q e = ap (λ (z : Sending). post_started c (same_message a.sending z) z v.reports.shown q) e

  was_idle : v.sending ≡ sending.Nothing → y.sending ≡ sending.Nothing
  was_idle e = ⊎_elim (λ f. sym f ∙ e) (λ w. w.was) late

  pub post_late : Moves y v → x.sending ≢ v.sending → post_reported c y v (post_reported c x y s) ≡ post_reported c x v s
  post_late (still l e h) other =
      same_post c y v _ e ∙ (λ i. post_started c (same_message x.sending (sym e i)) (sym e i) (sym h i) s)
  post_late (over l e) other =
      idle_post y _ e ∙ ap (λ (z : Sending). post_started c (same_message x.sending z) z y.reports.shown s) (was_idle e) ∙ sym (idle_post x s e)
  post_late (begins r l e h) other =
      new_post c y v _ (begun_other y v numbered r.function l e) _ _ e ∙ sym (new_post c x v s other _ _ e)

-- what is read of a complete message
complete_read : (x : Exchange) (p n : ℕ) → (incoming_place x p).stage ≡ arrival.Complete n → header_by (incoming_reading x p) ≡ incoming_primary (incoming_place x p)
unfolding incoming_reading
complete_read x p n e = rw e

-- the header of a primary that was accepted is what was asked for, with the number that its place shows
pub asked_for : (c : Terms) (x : Exchange) (room : List ℕ) → Fours x → x.numbers.last ≤ 65535 → (q : Primary) (d : List ℕ) (p : ℕ) (y : Exchange) (left : List ℕ)
    → (o : Opened c x q d room p y left) → o.header ≡ primary_asked c q (length d) (number_shown (own_reading y p))
asked_for c x room four fits q d p y left o =
    let a = o.as_asked in
    λ i. record {
      r = a.r i;
      device = a.device i;
      w = a.w i;
      stream = a.stream i;
      function = a.function i;
      e = a.e i;
      number = a.number i;
      system = (a.system ∙ ap (λ (m : ℕ). q.source * 65536 + m) (sym (given_shown x four fits c q d room p y left o))) i;
    }

open_used : (z : Standing) → z ≡ standing.Open → z ≡ standing.Free → ⊥
open_used z e f = let n : ◌≡◌ {A = ℕ} 0 1 = cc in omega arith

module _ (F : Type 0) (c : Terms) (x : Exchange) (room : List ℕ) (four : Fours x) (s : Post) (g : Carries F c x s) where
  -- its place is one of four
  placed : (z : Sending) → x.sending ≡ z → SendingFits z
  placed z e = (sending_fits_exactly z).0 (ap sending_in_range (sym e) ∙ g.ranged)

  module _ (k : Call) where
    abbrev y : Exchange
    y = (called c x room k).exchange

    -- what the onlookers of the places have seen then
    own_on : (p : ℕ) → p < 4 → (z : own.Seen) × OwnAt c p y z × Underway p y z
    own_on p less =
        let w = g.own p less in
        (own_sees c p x room w.0 k, own_watched_on c x room four.own p less w.0 k w.1, underway_on c x room four p less w.0 w.1 w.2 k)

    way_on : (p : ℕ) → p < 4 → (z : Way) × ReplyAt p y z
    way_on p less = let w = g.way p less in (reply_sees c p x room w.0 k, reply_watched_on c x room four p less w.0 w.1 k)

    numbers_on : F → NumbersAre y (numbers_of y)
    numbers_on f = own_numbers y _ (numbers_kept_on c x room four (numbers_of x) k (g.numbers f))

    -- the same message is being sent
    module _ (same : y.sending ≡ x.sending) (shows : y.reports.shown ≡ x.reports.shown) where
      own_same : (p n : ℕ) → x.sending ≡ sending.Primary p n → own_primary (own_place y p) ≡ own_primary (own_place x p)
      unfolding own_on
      own_same p n e =
          let less : p < 4 = let f = placed (sending.Primary p n) e in omega arith in
          let w = g.own p less in
          let v = own_on p less in
          let here : sent_from x.sending p ≡ true = ap (λ (z : Sending). sent_from z p) e ∙ eq-eqb p p refl in
          let before : OnItsWay w.0.request = w.2.1 here in
          let after : OnItsWay v.0.request = v.2.1 (ap (λ (z : Sending). sent_from z p) same ∙ here) in
          request_shown c _ v.1 (open_used _ (underway_open c p y v.0 v.1 after)) ∙ header_kept w.0 c p x room before k
          ∙ sym (request_shown c _ w.1 (open_used _ (underway_open c p x w.0 w.1 before)))

      incoming_same : (p f n : ℕ) → x.sending ≡ sending.Reply p f n → (incoming_place y p).header ≡ (incoming_place x p).header
      incoming_same p f n e =
          let less : p < 4 = let f = placed (sending.Reply p f n) e in omega arith in
          let i = incoming_place x p in
          let w = g.way p less in
          let on : is_onway (way i) ≡ true = ap is_onway w.1.0 ∙ w.1.1 ∙ ap (λ (z : Sending). reply_from z p) e ∙ eq-eqb p p refl in
          by_event (λ (j : Incoming) z. j.header ≡ i.header) (call c x p less side.incoming room k four.incoming (nothing_seen side.incoming)) refl
          (λ e t. replying_kept c i (replying_at i.stage on) e)

      stays : Holds F c y s
      stays =
          let still : outgoing_of y ≡ outgoing_of x = ap (λ (z : Sending). outgoing_at z y) same ∙ same_outgoing x.sending x y own_same incoming_same in
          let before : from_caller y.sending ≡ true → from_caller x.sending ≡ true = λ z. ap from_caller (sym same) ∙ z in
          record {
            size = λ z. ap length_sent same ∙ g.holds.size (before z);
            message = λ f z r. still ∙ g.holds.message f (before z) r;
            report = λ h n e. g.holds.report h n (sym same ∙ e) ∙ ap (report_sent c.device h n) (sym shows);
            function = λ p f n e. g.holds.function p f n (sym same ∙ e);
          }

    -- a call that is no request
    moved : Moves x y → Holds F c y (post_reported c x y s)
    moved (still l e h) = subst (Holds F c y) (sym (same_post c x y s e)) (stays e h)
    moved (over l e) =
        record {
          size = λ t. absurd (false≢true (ap from_caller (sym e) ∙ t));
          message = λ f t. absurd (false≢true (ap from_caller (sym e) ∙ t));
          report = λ h n r. absurd (false≢true (ap sending_by (sym e ∙ r)));
          function = λ p f n r. absurd (false≢true (ap sending_by (sym e ∙ r)));
        }
    moved (begins r l e h) =
        record {
          size = λ t. absurd (false≢true (ap from_caller (sym e) ∙ t));
          message = λ f t. absurd (false≢true (ap from_caller (sym e) ∙ t));
          report = new_post c x y s (begun_other x y g.numbered r.function l e);
          function = λ p f n r. absurd (false≢true (ap from_caller (sym e ∙ r)));
        }

  -- a message was accepted
  began : (z : Exchange) (h m : Header) (d : List ℕ) → from_caller z.sending ≡ true → length_sent z.sending ≡ length d → (F → m ≡ h)
      → (InRange m → outgoing_of z ≡ outgoing.Message m (length d)) → ((p f n : ℕ) → z.sending ≡ sending.Reply p f n → f ≡ h.function)
      → Holds F c z (post h d)
  began z h m d caller size same out function = record {
    size = λ t. size;
    message = λ f t r. out (subst InRange (sym (same f)) r) ∙ ap (λ (k : Header). outgoing.Message k (length d)) (same f);
    report = λ k n e. absurd (false≢true (ap from_caller (sym e) ∙ caller));
    function = function;
  }

  asked : (r : Request) (a : Asked) → (answer_of c x r room).answer.asked ≡ a
      → (let z = (answer_of c x r room).answer.exchange in Holds F c z (post_asked c (incoming_reading x) (own_reading z) r a s))
  asked r (Err n) e =
      subst (λ (z : Exchange). Holds F c z s) (sym (refused_changes_nothing c x r room (refused_number _ n e)).0) g.holds
  asked (primary q d) (Ok p) e =
      let o = accepted_opens c x q d room four p e in
      let z = (answer_of c x (primary q d) room).answer.exchange in
      began z (primary_asked c q (length d) (number_shown (own_reading z p))) o.header d (ap from_caller o.sending) (ap length_sent o.sending)
      (λ f. asked_for c x room four (g.numbers f).fits q d p _ _ o) o.outgoing (λ k f n r. let e = sym o.sending ∙ r in absurd (false≢true cc))
  asked (reply k f d) (Ok p) e =
      let o = accepted_replies c x k f d room p e in
      let z = (answer_of c x (reply k f d) room).answer.exchange in
      let a = o.replies_to in
      let read : header_by (incoming_reading x p) ≡ incoming_primary (incoming_place x k) =
      ap (λ (j : ℕ). header_by (incoming_reading x j)) o.same ∙ complete_read x k o.size o.was in
      began z (reply_asked (header_by (incoming_reading x p)) f) o.header d (ap from_caller o.sending) (ap length_sent o.sending)
      (λ t. (λ i. record {
        r = a.r i;
        device = a.device i;
        w = a.w i;
        stream = a.stream i;
        function = a.function i;
        e = a.e i;
        number = a.number i;
        system = a.system i;
      })
      ∙ ap (λ (h : Header). reply_asked h f) (sym read))
      (λ t. o.outgoing) (λ j h n r. let e = sym o.sending ∙ r in cc)
  asked (freeing_own k) (Ok p) e =
      let o = accepted_releases.own c x k room p e in stays (request (freeing_own k)) o.sending (ap (λ (r : Reports). r.shown) o.reports)
  asked (freeing_incoming k) (Ok p) e =
      let o = accepted_releases.incoming c x k room p e in stays (request (freeing_incoming k)) o.sending (ap (λ (r : Reports). r.shown) o.reports)

  posted_on : (k : Call) → Holds F c (called c x room k).exchange (post_sees c x room s k)
  posted_on (block h d) = moved (block h d) (call_moves c x room four (block h d))
  posted_on tick = moved tick (call_moves c x room four tick)
  posted_on put_out = stays put_out (sending_ends c x).put_out (put_out_shows c x room four)
  posted_on acknowledged = moved acknowledged (call_moves c x room four acknowledged)
  posted_on failed = moved failed (call_moves c x room four failed)
  posted_on (request r) = asked r (answer_of c x r room).answer.asked refl

  pub carries_on : (k : Call) → Carries F c (called c x room k).exchange (post_sees c x room s k)
  carries_on k = record {
    holds = posted_on k;
    ranged = one_ranged c x room four g.ranged k;
    numbered = call_numbered c x room four g.numbered k;
    numbers = numbers_on k;
    own = own_on k;
    way = way_on k;
  }

-- ---- any calls

pub carries_start : (c : Terms) (last : ℕ) → Carries (last ≤ 65535) c (fresh_exchange last) nothing_posted
carries_start c last = record {
  holds = record {
    size = λ t. absurd (false≢true t);
    message = λ f t. absurd (false≢true t);
    report = λ h n e. absurd (false≢true (ap sending_by e));
    function = λ p f n e. absurd (false≢true (ap sending_by e));
  };
  ranged = refl;
  numbered = record { last = λ f n e. absurd (false≢true (ap sending_by e)) };
  numbers = numbers_fresh last;
  own = λ p less. (own.nothing_seen, watched_start side.own c p last, (λ e. absurd (apart _ own.none refl refl e), λ e. absurd (false≢true e)));
  way = λ p less. (none, (ap way (any_fresh fresh_incoming 4 p), refl));
}

pub carries_all : (F : Type 0) (c : Terms) (t : Track) (s : Post) (ks : List Call) → Sound t.exchange → Carries F c t.exchange s
    → Carries F c (track c t ks).exchange (watch c (post_sees c) t s ks)
carries_all F c = run_any c (post_sees c) (Carries F c) (λ x lent s k w g. carries_on F c x lent (four_places x w) s g k)

pub outgoing_accepted : OutgoingAccepted
outgoing_accepted c last room fits whole ks =
    let g = carries_all (last ≤ 65535) c (at_start last room) nothing_posted ks (sound_fresh last room whole) (carries_start c last) in
    record { size = g.holds.size; message = g.holds.message fits; report = g.holds.report }

-- ---- its data is what the onlooker of the areas has joined

module _ (s : Joined) (d : List ℕ) where
  new_out : (a f : Option ℕ) → (of_new a f s d).outgoing ≡ s.outgoing
  new_out (Some p) f = refl
  new_out None (Some p) = refl
  new_out None None = refl

  joined_out : (r m a f : Option ℕ) → (of_reply r m a f s d).outgoing ≡ s.outgoing
  joined_out (Some p) m a f = refl
  joined_out None (Some p) a f = refl
  joined_out None None a f = new_out a f

kept_out : (n : Note) (s more : Joined) → more.outgoing ≡ s.outgoing → (if_kept n s more).outgoing ≡ s.outgoing
kept_out Kept s more e = e
kept_out Misrouted s more e = refl
kept_out Duplicate s more e = refl
kept_out Stray s more e = refl
kept_out NoPlace s more e = refl
kept_out TooLong s more e = refl
kept_out Empty s more e = refl

-- where a primary or a reply is being sent
abbrev pub TextIs : Exchange → Joined → Post → Type 0
TextIs x j s = from_caller x.sending ≡ true → j.outgoing ≡ s.text

module _ (c : Terms) (x : Exchange) (room : List ℕ) (four : Fours x) (j : Joined) (s : Post) (g : TextIs x j s) where
  -- by a call that is no request none begins
  moved_text : (y : Exchange) → Moves x y → (o : Joined) → o.outgoing ≡ j.outgoing → TextIs y o (post_reported c x y s)
  moved_text y (still l e h) o same t = same ∙ g (ap from_caller (sym e) ∙ t) ∙ ap (λ (p : Post). p.text) (sym (same_post c x y s e))
  moved_text y (over l e) o same t = absurd (false≢true (ap from_caller (sym e) ∙ t))
  moved_text y (begins r l e h) o same t = absurd (false≢true (ap from_caller (sym e) ∙ t))

  asked_text : (r : Request) (a : Asked) (before : ℕ → Option IncomingReading) (after : ℕ → Option OwnReading) (z : Sending) → z ≡ sending_after r a x.sending → from_caller z ≡ true
      → (joins_asked r a j).outgoing ≡ (post_asked c before after r a s).text
  asked_text (primary q d) (Ok p) before after z e t = refl
  asked_text (reply k f d) (Ok p) before after z e t = refl
  asked_text (freeing_own k) (Ok p) before after z e t = g (ap from_caller (sym e) ∙ t)
  asked_text (freeing_incoming k) (Ok p) before after z e t = g (ap from_caller (sym e) ∙ t)
  asked_text r (Err n) before after z e t = g (ap from_caller (sym e) ∙ t)

  text_on : (k : Call) → TextIs (called c x room k).exchange (sees c x room j k) (post_sees c x room s k)
  text_on (block h d) =
      let b = header_of h in
      moved_text (judge_of c x h d room).answer.exchange (call_moves c x room four (block h d)) (sees c x room j (block h d))
      (kept_out (judge_of c x h d room).answer.note j (joins x h j d)
      (joined_out j d (reply_for x.own b) (message_for x.incoming b) (open_alike x.incoming b) (free_incoming x.incoming)))
  text_on tick = moved_text (tick_of c x).exchange (call_moves c x room four tick) j refl
  text_on put_out = λ t. g (ap from_caller (sym (sending_ends c x).put_out) ∙ t)
  text_on acknowledged = moved_text (sent_of x).exchange (call_moves c x room four acknowledged) j refl
  text_on failed = moved_text (failed_of x).exchange (call_moves c x room four failed) j refl
  text_on (request r) =
      let a = (answer_of c x r room).answer in
      asked_text r a.asked (incoming_reading x) (own_reading a.exchange) a.exchange.sending (request_sends c x r room).becomes

pub text_all : (c : Terms) (t : Track) (s : Post) (ks : List Call) → Sound t.exchange → TextIs t.exchange t.seen s
    → TextIs (track c t ks).exchange (track c t ks).seen (watch c (post_sees c) t s ks)
unfolding track watch
text_all c t s [] w g = g
text_all c t s (k ∷ ks) w g =
    let x = t.exchange in
    text_all c (next c t k) _ ks (sound_on c x t.room k w) (text_on c x t.room (four_places x w) t.seen s g k)
