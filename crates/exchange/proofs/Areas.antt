-- After any calls each area begins with the data of the kept blocks joined. Assumes nothing.
use Rattle.std.specs.Prelude.{Some}
use Prim.Native.Nat.{ℕ, ◌+◌, ◌≤◌, ◌<◌}
use mathlib.Core.Path.{◌≡◌, refl, sym, ap, ◌∙◌, subst}
use mathlib.Core.Bool.{Bool, true, false, false≢true}
use mathlib.Core.List.{List, [], ◌∷◌}
use mathlib.Core.Logic.{◌⊎◌, inl, inr}
use native.Mathlib.Omega.{arith}
use lib.ListN.{length}
use Rattle.wire.specs.Message.{message_limit}
use Rattle.header.specs.Header.{header_of, header_bytes}
use Rattle.header.specs.declared.header.Header.{Header}
use Rattle.settings.specs.declared.terms.Terms.{Terms}
use Rattle.room.specs.Room.{kept_in}
use Rattle.room.specs.declared.Message.TheVariants as message
use Rattle.place.specs.Fate.{fate_of}
use Rattle.place.specs.Own.{kept_at, own_tick, own_claimed}
use Rattle.place.specs.Incoming.{length_at, free_at, open_at, incoming_tick, begins, begun_by, incoming_begun, incoming_answered}
use Rattle.place.proofs.Messages.{by_fate}
use Rattle.place.specs.declared.Fate.{Fate}
use Rattle.place.specs.declared.End.TheVariants as end
use Rattle.place.specs.declared.IncomingStage.{IncomingStage}
use Rattle.place.specs.declared.IncomingStage.TheVariants as arrival
use Rattle.place.specs.declared.OwnStage.{OwnStage}
use Rattle.place.specs.declared.OwnStage.TheVariants as stage
use Rattle.place.specs.declared.Incoming.{Incoming}
use Rattle.table.specs.Own.{free_own}
use Rattle.table.specs.Incoming.{open_alike, free_incoming}
use Rattle.table.specs.Number.{next_number}
use Rattle.table.proofs.Finding.{reply_lowest, message_lowest, open_alike_lowest, free_incoming_lowest, free_own_lowest}
use Rattle.exchange.specs.Exchange.{own_place, incoming_place, put_own, put_incoming, with_sending, saved_now}
use Rattle.exchange.specs.Tick.{passed_of, tick_of}
use Rattle.exchange.specs.Send.{put_out_by, ended_own, ended_reply, ended_report, sent_by, freeing, failed_by}
use Rattle.exchange.specs.Judge.{Judging, thrown, spoilt_by, reply_block, message_block, begins_at, rules_of, judge_of}
use Rattle.exchange.specs.Request.{Requesting, refused_by, refused, primary_header, claimed_at, reply_accepted, Request, reply, answer_of}
use Rattle.exchange.specs.History.{Call, block, tick, put_out, acknowledged, failed, request, Joined, anew, of_new, joins, if_kept, joins_asked, Track, next, track, at_start}
use Rattle.exchange.specs.Releases as side
use Rattle.exchange.specs.Theorems.{Reached, StartsWith, has_reply, length_sent, from_caller, JoinedInAreas}
use Rattle.exchange.proofs.Unreported.{freeing_sends, judged_sends, ticked_sends}
use Rattle.exchange.proofs.Cases.{Thrown, stray, no_place, too_long_lem, empty, Takes, by_judge, by_request}
use Rattle.exchange.proofs.Filling.{Fills, spares_same, spares_kept, fills_first, fits_area}
use Rattle.exchange.proofs.Holding.{OwnHolds, IncomingHolds, SendHolds, own_ticked, own_put_out_lem, own_sent_lem, own_failed_lem, own_released_lem, own_claimed_lem, incoming_ticked, incoming_answered_lem, incoming_ended, incoming_released_lem}
use Rattle.exchange.proofs.Joining.{Good, all_free, any, every, saved_good, boxed_good, only, joined, put_sending, offered_replied, offered_kept, replied_good, reply_joined, message_joined}
use Rattle.exchange.specs.declared.Note.{Note}
use Rattle.exchange.specs.declared.Sending.{Sending}
use Rattle.exchange.specs.declared.Sending.TheVariants as sending
use Rattle.exchange.specs.declared.Exchange.{Exchange}
use Rattle.exchange.specs.declared.Changed.{Changed}
use Rattle.exchange.specs.declared.Primary.{Primary}

-- ---- a block

-- a primary that begins in a free place, or instead of an open message
begun_holds : (room : List ℕ) (p : ℕ) → length room ≡ 36864 → p < 4 → (h : Header) (d : List ℕ) (i : Incoming) → spoilt_by (fate_of h 0 (length d)) ≡ false
    → IncomingHolds (kept_in room (message.Incoming p) 0 d) p (begun_by i h (fate_of h 0 (length d))).stage d
begun_holds room p w k h d i =
    let z : 0 + length d ≡ length d = omega arith in
    by_fate h 0 (length d)
    (λ (f : Fate). spoilt_by f ≡ false → IncomingHolds (kept_in room (message.Incoming p) 0 d) p (begun_by i h f).stage d)
    (λ l e. absurd (false≢true (sym e)))
    (λ l m e. absurd (false≢true (sym e)))
    (λ l m fits e. subst (λ n. Fills (kept_in room (message.Incoming p) 0 d) (message.Incoming p) n d) (sym z) (fills_first room (message.Incoming p) d w k (omega arith)))
    (λ l m fits some e. subst (λ n. Fills (kept_in room (message.Incoming p) 0 d) (message.Incoming p) n d) (sym z) (fills_first room (message.Incoming p) d w k (omega arith)))

-- where a primary begins, no message is complete
pub begun_at : (h : Header) (d : List ℕ) (q : Header) (s : IncomingStage) (P : Incoming → Type 0) → (free_at s ≡ true) ⊎ (open_at s ≡ true)
    → P (begun_by (record { header = q; stage = s }) h (fate_of h 0 (length d)))
    → P (incoming_begun (record { header = q; stage = s }) h (length d))
unfolding begins
begun_at h d q arrival.Free P e w = w
begun_at h d q (arrival.Open a) P e w = w
begun_at h d q (arrival.Complete n) P (inl e) w = absurd (false≢true e)
begun_at h d q (arrival.Complete n) P (inr e) w = absurd (false≢true e)
begun_at h d q (arrival.Replying n) P (inl e) w = absurd (false≢true e)
begun_at h d q (arrival.Replying n) P (inr e) w = absurd (false≢true e)
begun_at h d q (arrival.Replied n z) P (inl e) w = absurd (false≢true e)
begun_at h d q (arrival.Replied n z) P (inr e) w = absurd (false≢true e)

-- the place that a new primary takes
pub taken_place : (x : Exchange) (b : Header) (p : ℕ) (gone : Bool) → length x.incoming ≡ 4 → Takes x b p gone
    → (p < 4) × ((free_at (incoming_place x p).stage ≡ true) ⊎ (open_at (incoming_place x p).stage ≡ true))
taken_place x b p true four e = let w = ((open_alike_lowest x.incoming b four).at p).0 e in (w.0, inr w.1.0)
taken_place x b p false four (e, f) = let w = ((free_incoming_lowest x.incoming four).at p).0 f in (w.0, inl w.1)

-- its data is joined there
new_joined : (x : Exchange) (b : Header) (p : ℕ) (gone : Bool) (s : Joined) (d : List ℕ) → Takes x b p gone
    → of_new (open_alike x.incoming b) (free_incoming x.incoming) s d ≡ record { replies = s.replies; messages = anew s.messages p d; outgoing = s.outgoing }
new_joined x b p true s d e = rw e
new_joined x b p false s d (e, f) = rw (e, f)

module _ (c : Terms) (x : Exchange) (h d room : List ℕ) (s : Joined) (g : Good x room s) where
  -- what judging leaves is good
  abbrev After : Judging → Type 0
  After j = Good j.answer.exchange j.room (if_kept j.answer.note s (joins x h s d))

  outcast : (n : Note) → Thrown n → After (thrown (saved_now x h) n room)
  unfolding thrown
  outcast _ stray = saved_good x h room s g
  outcast _ no_place = saved_good x h room s g
  outcast _ too_long_lem = saved_good x h room s g
  outcast _ empty = saved_good x h room s g

  rules_joined : After (rules_of c x h d room)
  unfolding thrown reply_block message_block begins_at saved_now
  rules_joined =
      let y = saved_now x h in
      let gy = saved_good x h room s g in
      let b = header_of h in
      by_judge c x h d room After (λ e. g) (λ e u. g)
      (λ p q r.
      let w = ((reply_lowest x.own b g.own.four).at p).0 r in
      rw (r, offered_replied (own_place x p) b (length d) w.1) (replied_good y p _ _ _ (reply_joined y room s gy p w.0 b d w.1)))
      (λ p q r m.
      let w = ((message_lowest x.incoming b g.incoming.four).at p).0 m in
      rw (r, m, offered_kept (incoming_place x p) b (length d) w.1) (message_joined y room s gy p w.0 b d w.1))
      (λ p gone f q r m o e u t.
      let w = taken_place x b p gone g.incoming.four t in
      rw (r, m, new_joined x b p gone s d t)
      (begun_at b d (incoming_place x p).header (incoming_place x p).stage
      (λ i. Good (put_incoming y p i) (kept_in room (message.Incoming p) 0 d) (record { replies = s.replies; messages = anew s.messages p d; outgoing = s.outgoing }))
      w.1
      (joined y room s gy side.incoming p d _ (spares_kept room (message.Incoming p) 0 d g.whole) (begun_holds room p g.whole w.0 b d (incoming_place x p) (ap spoilt_by e ∙ u)))))
      (λ n t r m. outcast n t)

  pub judge_joined : After (judge_of c x h d room)
  judge_joined =
      let j = rules_of c x h d room in
      let out = (if_kept j.answer.note s (joins x h s d)).outgoing in
      boxed_good j.answer.exchange _ _ _ rules_joined
      (judged_sends (λ z. SendHolds j.room z out) (λ w f n. tt) c x.sending h j.answer rules_joined.sends)

-- ---- time, a block of ours that is out, and the end of a send

module _ (x : Exchange) (room : List ℕ) (s : Joined) (g : Good x room s) where
  tick_joined : (c : Terms) → Good (tick_of c x).exchange room s
  unfolding passed_of
  tick_joined c =
      record {
        whole = g.whole;
        own = every g.own (own_tick c) refl (λ p o bs w. own_ticked room p bs c o.header o.stage w);
        incoming = every g.incoming (incoming_tick c) refl (λ p i bs w. incoming_ticked room p bs c i.header i.stage w);
        sends = ticked_sends (λ z. SendHolds room z s.outgoing) (λ w f n. tt) c x g.sends;
      }

  -- nothing is being sent
  idle : (y : Exchange) → Good y room s → Good (with_sending y sending.Nothing) room s
  idle y w = put_sending y room s w sending.Nothing s.outgoing (spares_same room message.Send g.whole) tt

  put_out_joined : (q : Sending) → Good (put_out_by q x) room s
  put_out_joined sending.Nothing = g
  put_out_joined (sending.Primary p n) = let o = own_place x p in only x room s g side.own p _ (own_put_out_lem room p (s.replies p) o.header o.stage (any g.own p))
  put_out_joined (sending.Reply p f n) = g
  put_out_joined (sending.Report f n) = g

  -- a report that waits starts
  freed_joined : (y : Changed) → Good y.exchange room s → Good (freeing x.sending y).exchange room s
  freed_joined y w = boxed_good y.exchange _ room s w (freeing_sends (λ z. SendHolds room z s.outgoing) (λ w f n. tt) x.sending y.exchange w.sends)

  sent_joined : (q : Sending) → Good (sent_by q x).exchange room s
  unfolding ended_own ended_reply ended_report
  sent_joined sending.Nothing = g
  sent_joined (sending.Primary p n) = let o = own_place x p in idle _ (only x room s g side.own p _ (own_sent_lem room p (s.replies p) o.header o.stage (any g.own p)))
  sent_joined (sending.Reply p f n) = let i = incoming_place x p in idle _ (only x room s g side.incoming p _ (incoming_ended room p (s.messages p) end.Sent i.header i.stage (any g.incoming p)))
  sent_joined (sending.Report f n) = idle x g

  failed_joined : (q : Sending) → Good (failed_by q x).exchange room s
  unfolding ended_own ended_reply ended_report
  failed_joined sending.Nothing = g
  failed_joined (sending.Primary p n) = let o = own_place x p in idle _ (only x room s g side.own p _ (own_failed_lem room p (s.replies p) o.header o.stage (any g.own p)))
  failed_joined (sending.Reply p f n) = let i = incoming_place x p in idle _ (only x room s g side.incoming p _ (incoming_ended room p (s.messages p) end.Failed i.header i.stage (any g.incoming p)))
  failed_joined (sending.Report f n) = idle x g

  -- ---- requests

  -- what one leaves is good
  abbrev Asked : Request → Requesting → Type 0
  Asked r a = Good a.answer.exchange a.room (joins_asked r a.answer.asked s)

  module _ (d : List ℕ) (fits : length d ≤ message_limit) where
    -- the message to be sent lies in the send area
    to_send : (y : Exchange) (t : Joined) → Good y room t → (q : Sending) → ((after : List ℕ) → Fills after message.Send (length d) d → SendHolds after q d)
        → Good (with_sending y q) (kept_in room message.Send 0 d) (record { replies = t.replies; messages = t.messages; outgoing = d })
    to_send y t w q here =
        put_sending y room t w q d (spares_kept room message.Send 0 d g.whole)
        (here (kept_in room message.Send 0 d) (fills_first room message.Send d g.whole (omega arith) fits))

    -- a primary takes a free place
    claimed : (c : Terms) (q : Primary) (p : ℕ) → free_own x.own ≡ Some p
        → Good (claimed_at c x p q (length d)) (kept_in room message.Send 0 d) (record { replies = anew s.replies p []; messages = s.messages; outgoing = d })
    unfolding claimed_at put_own with_sending
    claimed c q p e =
        let w = ((free_own_lowest x.own g.own.four).at p).0 e in
        let o = own_place x p in
        let new = own_claimed o (header_bytes (primary_header c q (length d) (next_number x.own x.numbers.last x.numbers.latest))) in
        let empty = own_claimed_lem room p o.header o.stage (header_bytes (primary_header c q (length d) (next_number x.own x.numbers.last x.numbers.latest))) w.1 in
        let put = joined x room s g side.own p [] new (spares_same room (message.Reply p) g.whole) empty in
        let all = to_send (put_own x p new) (record { replies = anew s.replies p []; messages = s.messages; outgoing = s.outgoing }) put (sending.Primary p (length d)) (λ after f. f) in
        record { whole = all.whole; own = all.own; incoming = all.incoming; sends = all.sends }

    answered : (p f : ℕ) → Asked (reply p f d) (reply_accepted x p f d room)
    unfolding reply_accepted
    answered p f =
        let i = incoming_place x p in
        to_send (put_incoming x p (incoming_answered i)) s (only x room s g side.incoming p _ (incoming_answered_lem room p (s.messages p) i.header i.stage (any g.incoming p))) (sending.Reply p f (length d)) (λ after w. w)

  request_joined : (c : Terms) (r : Request) → Asked r (answer_of c x r room)
  unfolding refused refused_by
  request_joined c =
      by_request c x room Asked (λ r n. g) (λ q d p u e. claimed d (fits_area d u.fits) c q p e) (λ p f d u a b. answered d (fits_area d u.fits) p f)
      (λ p e. let o = own_place x p in only x room s g side.own p _ (own_released_lem room p (s.replies p) o.header o.stage (any g.own p)))
      (λ p e. let i = incoming_place x p in only x room s g side.incoming p _ (incoming_released_lem room p (s.messages p) i.header i.stage (any g.incoming p)))

-- ---- any calls

abbrev pub GoodTrack : Track → Type 0
GoodTrack t = Good t.exchange t.room t.seen

-- one call more
pub one_call : (c : Terms) (t : Track) (k : Call) → GoodTrack t → GoodTrack (next c t k)
one_call c t (block h d) g = judge_joined c t.exchange h d t.room t.seen g
one_call c t tick g = tick_joined t.exchange t.room t.seen g c
one_call c t put_out g = put_out_joined t.exchange t.room t.seen g t.exchange.sending
one_call c t acknowledged g = freed_joined t.exchange t.room t.seen g (sent_by t.exchange.sending t.exchange) (sent_joined t.exchange t.room t.seen g t.exchange.sending)
one_call c t failed g = freed_joined t.exchange t.room t.seen g (failed_by t.exchange.sending t.exchange) (failed_joined t.exchange t.room t.seen g t.exchange.sending)
one_call c t (request r) g = request_joined t.exchange t.room t.seen g c r

all_calls : (c : Terms) (t : Track) (ks : List Call) → GoodTrack t → GoodTrack (track c t ks)
unfolding track
all_calls c t [] g = g
all_calls c t (k ∷ ks) g = all_calls c (next c t k) ks (one_call c t k g)

pub fresh_good : (last : ℕ) (room : List ℕ) → length room ≡ 36864 → GoodTrack (at_start last room)
fresh_good last room w = record { whole = w; own = all_free side.own room (λ p. []); incoming = all_free side.incoming room (λ p. []); sends = tt }

pub always : (c : Terms) (t : Track) → Reached c t → GoodTrack t
always c t w = subst GoodTrack w.so (all_calls c (at_start w.last w.room) w.calls (fresh_good w.last w.room w.whole))

-- ---- what is read of it

reply_begins : (room : List ℕ) (p : ℕ) (o : OwnStage) (bs : List ℕ) → OwnHolds room p o bs → has_reply o ≡ true → StartsWith room (message.Reply p) (kept_at o).length bs
reply_begins room p stage.Free bs h e = absurd (false≢true e)
reply_begins room p stage.Sending bs h e = absurd (false≢true e)
reply_begins room p stage.PutOut bs h e = absurd (false≢true e)
reply_begins room p (stage.Awaiting timer) bs h e = absurd (false≢true e)
reply_begins room p (stage.Replying a) bs h e = h.begins
reply_begins room p (stage.Done v r) bs h e = (h e).begins

message_begins : (room : List ℕ) (p : ℕ) (i : IncomingStage) (bs : List ℕ) → IncomingHolds room p i bs → free_at i ≡ false → StartsWith room (message.Incoming p) (length_at i) bs
message_begins room p arrival.Free bs h e = absurd (false≢true (sym e))
message_begins room p (arrival.Open a) bs h e = h.begins
message_begins room p (arrival.Complete n) bs h e = h.begins
message_begins room p (arrival.Replying n) bs h e = h.begins
message_begins room p (arrival.Replied n z) bs h e = h.begins

send_begins : (room : List ℕ) (q : Sending) (bs : List ℕ) → SendHolds room q bs → from_caller q ≡ true → StartsWith room message.Send (length_sent q) bs
send_begins room sending.Nothing bs h e = absurd (false≢true e)
send_begins room (sending.Primary p n) bs h e = h.begins
send_begins room (sending.Reply p f n) bs h e = h.begins
send_begins room (sending.Report f n) bs h e = absurd (false≢true e)

pub joined_in_areas : JoinedInAreas
joined_in_areas c t w =
    let g = always c t w in
    let x = t.exchange in
    record {
      reply = λ p k e. reply_begins t.room p (own_place x p).stage (t.seen.replies p) (g.own.each p k) e;
      incoming = λ p k e. message_begins t.room p (incoming_place x p).stage (t.seen.messages p) (g.incoming.each p k) e;
      outgoing = λ e. send_begins t.room x.sending t.seen.outgoing g.sends e;
    }
