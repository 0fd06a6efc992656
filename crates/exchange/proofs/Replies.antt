-- Our reply in an incoming place: on its way while it is being sent, then sent or failed (`specs/Underway.antt`). Assumes nothing.
use Rattle.std.specs.Prelude.{None, Option}
use Prim.Native.Nat.{ℕ, ◌<◌}
use mathlib.Core.Path.{◌≡◌, refl, sym, ap, ◌∙◌}
use mathlib.Core.Bool.{true, false, cond, not, ◌&&◌, false≢true, true≢false}
use mathlib.Core.List.{List}
use mathlib.Core.Logic.{◌⊎◌, inl, inr, ⊎_elim}
use native.Mathlib.Omega.{arith}
use lib.Dec.{eqb}
use lib.ListN.{length, get_or, set}
use borrow.Author.Tests.{eqb-true, eq-eqb}
use Rattle.wire.proofs.Choice.{either, chosen}
use Rattle.header.specs.Header.{header_of}
use Rattle.header.specs.declared.header.Header.{Header}
use Rattle.settings.specs.declared.terms.Terms.{Terms}
use Rattle.place.proofs.Arrivals.{by_waited}
use Rattle.place.specs.Fate.{fate_of}
use Rattle.place.specs.Incoming.{fresh_incoming, primary_of, free_at, open_at, replied_at, complete_at, length_at, begun_by, begins, incoming_begun, open_by, open_tick, incoming_tick, kept_by, goes_on, incoming_takes, incoming_offered, ended_at, incoming_released, incoming_length}
use Rattle.place.specs.declared.Fate.{Fate}
use Rattle.place.specs.declared.Fate.TheVariants as fate
use Rattle.place.specs.declared.End.{End}
use Rattle.place.specs.declared.End.TheVariants as end
use Rattle.place.specs.declared.IncomingStage.{IncomingStage}
use Rattle.place.specs.declared.IncomingStage.TheVariants as arrival
use Rattle.place.specs.declared.Incoming.{Incoming}
use Rattle.table.proofs.Tables.{incoming_table}
use Rattle.exchange.specs.Exchange.{incoming_place, put_own, put_incoming, with_sending, sent_from, put_replied, saved_now}
use Rattle.exchange.specs.Tick.{passed_of, tick_of}
use Rattle.exchange.specs.Send.{put_out_by, ended_own, ended_reply, ended_report, sent_by, failed_by}
use Rattle.exchange.specs.Judge.{thrown, reply_block, message_block, begins_at, judge_of}
use Rattle.exchange.specs.Reading.{wanted, reply_stage_at, incoming_reading, stage_by, has_ended, reads_incoming}
use Rattle.exchange.specs.Request.{sending_by, is_sending, not_ready, refused_by, refused, claimed_at, reply_accepted, Request, answer_of}
use Rattle.exchange.specs.Rules.{Fours}
use Rattle.exchange.specs.BeingSent.{NoneOrReport, none as none', report, Withdrawn, ReportBegins}
use Rattle.exchange.specs.History as exchange
use Rattle.exchange.specs.Watching.{taken_at, reply_from}
use Rattle.exchange.specs.Underway.{Way, none, onway, sent, failed, end_way, way_at, way, is_onway, way_of, ReplyRead, way_taken, reply_sees, ReplyAt, ReplyWatchedOn, ReplyWatched}
use Rattle.exchange.specs.declared.ReplyStage.{ReplyStage}
use Rattle.exchange.specs.declared.IncomingReading.{IncomingReading}
use Rattle.exchange.specs.declared.Sending.{Sending}
use Rattle.exchange.specs.declared.Sending.TheVariants as sending
use Rattle.exchange.specs.declared.Exchange.{Exchange}
use Rattle.exchange.proofs.Cases.{by_judge, by_request}
use Rattle.exchange.proofs.Tables.{set_one}
use Rattle.exchange.proofs.Repeated.{any_fresh}
use Rattle.exchange.proofs.Accepting.{complete_at_lem}
use Rattle.exchange.proofs.BeingSent.{ended_none, sending_ends}
use Rattle.exchange.proofs.OneCall.{same_either}
use Rattle.exchange.proofs.Runs.{four_places, sound_fresh, run_any}

abbrev at : Header → IncomingStage → Incoming
at h z = record { header = h; stage = z }

-- ---- what is read of it

abbrev pub read_at : IncomingStage → Header → Option IncomingReading
read_at z h =
    let i = at h z in cond (free_at z) None (reads_incoming (primary_of i) (length_at z) (not (open_at z)) (reply_stage_at z i))

way_at_lem : (h : Header) (z : IncomingStage) → way_of (stage_by (read_at z h)) ≡ way_at z
unfolding wanted
way_at_lem h arrival.Free = refl
way_at_lem h (arrival.Open a) = refl
way_at_lem h (arrival.Complete n) = chosen (λ (r : ReplyStage). way_of r ≡ none) (primary_of (at h (arrival.Complete n))).w _ _ (λ e. refl) (λ e. refl)
way_at_lem h (arrival.Replying n) = refl
way_at_lem h (arrival.Replied n end.Sent) = refl
way_at_lem h (arrival.Replied n end.Failed) = refl

ended_at_lem : (h : Header) (z : IncomingStage) → has_ended (stage_by (read_at z h)) ≡ replied_at z
unfolding wanted
ended_at_lem h arrival.Free = refl
ended_at_lem h (arrival.Open a) = refl
ended_at_lem h (arrival.Complete n) = chosen (λ (r : ReplyStage). has_ended r ≡ false) (primary_of (at h (arrival.Complete n))).w _ _ (λ e. refl) (λ e. refl)
ended_at_lem h (arrival.Replying n) = refl
ended_at_lem h (arrival.Replied n end.Sent) = refl
ended_at_lem h (arrival.Replied n end.Failed) = refl

pub reply_read : ReplyRead
unfolding incoming_reading
reply_read x p = let i = incoming_place x p in record { stands = way_at_lem i.header i.stage; ended = ended_at_lem i.header i.stage }

-- ---- what events at the place make of it

kept_way : (i : Incoming) (h : Header) (f : Fate) → way (kept_by i h f) ≡ none
kept_way i h fate.Empty = refl
kept_way i h fate.TooLong = refl
kept_way i h (fate.Last k) = refl
kept_way i h (fate.More k) = refl

offered_way : (h : Header) (z : IncomingStage) (b : Header) (n : ℕ) → way (incoming_offered (at h z) b n) ≡ way_at z
unfolding incoming_offered goes_on
offered_way h arrival.Free b n = refl
offered_way h (arrival.Open a) b n =
    let i = at h (arrival.Open a) in
    chosen (λ (j : Incoming). way j ≡ none) (incoming_takes i b) _ _ (λ e. kept_way i b (fate_of b (incoming_length i) n)) (λ e. refl)
offered_way h (arrival.Complete k) b n = refl
offered_way h (arrival.Replying k) b n = refl
offered_way h (arrival.Replied k e) b n = refl

first_way : (i : Incoming) (h : Header) (f : Fate) → way i ≡ none → way (begun_by i h f) ≡ none
first_way i h fate.Empty e = e
first_way i h fate.TooLong e = e
first_way i h (fate.Last k) e = refl
first_way i h (fate.More k) e = refl

begun_way : (g : Header) (z : IncomingStage) (h : Header) (n : ℕ) → way (incoming_begun (at g z) h n) ≡ way_at z
unfolding begins
begun_way g arrival.Free h n = first_way (at g arrival.Free) h (fate_of h 0 n) refl
begun_way g (arrival.Open a) h n = first_way (at g (arrival.Open a)) h (fate_of h 0 n) refl
begun_way g (arrival.Complete k) h n = refl
begun_way g (arrival.Replying k) h n = refl
begun_way g (arrival.Replied k e) h n = refl

ticked_way : (c : Terms) (h : Header) (z : IncomingStage) → way (incoming_tick c (at h z)) ≡ way_at z
unfolding open_tick
ticked_way c h arrival.Free = refl
ticked_way c h (arrival.Open a) =
    by_waited c a (λ x. way (open_by (at h (arrival.Open a)) x) ≡ none) refl (λ _. refl)
ticked_way c h (arrival.Complete n) = refl
ticked_way c h (arrival.Replying n) = refl
ticked_way c h (arrival.Replied n e) = refl

-- a reply that is on its way
ended_way : (y : End) (h : Header) (z : IncomingStage) → is_onway (way_at z) ≡ true → way (ended_at y z (at h z)) ≡ end_way y
ended_way y h arrival.Free e = absurd (false≢true e)
ended_way y h (arrival.Open a) e = absurd (false≢true e)
ended_way y h (arrival.Complete n) e = absurd (false≢true e)
ended_way y h (arrival.Replying n) e = refl
ended_way y h (arrival.Replied n end.Sent) e = absurd (false≢true e)
ended_way y h (arrival.Replied n end.Failed) e = absurd (false≢true e)

-- a message that can be released has no reply on its way
ready_way : (h : Header) (z : IncomingStage) → not (complete_at z) && not (replied_at z) ≡ false → (is_onway (way_at z) ≡ false) × (way (incoming_released (at h z)) ≡ none)
ready_way h arrival.Free e = absurd (false≢true (sym e))
ready_way h (arrival.Open a) e = absurd (false≢true (sym e))
ready_way h (arrival.Complete n) e = (refl, refl)
ready_way h (arrival.Replying n) e = absurd (false≢true (sym e))
ready_way h (arrival.Replied n end.Sent) e = (refl, refl)
ready_way h (arrival.Replied n end.Failed) e = (refl, refl)

-- ---- its onlooker is right

pub nothing_replied : (p : ℕ) (q : Sending) → sending_by q ≡ false → reply_from q p ≡ false
nothing_replied p sending.Nothing n = refl
nothing_replied p (sending.Primary q k) n = refl
nothing_replied p (sending.Reply q f k) n = absurd (true≢false n)
nothing_replied p (sending.Report f k) n = refl

-- a report is none either
none_replied : (p : ℕ) (z : Sending) → NoneOrReport z → reply_from z p ≡ false
none_replied p _ none' = refl
none_replied p _ (report f n) = refl

-- a primary is no reply of ours
primary_replied : (p : ℕ) (q : Sending) (k : ℕ) → sent_from q k ≡ true → reply_from q p ≡ false
primary_replied p sending.Nothing k e = refl
primary_replied p (sending.Primary q n) k e = refl
primary_replied p (sending.Reply q f n) k e = absurd (false≢true e)
primary_replied p (sending.Report f n) k e = refl

module _ (c : Terms) (x : Exchange) (room : List ℕ) (four : Fours x) (p : ℕ) (within : p < 4) (s : Way) (w : ReplyAt p x s) where
  -- where nothing is being sent, no reply is on its way
  idle : is_sending x ≡ false → is_onway s ≡ false
  idle n = w.1 ∙ nothing_replied p x.sending n

  -- a place is put with a step of its reply
  put_step : (q : ℕ) (i : Incoming) (y : Way) → (q ≡ p → way i ≡ y) → way (get_or (set x.incoming q i) p fresh_incoming) ≡ cond (eqb q p) y s
  put_step q i y e = set_one (λ t (j : Incoming). way j ≡ cond t y s) x.incoming fresh_incoming q i p (omega (arith, four.incoming)) e w.0

  -- or without one
  put_same : (q : ℕ) (i : Incoming) → way i ≡ way (incoming_place x q) → way (get_or (set x.incoming q i) p fresh_incoming) ≡ s
  put_same q i e = put_step q i s (λ z. e ∙ ap (λ (k : ℕ). way (incoming_place x k)) z ∙ w.0) ∙ same_either (eqb q p) s

  block_way : (h d : List ℕ) → way (incoming_place (judge_of c x h d room).answer.exchange p) ≡ s
  unfolding thrown reply_block message_block begins_at saved_now put_own put_replied put_incoming with_sending
  block_way h d =
      by_judge c x h d room (λ j. way (incoming_place j.answer.exchange p) ≡ s) (λ e. w.0) (λ e u. w.0) (λ q e r. w.0)
      (λ q e r m. put_same q _ (offered_way (incoming_place x q).header (incoming_place x q).stage (header_of h) (length d)))
      (λ q gone f e r m o v u t. put_same q _ (begun_way (incoming_place x q).header (incoming_place x q).stage (header_of h) (length d))) (λ n t r m. w.0)

  tick_way : way (incoming_place (tick_of c x).exchange p) ≡ s
  unfolding passed_of
  tick_way = ap way ((incoming_table x.incoming c four.incoming).1.each p within) ∙ ticked_way c (incoming_place x p).header (incoming_place x p).stage ∙ w.0

  -- a block of ours that is out is of no account to an incoming place
  put_out_way : (q : Sending) → way (incoming_place (put_out_by q x) p) ≡ s
  unfolding put_own
  put_out_way sending.Nothing = w.0
  put_out_way (sending.Primary q n) = w.0
  put_out_way (sending.Reply q f n) = w.0
  put_out_way (sending.Report f n) = w.0

  -- a report that begins is no reply
  reply_stays : (z : Sending) → (z ≡ x.sending) ⊎ ReportBegins x.sending z → reply_from z p ≡ reply_from x.sending p
  reply_stays z = ⊎_elim (ap (λ (q : Sending). reply_from q p)) (λ g. none_replied p z g.now ∙ sym (ap (λ (q : Sending). reply_from q p) g.was))

  -- nor is what a block ends
  reply_goes_on : (z : Sending) → (z ≡ x.sending) ⊎ Withdrawn x.sending z ⊎ ReportBegins x.sending z → reply_from z p ≡ reply_from x.sending p
  reply_goes_on z =
      ⊎_elim (λ e. reply_stays z (inl e))
      (⊎_elim (λ g. none_replied p z g.now ∙ sym (primary_replied p x.sending g.place g.was)) (λ g. reply_stays z (inr g)))

  -- the reply on its way is this place's
  on_its_way_here : (q f n : ℕ) → x.sending ≡ sending.Reply q f n → q ≡ p → is_onway (way (incoming_place x q)) ≡ true
  on_its_way_here q f n e z =
      ap (λ (k : ℕ). is_onway (way (incoming_place x k))) z ∙ ap is_onway w.0 ∙ w.1 ∙ ap (λ (y : Sending). reply_from y p) e ∙ eq-eqb q p z

  acknowledged_way : (q : Sending) → x.sending ≡ q → way (incoming_place (sent_by q x).exchange p) ≡ cond (reply_from q p) sent s
  unfolding ended_own ended_reply ended_report put_own put_incoming with_sending
  acknowledged_way sending.Nothing e = w.0
  acknowledged_way (sending.Primary q n) e = w.0
  acknowledged_way (sending.Reply q f n) e = put_step q _ sent (λ z. ended_way end.Sent (incoming_place x q).header (incoming_place x q).stage (on_its_way_here q f n e z))
  acknowledged_way (sending.Report f n) e = w.0

  lost_way : (q : Sending) → x.sending ≡ q → way (incoming_place (failed_by q x).exchange p) ≡ cond (reply_from q p) failed s
  unfolding ended_own ended_reply ended_report put_own put_incoming with_sending
  lost_way sending.Nothing e = w.0
  lost_way (sending.Primary q n) e = w.0
  lost_way (sending.Reply q f n) e = put_step q _ failed (λ z. ended_way end.Failed (incoming_place x q).header (incoming_place x q).stage (on_its_way_here q f n e z))
  lost_way (sending.Report f n) e = w.0

  -- the end of a send, z being sent then, leaves no reply on its way
  over : (y : Way) (z : Sending) → NoneOrReport z → is_onway y ≡ false → is_onway (cond (reply_from x.sending p) y s) ≡ reply_from z p
  over y z e n =
      either (reply_from x.sending p) (λ t. is_onway (cond t y s) ≡ false) (λ t. n) (λ t. w.1 ∙ t) ∙ sym (none_replied p z e)

  -- a place that is released
  released : (q : ℕ) → is_onway (way (incoming_place x q)) ≡ false → is_onway (cond (eqb q p) none s) ≡ reply_from x.sending p
  released q n =
      either (eqb q p) (λ z. is_onway (cond z none s) ≡ reply_from x.sending p)
      (λ z. sym (sym w.1 ∙ ap is_onway (sym w.0) ∙ ap (λ (k : ℕ). is_onway (way (incoming_place x k))) (sym (eqb-true q p z)) ∙ n)) (λ z. w.1)

  request_right : (r : Request) → ReplyAt p (answer_of c x r room).answer.exchange (reply_sees c p x room s (exchange.request r))
  unfolding refused refused_by claimed_at reply_accepted put_own put_incoming with_sending not_ready
  request_right =
      by_request c x room (λ r a. ReplyAt p a.answer.exchange (cond (taken_at a.answer.asked p) (way_taken s r) s)) (λ r n. w)
      (λ q d i u e. rw same_either (w.0, idle u.idle))
      (λ q f d u a b. (
        put_step q _ onway (λ z. ap way (complete_at_lem (incoming_place x q).stage (incoming_place x q) refl a b).becomes),
        either (eqb q p) (λ z. is_onway (cond z onway s) ≡ z) (λ z. refl) (λ z. idle u.idle),
      ))
      (λ q e. rw same_either w)
      (λ q e.
      let r = ready_way (incoming_place x q).header (incoming_place x q).stage e in
      (put_step q _ none (λ z. r.1), released q r.0))

  right_after : (k : exchange.Call) → ReplyAt p (exchange.called c x room k).exchange (reply_sees c p x room s k)
  right_after (exchange.block h d) = (block_way h d, w.1 ∙ sym (reply_goes_on _ ((sending_ends c x).judged h d room)))
  right_after exchange.tick = (tick_way, w.1 ∙ sym (reply_stays _ (sending_ends c x).ticked))
  right_after exchange.put_out = (put_out_way x.sending, w.1 ∙ sym (ap (λ (q : Sending). reply_from q p) (sending_ends c x).put_out))
  right_after exchange.acknowledged = (acknowledged_way x.sending refl, over sent _ (ended_none _ _ (sending_ends c x).acknowledged) refl)
  right_after exchange.failed = (lost_way x.sending refl, over failed _ (ended_none _ _ (sending_ends c x).failed) refl)
  right_after (exchange.request r) = request_right r

pub reply_watched_on : ReplyWatchedOn
reply_watched_on c x room four p within s w k = right_after c x room four p within s w k

pub reply_watched : ReplyWatched
reply_watched c last room whole ks p k =
    run_any c (reply_sees c p) (ReplyAt p) (λ x lent s j g w. reply_watched_on c x lent (four_places x g) p k s w j)
    (exchange.at_start last room) none ks (sound_fresh last room whole) (ap way (any_fresh fresh_incoming 4 p), refl)
