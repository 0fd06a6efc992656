-- A request is underway or out exactly while its primary is the message being sent (`specs/Underway.antt`). Assumes nothing.
use Prim.Native.Nat.{ℕ, ◌<◌}
use mathlib.Core.Path.{◌≡◌, refl, sym, ap, ◌∙◌, subst}
use mathlib.Core.Bool.{Bool, true, false, cond, false≢true, true≢false}
use mathlib.Core.List.{List}
use mathlib.Core.Logic.Iff
use mathlib.Core.Logic.{◌↔◌, inl, inr, ⊎_elim, ◌≢◌}
use lib.Dec.{eqb}
use lib.ListN.{length}
use borrow.Author.Tests.{eqb-true, eq-eqb}
use Rattle.wire.proofs.Choice.{either, chosen}
use Rattle.header.specs.Header.{header_of}
use Rattle.header.specs.declared.header.Header.{Header}
use Rattle.settings.specs.declared.terms.Terms.{Terms}
use Rattle.place.specs.Fate.{fate_of}
use Rattle.place.specs.Message.{Routed}
use Rattle.place.specs.Own.{own_standing, free_by, given_by, own_is_free, own_has_verdict, own_kept}
use Rattle.place.specs.OwnHistory as own
use Rattle.place.specs.OwnTheorems.{Received, Earned, Awaited}
use Rattle.place.proofs.Blocks.{answer_exactly}
use Rattle.place.proofs.Verdicts.{verdict_exactly, free_exactly}
use Rattle.place.specs.declared.Fate.{Fate}
use Rattle.place.specs.declared.Fate.TheVariants as fate
use Rattle.place.specs.declared.Verdict.{Verdict}
use Rattle.place.specs.declared.Verdict.TheVariants.{Sent, Answered, Declined, Other, Broken, NoReply, SendFailed}
use Rattle.place.specs.declared.Standing.{Standing}
use Rattle.place.specs.declared.Standing.TheVariants as standing
use Rattle.table.specs.Own.{reply_for}
use Rattle.table.proofs.Finding.{free_own_lowest}
use Rattle.exchange.specs.Exchange.{own_place, put_own, put_incoming, with_sending, sent_from, sent_behind, put_replied, saved_now}
use Rattle.exchange.specs.Note.{note_by}
use Rattle.exchange.specs.Judge.{thrown, reply_block, message_block, begins_at, rules_of, judge_of}
use Rattle.exchange.specs.Request.{sending_by, is_sending, refused_by, refused, claimed_at, reply_accepted, Request, answer_of}
use Rattle.exchange.specs.Rules.{Fours, LowestAt, OfReply, OfReplyToSent}
use Rattle.exchange.specs.History.{Call, block, tick, put_out, acknowledged, failed, request, called, Track, track, at_start}
use Rattle.exchange.specs.Releases as side
use Rattle.exchange.specs.Watching.{found_at, taken_at, told_by, own_taken, own_sees, OwnAt, watch}
use Rattle.exchange.specs.BeingSent.{NoneOrReport, none, report}
use Rattle.exchange.specs.Underway.{OnItsWay, Underway, UnderwayOn, UnderwayExactly, ProvedExactly}
use Rattle.exchange.specs.declared.Sending.{Sending}
use Rattle.exchange.specs.declared.Sending.TheVariants as sending
use Rattle.exchange.specs.declared.Exchange.{Exchange}
use Rattle.exchange.proofs.Unreported.{judged_sends, ticked_sends}
use Rattle.exchange.proofs.Cases.{by_behind, by_judge, by_request}
use Rattle.exchange.proofs.Judging.{is_new, reply_says, lowest_reply}
use Rattle.exchange.proofs.Leaving.{replied_there}
use Rattle.exchange.proofs.BeingSent.{ended_none, sending_ends}
use Rattle.exchange.proofs.OneCall.{same_either}
use Rattle.exchange.proofs.Runs.{Sound, four_places, four_of, sound_fresh, run_any}
use Rattle.exchange.proofs.Watching.{own_watched_on, watched_start}

-- ---- what is seen of a request

-- it is underway or out
abbrev on_way : own.Request → Bool
on_way own.none = false
on_way own.underway = true
on_way own.out = true
on_way own.acknowledged = false
on_way own.proved = false
on_way own.lost = false

-- one that has come to q is not
pub apart : (r q : own.Request) → on_way q ≡ false → r ≡ q → OnItsWay r → ⊥
apart r q n e w = false≢true (sym n ∙ ap on_way (sym e) ∙ ⊎_elim (ap on_way) (ap on_way) w)

pub received_apart : (r : own.Request) → Received r → OnItsWay r → ⊥
received_apart r w u = ⊎_elim (λ e. apart r own.acknowledged refl e u) (λ e. apart r own.proved refl e u) w

-- no verdict is earned yet
unearned : (c : Terms) (s : own.Seen) (v : Verdict) → OnItsWay s.request → Earned c s v → ⊥
unearned c s Sent u e = apart _ own.acknowledged refl e.0 u
unearned c s Answered u e = received_apart _ e.0.asked.received u
unearned c s Declined u e = received_apart _ e.0.asked.received u
unearned c s Other u e = received_apart _ e.0.asked.received u
unearned c s Broken u e = received_apart _ e.0.received u
unearned c s NoReply u e = apart _ own.acknowledged refl e.0 u
unearned c s SendFailed u e = apart _ own.lost refl e u

-- the place of a request that is on its way is open
open_by_lem : (c : Terms) (s : own.Seen) (z : Standing) → OnItsWay s.request → (z ≡ standing.Free → s.request ≡ own.none)
    → ((v : Verdict) → z ≡ standing.Given v → Earned c s v) → z ≡ standing.Open
open_by_lem c s standing.Free u free given = absurd (apart _ own.none refl (free refl) u)
open_by_lem c s standing.Open u free given = refl
open_by_lem c s (standing.Given v) u free given = absurd (unearned c s v u (given v refl))

module _ (c : Terms) (p : ℕ) (x : Exchange) (s : own.Seen) (w : OwnAt c p x s) where
  pub underway_open : OnItsWay s.request → own_standing (own_place x p) ≡ standing.Open
  underway_open u = open_by_lem c s (own_standing (own_place x p)) u (free_exactly c _ w).0 (λ v. (verdict_exactly c _ w v).0)

  -- a place that takes a block awaits its reply
  due : (b : Header) (n : ℕ) (f : Fate) → Routed c b → own.answer_to (own_place x p) b n ≡ own.answer_by f → Awaited s
  due b n fate.Empty q e = ((answer_exactly c _ w b n q own.spoilt).0 e).0.awaited
  due b n fate.TooLong q e = ((answer_exactly c _ w b n q own.spoilt).0 e).0.awaited
  due b n (fate.Last k) q e = ((answer_exactly c _ w b n q own.kept).0 e).0.awaited
  due b n (fate.More k) q e = ((answer_exactly c _ w b n q own.kept).0 e).0.awaited

  pub reply_awaited : (b : Header) → Routed c b → OfReply (own_place x p) b → Awaited s
  unfolding own.answer_to
  reply_awaited b q r = due b 0 (fate_of b (own_kept (own_place x p)).length 0) q (rw ((reply_says (own_place x p) b).1 r))

  -- and so, if its request is on its way, that is out
  pub reply_out : (b : Header) → Routed c b → OfReply (own_place x p) b → OnItsWay s.request → s.request ≡ own.out
  reply_out b q r u = ⊎_elim (λ e. e) (λ a. absurd (received_apart _ a.received u)) (reply_awaited b q r)

-- a block of the reply, kept or not, proves the request received
told_request : (s : own.Seen) (f : Fate) (b : Header) (n : ℕ) → (own.answered (told_by (note_by f)) s b n).request ≡ own.proven_by s.request
told_request s fate.Empty b n = refl
told_request s fate.TooLong b n = refl
told_request s (fate.Last k) b n = refl
told_request s (fate.More k) b n = refl

-- ---- what is being sent

abbrev Agrees : ℕ → Sending → own.Request → Type 0
Agrees p q r = OnItsWay r ↔ (sent_from q p ≡ true)

-- it is not that of place p
not_sent : (p : ℕ) (q : Sending) (r : own.Request) → (OnItsWay r → ⊥) → sent_from q p ≡ false → Agrees p q r
not_sent p q r n e = (λ w. absurd (n w), λ t. absurd (false≢true (sym e ∙ t)))

nothing_sent : (p : ℕ) (q : Sending) → sending_by q ≡ false → sent_from q p ≡ false
nothing_sent p sending.Nothing n = refl
nothing_sent p (sending.Primary q k) n = absurd (true≢false n)
nothing_sent p (sending.Reply q f k) n = refl
nothing_sent p (sending.Report f k) n = refl

-- a report is no primary of an own place
none_sent : (p : ℕ) (z : Sending) → NoneOrReport z → sent_from z p ≡ false
none_sent p _ none = refl
none_sent p _ (report f n) = refl

-- nor is it once a block of the reply in that place has come; one in another place leaves it
pub past_here : (z : Sending) (p : ℕ) → sent_from (sent_behind z p) p ≡ false
past_here z p = by_behind (λ y. sent_from y p ≡ false) z p (λ e. refl) (λ e. e)

past_other : (z : Sending) (q p : ℕ) → eqb q p ≡ false → sent_from (sent_behind z q) p ≡ sent_from z p
unfolding sent_behind
past_other sending.Nothing q p n = refl
past_other (sending.Primary k m) q p n =
    by_behind (λ y. sent_from y p ≡ eqb k p) (sending.Primary k m) q
    (λ e. sym (ap (λ (j : ℕ). eqb j p) (eqb-true k q e) ∙ n)) (λ e. refl)
past_other (sending.Reply k f m) q p n = refl
past_other (sending.Report f m) q p n = refl

-- a place that is free
free_standing : (z : Standing) → free_by z ≡ true → z ≡ standing.Free
free_standing standing.Free e = refl
free_standing standing.Open e = absurd (false≢true e)
free_standing (standing.Given v) e = absurd (false≢true e)

module _ (c : Terms) (x : Exchange) (room : List ℕ) (four : Fours x) (p : ℕ) (within : p < 4) (s : own.Seen) (w : OwnAt c p x s) (u : Underway p x s) where
  -- no request is on its way here where nothing is being sent
  idle : is_sending x ≡ false → OnItsWay s.request → ⊥
  idle n e = false≢true (sym (nothing_sent p x.sending n) ∙ u.0 e)

  -- the end of a send: z is what is being sent then, `after` what is seen where the request was on its way
  over : (after : own.Seen) (z : Sending) → NoneOrReport z → (OnItsWay s.request → OnItsWay after.request → ⊥)
      → Agrees p z (cond (sent_from x.sending p) after s).request
  over after z e gone =
      either (sent_from x.sending p) (λ t. Agrees p z (cond t after s).request)
      (λ t. not_sent p z after.request (gone (u.1 t)) (none_sent p z e)) (λ t. not_sent p z s.request (λ r. false≢true (sym t ∙ u.0 r)) (none_sent p z e))

  -- its last block is out: it goes on
  went_out_lem : (r : own.Request) → s.request ≡ r → OnItsWay (own.went_out r s).request ↔ OnItsWay s.request
  went_out_lem own.none e = Iff.rfl
  went_out_lem own.underway e =
      chosen (λ (a : own.Seen). OnItsWay a.request ↔ OnItsWay s.request) s.header.w _ _ (λ t. (λ a. inl e, λ a. inr refl)) (λ t. Iff.rfl)
  went_out_lem own.out e = Iff.rfl
  went_out_lem own.acknowledged e = Iff.rfl
  went_out_lem own.proved e = Iff.rfl
  went_out_lem own.lost e = Iff.rfl

  goes_out : Agrees p x.sending (own_sees c p x room s put_out).request
  goes_out =
      chosen (λ (a : own.Seen). Agrees p x.sending a.request) (sent_from x.sending p) (own.went_out s.request s) s
      (λ t. let w = went_out_lem s.request refl in (λ a. u.0 (w.0 a), λ e. w.1 (u.1 e))) (λ t. u)

  -- a block of its reply proves it received
  proven : (r : own.Request) → (OnItsWay r → r ≡ own.out) → OnItsWay (own.proven_by r) → ⊥
  proven own.none o = apart _ own.none refl refl
  proven own.underway o = λ a. apart own.proved own.proved refl refl (subst OnItsWay (ap own.proven_by (o (inl refl))) a)
  proven own.out o = apart _ own.proved refl refl
  proven own.acknowledged o = apart _ own.acknowledged refl refl
  proven own.proved o = apart _ own.proved refl refl
  proven own.lost o = apart _ own.lost refl refl

  rules_agree : (h d : List ℕ) → Underway p (rules_of c x h d room).answer.exchange (own_sees c p x room s (block h d))
  unfolding thrown reply_block message_block begins_at put_replied put_incoming with_sending saved_now
  rules_agree h d =
      let b = header_of h in
      by_judge c x h d room
      (λ j. Agrees p j.answer.exchange.sending (cond (found_at (reply_for x.own b) p) (own.answered (told_by j.answer.note) s b (length d)) s).request)
      (λ e. rw same_either u) (λ e v. rw same_either u)
      (λ q e r.
      let f = fate_of b (own_kept (own_place x q)).length (length d) in
      rw r
      (either (eqb q p) (λ t. Agrees p (sent_behind x.sending q) (cond t (own.answered (told_by (note_by f)) s b (length d)) s).request)
      (λ t.
      let same = eqb-true q p t in
      let of_it = ((lowest_reply x four b q).0 r).so in
      not_sent p (sent_behind x.sending q) _
      (λ a. proven s.request (reply_out c p x s w b (is_new c x h e).routed (subst (λ j. OfReply (own_place x j) b) same of_it)) (subst OnItsWay (told_request s f b (length d)) a))
      (subst (λ j. sent_from (sent_behind x.sending j) p ≡ false) (sym same) (past_here x.sending p)))
      (λ t. subst (λ i. OnItsWay s.request ↔ (i ≡ true)) (sym (past_other x.sending q p t)) u)))
      (λ q e r m. rw r u) (λ q gone f e r m o v a t. rw r u) (λ n t r m. rw r u)

  block_agrees : (h d : List ℕ) → Underway p (judge_of c x h d room).answer.exchange (own_sees c p x room s (block h d))
  block_agrees h d =
      judged_sends (λ z. Agrees p z (own_sees c p x room s (block h d)).request) (λ a f n. a) c x.sending h (rules_of c x h d room).answer (rules_agree h d)

  -- a primary that is accepted, at place i
  opened : (i n : ℕ) (h : Header) → (OnItsWay s.request → ⊥) → (i ≡ p → s.request ≡ own.none) → Agrees p (sending.Primary i n) (cond (eqb i p) (own.asked s.request s h) s).request
  opened i n h idle free =
      either (eqb i p) (λ t. OnItsWay (cond t (own.asked s.request s h) s).request ↔ (t ≡ true))
      (λ e. (λ r. refl, λ r. inl (ap (λ (r : own.Request). (own.asked r s h).request) (free (eqb-true i p e)))))
      (λ e. (λ r. absurd (idle r), λ r. absurd (false≢true r)))

  -- a place with a verdict is released
  released : (q : ℕ) → own_has_verdict (own_place x q) ≡ true → Agrees p x.sending (cond (eqb q p) (own.at s own.none) s).request
  released q v =
      either (eqb q p) (λ t. Agrees p x.sending (cond t (own.at s own.none) s).request)
      (λ e. (
        λ r. absurd (apart _ own.none refl refl r),
        λ r.
            let given : given_by (own_standing (own_place x p)) ≡ true = subst (λ j. own_has_verdict (own_place x j) ≡ true) (eqb-true q p e) v in
            absurd (false≢true (sym (ap given_by (underway_open c p x s w (u.1 r))) ∙ given)),
      ))
      (λ e. u)

  request_agrees : (r : Request) → Underway p (answer_of c x r room).answer.exchange (own_sees c p x room s (request r))
  unfolding refused refused_by claimed_at reply_accepted put_own put_incoming with_sending
  request_agrees =
      by_request c x room (λ r a. Agrees p a.answer.exchange.sending (cond (taken_at a.answer.asked p) (own_taken c x s r) s).request) (λ r n. u)
      (λ q d i v e.
      let free : own_is_free (own_place x i) ≡ true = (((free_own_lowest x.own four.own).at i).0 e).1 in
      opened i (length d) _ (idle v.idle) (λ z. (free_exactly c _ w).0 (free_standing _ (subst (λ j. own_is_free (own_place x j) ≡ true) z free))))
      (λ q f d v a b. rw same_either (λ r. absurd (idle v.idle r), λ r. absurd (false≢true r)))
      (λ q e. released q e) (λ q e. rw same_either u)

  underway_after : (k : Call) → Underway p (called c x room k).exchange (own_sees c p x room s k)
  underway_after (block h d) = block_agrees h d
  underway_after tick = ticked_sends (λ z. Agrees p z s.request) (λ a f n. a) c x u
  underway_after put_out = subst (λ q. Agrees p q (own_sees c p x room s put_out).request) (sym (sending_ends c x).put_out) goes_out
  underway_after acknowledged =
      let is : own.Request → own.Request = λ r. (own.acked r s).request in
      over (own.acked s.request s) _ (ended_none _ _ (sending_ends c x).acknowledged) (λ a. apart _ own.acknowledged refl (⊎_elim (ap is) (ap is) a))
  underway_after failed =
      let is : own.Request → own.Request = λ r. (own.gave_up r s).request in
      over (own.gave_up s.request s) _ (ended_none _ _ (sending_ends c x).failed) (λ a. apart _ own.lost refl (⊎_elim (ap is) (ap is) a))
  underway_after (request r) = request_agrees r

pub underway_on : UnderwayOn
underway_on c x room four p within s w u k = underway_after c x room four p within s w u k

-- ---- a request that is proved received

abbrev is_proved : own.Request → Bool
is_proved own.none = false
is_proved own.underway = false
is_proved own.out = false
is_proved own.acknowledged = false
is_proved own.proved = true
is_proved own.lost = false

-- only one that is out comes to it
proved_from : (r : own.Request) → r ≢ own.proved → own.proven_by r ≡ own.proved → r ≡ own.out
proved_from own.none n e = absurd (false≢true (ap is_proved e))
proved_from own.underway n e = absurd (false≢true (ap is_proved e))
proved_from own.out n e = refl
proved_from own.acknowledged n e = absurd (false≢true (ap is_proved e))
proved_from own.proved n e = absurd (n refl)
proved_from own.lost n e = absurd (false≢true (ap is_proved e))

pub proved_exactly : ProvedExactly
unfolding thrown reply_block message_block begins_at saved_now
proved_exactly c x room four p within s w u h d = record {
  proves = λ o e.
      let new = o.new in
      let low = subst (LowestAt (λ q. OfReply (own_place x q) b)) e o.of_it in
      let f = fate_of b (own_kept (own_place x p)).length (length d) in
      let was = reply_out c p x s w b new.routed low.so (u.1 (subst (λ q. sent_from x.sending q ≡ true) e o.sent)) in
      (was, rw ((lowest_reply x four b p).1 low, replied_there c x h d room four new p low, eq-eqb p p refl) (told_request s f b (length d) ∙ ap own.proven_by was));
  only = λ n.
      let same : s.request ≡ own.proved → (o : OfReplyToSent c x h) × (o.place ≡ p) = λ e. absurd (n e) in
      by_judge c x h d room
      (λ j.
      (cond (found_at (reply_for x.own b) p) (own.answered (told_by j.answer.note) s b (length d)) s).request ≡ own.proved
      → (o : OfReplyToSent c x h) × (o.place ≡ p))
      (λ e. rw same_either same) (λ e v. rw same_either same)
      (λ q e r.
      let f = fate_of b (own_kept (own_place x q)).length (length d) in
      rw r
      (either (eqb q p) (λ t. (cond t (own.answered (told_by (note_by f)) s b (length d)) s).request ≡ own.proved → (o : OfReplyToSent c x h) × (o.place ≡ p))
      (λ t z.
      let here = eqb-true q p t in
      let sent = u.0 (inr (proved_from s.request n (sym (told_request s f b (length d)) ∙ z))) in
      (record { new = is_new c x h e; place = q; of_it = (lowest_reply x four b q).0 r; sent = subst (λ j. sent_from x.sending j ≡ true) (sym here) sent }, here))
      (λ t. same)))
      (λ q e r m. rw r same) (λ q gone f e r m o v a t. rw r same) (λ m t r v. rw r same);
}
  where
    b : Header
    b = header_of h

-- ---- any calls

-- any calls more, with the place
pub underway_all : (c : Terms) (p : ℕ) → p < 4 → (t : Track) (s : own.Seen) (ks : List Call) → Sound t.exchange → OwnAt c p t.exchange s × Underway p t.exchange s
    → OwnAt c p (track c t ks).exchange (watch c (own_sees c p) t s ks) × Underway p (track c t ks).exchange (watch c (own_sees c p) t s ks)
underway_all c p k =
    run_any c (own_sees c p) (λ x s. OwnAt c p x s × Underway p x s)
    (λ x room s j g w. (own_watched_on c x room (four_of side.own x g) p k s j w.0, underway_on c x room (four_places x g) p k s w.0 w.1 j))

pub underway_exactly : UnderwayExactly
underway_exactly c last room whole ks p k =
    (underway_all c p k (at_start last room) own.nothing_seen ks (sound_fresh last room whole)
    (watched_start side.own c p last, (λ e. absurd (apart _ own.none refl refl e), λ e. absurd (false≢true e)))).1
