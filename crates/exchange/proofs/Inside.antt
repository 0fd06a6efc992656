-- Each place inside goes through events of a place and nothing else, and so its numbers stay in their ranges; what is being sent, and the
-- count of those that wait, stay in theirs. Assumes nothing.
use Prim.Native.Nat.{ℕ, ◌≤◌, ◌<◌}
use mathlib.Core.Path.{◌≡◌, refl, sym, ap, ◌∙◌, subst}
use mathlib.Core.Bool.{true, false, false≢true}
use mathlib.Core.List.{List}
use mathlib.Core.Logic.{⊎_elim}
use native.Mathlib.Omega.{arith}
use lib.Dec.{ltb}
use lib.ListN.{length, get_or-eq_default}
use borrow.Author.Tests.{ltb-true, ltb-false, le-leb}
use Rattle.wire.specs.Message.{message_limit}
use Rattle.wire.proofs.Choice.{either}
use Rattle.settings.specs.declared.terms.Terms.{Terms}
use Rattle.place.specs.Incoming.{fresh_incoming}
use Rattle.place.proofs.OwnRanges.{own_reached_in_range}
use Rattle.place.proofs.Completing.{incoming_reached_in_range}
use Rattle.place.specs.Range.{own_in_range, incoming_in_range}
use Rattle.place.specs.declared.Own.{Own}
use Rattle.place.specs.declared.Incoming.{Incoming}
use Rattle.table.proofs.Finding.{free_own_lowest}
use Rattle.reports.specs.Theorems.{Sound}
use Rattle.reports.proofs.Waiting.{none_at_start, reports_fit_exactly}
use Rattle.exchange.specs.Exchange.{own_place, incoming_place, put_own, put_incoming, with_sending, put_replied, saved_now}
use Rattle.exchange.specs.Send.{put_out_by, ended_own, ended_reply, ended_report, sent_by, failed_by}
use Rattle.exchange.specs.Judge.{thrown, reply_block, message_block, begins_at, rules_of}
use Rattle.exchange.specs.BeingSent.{NoneOrReport, none, report}
use Rattle.exchange.specs.Request.{not_ready, refused_by, refused, claimed_at, reply_accepted, Request, answer_of}
use Rattle.exchange.specs.Rules.{Fours}
use Rattle.exchange.specs.Range.{owns_in_range, incomings_in_range, message_in_range, sending_in_range, exchange_in_range}
use Rattle.exchange.specs.History.{Call, block, tick, put_out, acknowledged, failed, request, called, Track}
use Rattle.exchange.specs.Theorems.{OwnInside, IncomingInside, PlacesInside, ExchangeReachedInRange}
use Rattle.exchange.proofs.Unreported.{freeing_sound, judged_sound, ticked_sound}
use Rattle.exchange.proofs.Cases.{by_judge, by_request}
use Rattle.exchange.proofs.Filling.{fits_area}
use Rattle.exchange.proofs.BeingSent.{ended_none, sending_ends}
use Rattle.exchange.proofs.Runs.{four_places, run_reached}
use Rattle.exchange.proofs.Watching.{own_watched, incoming_watched}
use Rattle.exchange.specs.declared.Sending.{Sending}
use Rattle.exchange.specs.declared.Sending.TheVariants as sending
use Rattle.exchange.specs.declared.Exchange.{Exchange}

-- as the onlooker of each place tells
pub places_inside : PlacesInside
places_inside c t w = record {
  own = λ p k. record { track = _; reached = own_watched c w.last w.room w.whole w.calls p k; so = ap (λ (u : Track). own_place u.exchange p) w.so };
  incoming = λ p k. record { track = _; reached = incoming_watched c w.last w.room w.whole w.calls p k; so = ap (λ (u : Track). incoming_place u.exchange p) w.so };
}

-- ---- the message being sent

-- a message of one of four places that the send area holds
in_range : (p n : ℕ) → p < 4 → n ≤ message_limit → message_in_range p n ≡ true
unfolding message_in_range
in_range p n k fits = simp (le-leb p 3 (omega arith), le-leb n message_limit fits)

-- the message in a place outside the table is not complete
ready_place : (x : Exchange) → length x.incoming ≡ 4 → (p : ℕ) → not_ready (incoming_place x p) ≡ false → p < 4
unfolding not_ready
ready_place x four p e =
    either (ltb p 4) (λ t. p < 4) (ltb-true p 4)
    (λ k.
    let out : length x.incoming ≤ p = omega (arith, ltb-false p 4 k) in
    absurd (false≢true (sym (rw (get_or-eq_default x.incoming fresh_incoming out) at e))))

none_or_report : (z : Sending) → NoneOrReport z → sending_in_range z ≡ true
none_or_report _ none = refl
none_or_report _ (report f n) = refl

abbrev pub Ranged : Exchange → Type 0
Ranged x = sending_in_range x.sending ≡ true

module _ (c : Terms) (x : Exchange) (room : List ℕ) (four : Fours x) (g : Ranged x) where
  request_ranged : (r : Request) → Ranged (answer_of c x r room).answer.exchange
  unfolding refused refused_by claimed_at reply_accepted with_sending put_own put_incoming
  request_ranged =
      by_request c x room (λ r a. Ranged a.answer.exchange) (λ r n. g)
      (λ q d p u e. in_range p (length d) (((free_own_lowest x.own four.own).at p).0 e).0 (fits_area d u.fits))
      (λ p f d u a b. in_range p (length d) (ready_place x four.incoming p a) (fits_area d u.fits)) (λ p e. g) (λ p e. g)

  pub one_ranged : (k : Call) → Ranged (called c x room k).exchange
  one_ranged (block h d) = ⊎_elim (λ e. ap sending_in_range e ∙ g) (⊎_elim (λ w. none_or_report _ w.now) (λ w. none_or_report _ w.now)) ((sending_ends c x).judged h d room)
  one_ranged tick = ⊎_elim (λ e. ap sending_in_range e ∙ g) (λ w. none_or_report _ w.now) (sending_ends c x).ticked
  one_ranged put_out = ap sending_in_range (sending_ends c x).put_out ∙ g
  one_ranged acknowledged = none_or_report _ (ended_none _ _ (sending_ends c x).acknowledged)
  one_ranged failed = none_or_report _ (ended_none _ _ (sending_ends c x).failed)
  one_ranged (request r) = request_ranged r

-- ---- the reports that wait

module _ (c : Terms) (x : Exchange) (g : Sound x.reports) where
  -- the rules, and the end of a send, leave them
  ruled_sound : (h d room : List ℕ) → Sound (rules_of c x h d room).answer.exchange.reports
  unfolding thrown reply_block message_block begins_at put_own put_replied put_incoming with_sending saved_now
  ruled_sound h d room =
      by_judge c x h d room (λ j. Sound j.answer.exchange.reports) (λ q. g) (λ q u. g) (λ p q r. g) (λ p q r m. g) (λ p gone f q r m o e s t. g)
      (λ n t r m. g)

  put_out_sound : (z : Sending) → Sound (put_out_by z x).reports
  unfolding put_own
  put_out_sound sending.Nothing = g
  put_out_sound (sending.Primary p n) = g
  put_out_sound (sending.Reply p f n) = g
  put_out_sound (sending.Report f n) = g

  sent_sound : (z : Sending) → Sound (sent_by z x).exchange.reports
  unfolding ended_own ended_reply ended_report put_own put_incoming with_sending
  sent_sound sending.Nothing = g
  sent_sound (sending.Primary p n) = g
  sent_sound (sending.Reply p f n) = g
  sent_sound (sending.Report f n) = g

  failed_sound : (z : Sending) → Sound (failed_by z x).exchange.reports
  unfolding ended_own ended_reply ended_report put_own put_incoming with_sending
  failed_sound sending.Nothing = g
  failed_sound (sending.Primary p n) = g
  failed_sound (sending.Reply p f n) = g
  failed_sound (sending.Report f n) = g

  asked_sound : (room : List ℕ) (r : Request) → Sound (answer_of c x r room).answer.exchange.reports
  unfolding refused refused_by claimed_at reply_accepted put_own put_incoming with_sending
  asked_sound room =
      by_request c x room (λ r a. Sound a.answer.exchange.reports) (λ r n. g) (λ q d p u e. g) (λ p f d u a b. g) (λ p e. g) (λ p e. g)

  pub one_sound : (room : List ℕ) (k : Call) → Sound (called c x room k).exchange.reports
  one_sound room (block h d) = judged_sound c x.sending h (rules_of c x h d room).answer (ruled_sound h d room)
  one_sound room tick = ticked_sound c x g
  one_sound room put_out = put_out_sound x.sending
  one_sound room acknowledged = freeing_sound x.sending (sent_by x.sending x).exchange (sent_sound x.sending)
  one_sound room failed = freeing_sound x.sending (failed_by x.sending x).exchange (failed_sound x.sending)
  one_sound room (request r) = asked_sound room r

-- ---- ranges

own_ranged : (c : Terms) → c.t3.0 ≤ 1200 → c.t4.0 ≤ 1200 → (o : Own) → OwnInside c o → own_in_range o ≡ true
own_ranged c a b o w = subst (λ (z : Own). own_in_range z ≡ true) w.so (own_reached_in_range c a b w.track w.reached)

incoming_ranged : (c : Terms) → c.t4.0 ≤ 1200 → (i : Incoming) → IncomingInside c i → incoming_in_range i ≡ true
incoming_ranged c b i w = subst (λ (z : Incoming). incoming_in_range z ≡ true) w.so (incoming_reached_in_range c b w.track w.reached)

pub exchange_reached_in_range : ExchangeReachedInRange
unfolding exchange_in_range owns_in_range incomings_in_range
exchange_reached_in_range c a b t w =
    let g = places_inside c t w in
    let x = t.exchange in
    let own : (p : ℕ) → p < 4 → own_in_range (own_place x p) ≡ true = λ p k. own_ranged c a b (own_place x p) (g.own p k) in
    let in' : (p : ℕ) → p < 4 → incoming_in_range (incoming_place x p) ≡ true = λ p k. incoming_ranged c b (incoming_place x p) (g.incoming p k) in
    let sent = run_reached c Ranged (λ x room k z g. one_ranged c x room (four_places x z) g k) (λ last. refl) t w in
    let waits = run_reached c (λ x. Sound x.reports) (λ x room k z g. one_sound c x g room k) (λ last. none_at_start.sound) t w in
    let few = (reports_fit_exactly x.reports).1 waits.most in
    simp (own 0 (omega arith), own 1 (omega arith), own 2 (omega arith), own 3 (omega arith), in' 0 (omega arith), in' 1 (omega arith), in' 2 (omega arith), in' 3 (omega arith), sent, few)
