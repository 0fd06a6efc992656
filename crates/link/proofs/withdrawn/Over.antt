-- When a message is being sent no more, exactly (`specs/Withdrawn.antt`). Assumes nothing.
use Rattle.std.specs.Prelude.{Ok, Err}
use Prim.Native.Nat.{ℕ, ◌<◌}
use mathlib.Core.Path.{◌≡◌, refl, sym, ap, ◌∙◌, subst}
use mathlib.Core.Bool.{true, false, cond, false≢true}
use mathlib.Core.List.{List, [], ◌∷◌}
use mathlib.Core.Logic.{◌↔◌, ◌⊎◌, inl, inr, ⊎_elim, ◌≢◌}
use native.Mathlib.Omega.{arith}
use lib.ListN.{length}
use borrow.Author.Tests.{eqb-true}
use Rattle.wire.proofs.Choice.{either}
use Rattle.header.specs.Header.{header_of}
use Rattle.header.specs.declared.header.Header.{Header}
use Rattle.settings.specs.declared.terms.Terms.{Terms}
use Rattle.place.specs.OwnHistory as own
use Rattle.table.specs.Own.{reply_for}
use Rattle.exchange.specs.Exchange.{sent_from}
use Rattle.exchange.specs.Request.{sending_by, is_sending, Request, lends, answer_of}
use Rattle.exchange.specs.Tick.{tick_of}
use Rattle.exchange.specs.Send.{failed_of}
use Rattle.exchange.specs.Range.{SendingFits}
use Rattle.exchange.specs.Judge.{judge_of}
use Rattle.exchange.specs.History as exchange
use Rattle.exchange.specs.BeingSent.{sending_after, NoneOrReport, none, report}
use Rattle.exchange.specs.Underway.{OnItsWay}
use Rattle.exchange.specs.Watching.{found_at, told_by, own_sees}
use Rattle.exchange.specs.declared.Sending.{Sending}
use Rattle.exchange.specs.declared.Sending.TheVariants as sending
use Rattle.exchange.specs.declared.Exchange.{Exchange}
use Rattle.exchange.proofs.BeingSent.{request_sends, sending_ends}
use Rattle.exchange.proofs.Another.{acknowledged_other, failed_other, late_other}
use Rattle.exchange.proofs.Underway.{apart}
use Rattle.link.specs.Reading.{sending_of, message_of}
use Rattle.link.specs.History.{Made, Track, exchange_track, terms_in, on_exchange_in, next}
use Rattle.link.specs.Inside.{Reached}
use Rattle.link.specs.Door.{Watch, AtDoor}
use Rattle.link.specs.Verdicts.{Among, here, Tells}
use Rattle.link.specs.Moves.{GoesUp}
use Rattle.link.specs.Sends.{sender_seen}
use Rattle.link.specs.Hearing.{since_seen}
use Rattle.link.specs.Withdrawn.{ProvesOne, Over, sent, failed, proved, WithdrawnExactly, ReportFollows}
use Rattle.link.proofs.inside.Reached.{reached_next}
use Rattle.link.proofs.inside.Places.{lent, goes, sound_inside, numbered_inside}
use Rattle.link.proofs.inside.Courier.{clash}
use Rattle.link.proofs.inside.Range.{link_reached_in_range}
use Rattle.link.proofs.refusals.Ranges.{link_fits}
use Rattle.link.proofs.moves.Seen.{by_told, with_it, seen_alone, led_alone}
use Rattle.link.proofs.moves.Own.{underway_exactly, own_seen}
use Rattle.link.proofs.sends.Bytes.{last_acknowledged}
use Rattle.link.proofs.hearing.Fails.{failed_exactly}
use Rattle.exchange.specs.Asked.{Asked}

-- ---- what is told, and what is being sent then

-- a request ends none
asked_sends : (c : Terms) (x : Exchange) (r : Request) (room : List ℕ) → is_sending x ≡ true → (answer_of c x r room).answer.exchange.sending ≡ x.sending
asked_sends c x r room s =
    let q = request_sends c x r room in
    either (lends r) (λ z. (answer_of c x r room).answer.exchange.sending ≡ x.sending) (by (answer_of c x r room).answer.asked refl) q.spares
  where
    by : (a : Asked) → (answer_of c x r room).answer.asked ≡ a → lends r ≡ true → (answer_of c x r room).answer.exchange.sending ≡ x.sending
    by (Ok p) e l = clash (sym ((request_sends c x r room).starts p e l).before ∙ s)
    by (Err n) e l = (request_sends c x r room).becomes ∙ ap (λ (a : Asked). sending_after r a x.sending) e

module _ (t : Track) (m : Made) where
  abbrev c : Terms
  c = terms_in t

  abbrev x : Exchange
  x = t.link.exchange

  -- the message being sent, after these calls of the transactions
  abbrev then : List exchange.Call → Sending
  then ks = (exchange.track c (exchange_track t (lent t m)) ks).exchange.sending

  then_so : then (on_exchange_in t m) ≡ message_of (next t m).link
  then_so = ap (λ (y : Exchange). y.sending) (goes t m)

  -- a block went up, and behind it the primary of this own place is being sent no more
  record GivenUp : Type 0 where
    place : ℕ
    was : sent_from x.sending place ≡ true
    now : NoneOrReport (message_of (next t m).link)
    header : List ℕ
    rest : List ℕ
    up : GoesUp t m header rest

  data Ends : Type 0 where
    acked : Tells t m exchange.acknowledged → Ends
    lost : Tells t m exchange.failed → Ends
    given_up : GivenUp → Ends

  -- by nothing else is it; and no message of the caller's takes its place
  module _ (s : sending_of t.link ≡ true) where
    some : x.sending ≢ sending.Nothing
    some e = clash (ap sending_by (sym e) ∙ s)

    -- where these are told, the same is being sent as before, or it is over
    abbrev Goes : List exchange.Call → Type 0
    Goes ks = (then ks ≡ x.sending) ⊎ (NoneOrReport (then ks) × Ends)

    -- time alone has none end
    late : (y : Exchange) → y.sending ≢ sending.Nothing → (tick_of c y).exchange.sending ≡ y.sending
    late y other = ⊎_elim (λ e. e) (λ w. absurd (other w.was)) (sending_ends c y).ticked

    goes_by : (k : exchange.Call) → on_exchange_in t m ≡ k ∷ [] → Goes (k ∷ [])
    unfolding exchange.track
    goes_by (exchange.block h d) e =
        ⊎_elim inl
        (⊎_elim
        (λ w.
        inr (
          w.now,
          given_up (record {
            place = w.place;
            was = w.was;
            now = subst NoneOrReport (sym (ap then e) ∙ then_so) w.now;
            header = h;
            rest = d;
            up = subst (Among (exchange.block h d)) (sym e) here;
          }),
        ))
        (λ w. absurd (some w.was)))
        ((sending_ends c x).judged h d (lent t m))
    goes_by exchange.tick e = inl (late x some)
    goes_by exchange.put_out e = inl (sending_ends c x).put_out
    goes_by exchange.acknowledged e = inr ((sending_ends c x).acknowledged.some some, acked (subst (Among exchange.acknowledged) (sym e) here))
    goes_by exchange.failed e = inr ((sending_ends c x).failed.some some, lost (subst (Among exchange.failed) (sym e) here))
    goes_by (exchange.request r) e = inl (asked_sends c x r (lent t m) s)

    goes_all : Goes (on_exchange_in t m)
    unfolding exchange.track
    goes_all =
        by_told t m Goes (λ e. inl refl) goes_by
        (λ e.
        let y = (failed_of x).exchange in
        inr (
          ⊎_elim (λ f. subst NoneOrReport (sym f) ((sending_ends c x).failed.some some)) (λ w. w.now) (sending_ends c y).ticked,
          lost (subst (Among exchange.failed) (sym e) here),
        ))

    ends : message_of (next t m).link ≢ message_of t.link → NoneOrReport (message_of (next t m).link) × Ends
    ends other =
        ⊎_elim (λ e. absurd (other (sym then_so ∙ e))) (λ w. (subst NoneOrReport then_so w.0, w.1)) goes_all

  -- and by these it is
  module _ (r : Reached t) (s : sending_of t.link ≡ true) where
    acknowledged_ends : Tells t m exchange.acknowledged → message_of (next t m).link ≢ message_of t.link
    acknowledged_ends a e =
        acknowledged_other x (numbered_inside t r) s
        (ap (λ (y : Exchange). y.sending) (led_alone t m exchange.acknowledged refl a).exchange ∙ e)

    failed_ends : Tells t m exchange.failed → message_of (next t m).link ≢ message_of t.link
    unfolding exchange.track
    failed_ends a =
        subst (λ (z : Sending). z ≢ message_of t.link) then_so
        (with_it t m exchange.failed (λ ks. then ks ≢ message_of t.link) (failed_other x (numbered_inside t r) s)
        (λ b. late_other c x (lent t m) (sound_inside t r) (numbered_inside t r) s) a)

-- ---- a block of the reply

-- a request that is on its way no more behind a block of its reply is proved received
proven : (r : own.Request) → OnItsWay r → (OnItsWay (own.proven_by r) → ⊥) → own.proven_by r ≡ own.proved
proven r w n = ⊎_elim (λ e. absurd (n (inl (ap own.proven_by e)))) (λ e. ap own.proven_by e) w

-- whatever became of the block
proven_by_lem : (s : own.Seen) → OnItsWay s.request → (a : own.Answer) (b : Header) (n : ℕ)
    → (OnItsWay (own.answered a s b n).request → ⊥) → (own.answered a s b n).request ≡ own.proved
proven_by_lem s w own.passed b n gone = absurd (gone w)
proven_by_lem s w own.kept b n gone = proven s.request w gone
proven_by_lem s w own.spoilt b n gone = proven s.request w gone

-- the place of a primary that is being sent is one of four
one_of_four : (z : Sending) → SendingFits z → (p : ℕ) → sent_from z p ≡ true → p < 4
one_of_four sending.Nothing f p e = clash e
one_of_four (sending.Primary q n) f p e = omega (arith, f.0, eqb-true q p e)
one_of_four (sending.Reply q g n) f p e = clash e
one_of_four (sending.Report g n) f p e = clash e

-- no primary is being sent where none is, or a report
pub none_sent : (z : Sending) (p : ℕ) → NoneOrReport z → sent_from z p ≡ false
none_sent _ p none = refl
none_sent _ p (report f n) = refl

module _ (t : Track) (r : Reached t) (m : Made) where
  gives_proof : GivenUp t m → ProvesOne t m
  gives_proof g =
      let p = g.place in
      let s = t.own p in
      let less = one_of_four t.link.exchange.sending ((link_fits t.link).0 (link_reached_in_range t r)).sending p g.was in
      let way = (underway_exactly t r p less).1 g.was in
      let gone : OnItsWay ((next t m).own p).request → ⊥ =
      λ w. false≢true (sym (none_sent _ p g.now) ∙ (underway_exactly (next t m) (reached_next t r m) p less).0 w) in
      let b = header_of g.header in
      let n = length g.rest in
      let told = told_by (judge_of (terms_in t) t.link.exchange g.header g.rest (lent t m)).answer.note in
      let after = own.answered told s b n in
      let seen = seen_alone t m (own_sees (terms_in t) p) s (exchange.block g.header g.rest) refl g.up in
      let now : ((next t m).own p).request ≡ own.proved =
      subst (λ (y : own.Seen). (OnItsWay y.request → ⊥) → y.request ≡ own.proved) (sym seen)
      (either (found_at (reply_for t.link.exchange.own b) p) (λ z. (OnItsWay (cond z after s).request → ⊥) → (cond z after s).request ≡ own.proved)
      (λ f. proven_by_lem s way told b n) (λ f no. absurd (no way)))
      gone in
      record { place = p; within = less; so = (own_seen t r p less m).proved.0 (record { before = λ e. apart s.request own.proved refl e way; after = now }) }

  proof_ends : ProvesOne t m → message_of (next t m).link ≢ message_of t.link
  proof_ends y same =
      let p = y.place in
      let g = y.so in
      let before = (underway_exactly t r p y.within).0 (inr g.before) in
      let after = ((own_seen t r p y.within m).proved.1 g).after in
      apart ((next t m).own p).request own.proved refl after
      ((underway_exactly (next t m) (reached_next t r m) p y.within).1 (ap (λ z. sent_from z p) same ∙ before))

-- ---- exactly

module _ (t : Track) (w : Watch) (a : AtDoor t w) (m : Made) where
  abbrev Ended : Type 0
  Ended = Over a.reached.settings.limits t w (since_seen t w a) (sender_seen t a.reached) m

  over : Ends t m → Ended
  over (acked k) = sent ((last_acknowledged t a.reached m).told.0 k)
  over (lost k) = failed ((failed_exactly t w a m).0 k)
  over (given_up g) = proved (gives_proof t a.reached m g)

  so_ended : sending_of t.link ≡ true → Ended → message_of (next t m).link ≢ message_of t.link
  so_ended s (sent k) = acknowledged_ends t m a.reached s ((last_acknowledged t a.reached m).told.1 k)
  so_ended s (failed k) = failed_ends t m a.reached s ((failed_exactly t w a m).1 k)
  so_ended s (proved y) = proof_ends t a.reached m y

  -- whatever number the start was told of
  pub over_exactly : sending_of t.link ≡ true → (message_of (next t m).link ≢ message_of t.link) ↔ Ended
  over_exactly s = (λ n. over (ends t m s n).1, so_ended s)

pub withdrawn_exactly : WithdrawnExactly
withdrawn_exactly t w a m = over_exactly t w a m

pub report_follows : ReportFollows
report_follows t r m s other = (ends t m s other).0
