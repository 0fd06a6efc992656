-- Each call raises the flags of what it does to the places. Assumes nothing.
use Rattle.std.specs.Prelude.{None, Some}
use Prim.Native.Nat.{ℕ, zero, suc, ◌≤◌, ◌<◌}
use mathlib.Core.Path.{◌≡◌, refl, sym, ap, ◌∙◌, subst}
use mathlib.Core.Bool.{Bool, true, false, false≢true}
use mathlib.Core.List.{List, [], ◌∷◌, map}
use mathlib.Core.Logic.{◌↔◌, ◌⊎◌, inl, inr, ⊎_elim}
use native.Mathlib.Omega.{arith}
use lib.ListN.{length, set, get_or-map}
use Rattle.wire.specs.Message.{message_limit}
use Rattle.header.specs.Header.{header_of}
use Rattle.header.specs.declared.header.Header.{Header}
use Rattle.settings.specs.declared.terms.Terms.{Terms}
use Rattle.wire.proofs.Choice.{chosen, both}
use Rattle.place.specs.Fate.{begins_primary, fate_of}
use Rattle.place.specs.Message.{LacksData}
use Rattle.place.specs.Own.{primary_of, standing_at, given_by, own_has_verdict, first_out, own_put_out, own_sent, own_failed, own_tick, own_offered}
use Rattle.place.specs.Incoming.{fresh_incoming, incoming_is_complete, incoming_is_open, incoming_is_free, open_at, free_at, complete_at, incoming_tick, open_tick, open_by, incoming_length, incoming_takes, kept_by, begun_by, ended_at}
use Rattle.place.proofs.Arrivals.{by_waited}
use Rattle.place.proofs.Messages.{by_fate}
use Rattle.place.specs.declared.Fate.{Fate}
use Rattle.place.specs.declared.Fate.TheVariants as fate
use Rattle.place.specs.declared.End.{End}
use Rattle.place.specs.declared.End.TheVariants as end
use Rattle.place.specs.declared.IncomingStage.{IncomingStage}
use Rattle.place.specs.declared.IncomingStage.TheVariants as arrival
use Rattle.place.specs.declared.Incoming.{Incoming}
use Rattle.place.specs.declared.OwnStage.{OwnStage}
use Rattle.place.specs.declared.OwnStage.TheVariants as stage
use Rattle.place.specs.declared.Own.{Own}
use Rattle.table.specs.Own.{own_at, reply_for}
use Rattle.table.specs.Incoming.{incoming_at, message_for}
use Rattle.table.proofs.Finding.{message_lowest, open_alike_lowest}
use Rattle.exchange.specs.Flags.{no_marks, no_flags, verdict_flag, incoming_flags}
use Rattle.exchange.specs.Exchange.{own_place, incoming_place, got_verdict, put_own, put_incoming, with_sending, put_replied, saved_now}
use Rattle.exchange.specs.Reports.{with_outbox}
use Rattle.exchange.specs.Tick.{was_dropped, passed_of, tick_of}
use Rattle.exchange.specs.Send.{put_out_by, ended_own, ended_reply, ended_report, sent_by, failed_by}
use Rattle.exchange.specs.Judge.{Judging, thrown, last_by, spoilt_by, reply_block, message_block, begins_at, rules_of, judge_of}
use Rattle.exchange.specs.Rules.{Fours}
use Rattle.exchange.specs.Theorems.{flag_at, became_given, became_complete, Dropped, ThrowsOut, none_thrown, Flagged, FlagsExactly}
use Rattle.exchange.proofs.Finding.{found}
use Rattle.exchange.proofs.Judging.{Passed, is_new, begins, reply_here, message_here}
use Rattle.exchange.proofs.Leaving.{place_taken}
use Rattle.exchange.proofs.Keeping.{no_mark, no_verdict_flag}
use Rattle.exchange.proofs.Cases.{Takes, by_judge}
use Rattle.exchange.proofs.Joining.{offered_kept}
use Rattle.exchange.proofs.Areas.{taken_place, begun_at}
use Rattle.exchange.proofs.Flagging.{stays, unmarked, marked_here, Forced, unflagged, own_flagged, incoming_flagged}
use Rattle.exchange.specs.declared.Note.{Note}
use Rattle.exchange.specs.declared.Note.TheVariants.{Misrouted, Duplicate}
use Rattle.exchange.specs.declared.Flags.{Flags}
use Rattle.exchange.specs.declared.Outbox.{Outbox}
use Rattle.exchange.specs.declared.Sending.{Sending}
use Rattle.exchange.specs.declared.Sending.TheVariants as sending
use Rattle.exchange.specs.declared.Exchange.{Exchange}

-- ---- a report

-- it raises no flag
boxed_flags : (x y : Exchange) (b : Outbox) (T : ℕ → Type 0) (raised : Flags) → Flagged x y T raised → Flagged x (with_outbox y b) T raised
boxed_flags x y b T raised w = record { verdicts = w.verdicts; completed = w.completed; dropped = w.dropped }

-- ---- a block

-- a place that takes a block is open
takes_open : (h : Header) (s : IncomingStage) (b : Header) → incoming_takes (record { header = h; stage = s }) b ≡ true → open_at s ≡ true
takes_open h arrival.Free b t = absurd (false≢true t)
takes_open h (arrival.Open a) b t = refl
takes_open h (arrival.Complete n) b t = absurd (false≢true t)
takes_open h (arrival.Replying n) b t = absurd (false≢true t)
takes_open h (arrival.Replied n e) b t = absurd (false≢true t)

-- an open message is not complete, and neither is a free place's
open_incomplete : (s : IncomingStage) → (free_at s ≡ true) ⊎ (open_at s ≡ true) → complete_at s ≡ false
open_incomplete arrival.Free w = refl
open_incomplete (arrival.Open a) w = refl
open_incomplete (arrival.Complete n) (inl e) = absurd (false≢true e)
open_incomplete (arrival.Complete n) (inr e) = absurd (false≢true e)
open_incomplete (arrival.Replying n) w = refl
open_incomplete (arrival.Replied n e) w = refl

module _ (i : Incoming) (incomplete : incoming_is_complete i ≡ false) where
  -- a further block
  kept_complete : (h : Header) (f : Fate) → last_by f ≡ became_complete i (kept_by i h f)
  unfolding became_complete
  kept_complete h fate.Empty = sym (rw incomplete)
  kept_complete h fate.TooLong = sym (rw incomplete)
  kept_complete h (fate.Last k) = sym (rw incomplete)
  kept_complete h (fate.More k) = sym (rw incomplete)

  -- a first block that is kept
  begun_complete : (h : Header) (f : Fate) → spoilt_by f ≡ false → last_by f ≡ became_complete i (begun_by i h f)
  unfolding became_complete
  begun_complete h fate.Empty e = absurd (false≢true (sym e))
  begun_complete h fate.TooLong e = absurd (false≢true (sym e))
  begun_complete h (fate.Last k) e = sym (rw incomplete)
  begun_complete h (fate.More k) e = sym (rw incomplete)

-- an open message is dropped by a block that spoils it, and by no other
kept_dropped : (i : Incoming) → incoming_is_open i ≡ true → (h : Header) (f : Fate) → (spoilt_by f ≡ true) ↔ Dropped i (kept_by i h f)
kept_dropped i opened h fate.Empty = (λ e. record { was_open = opened; is_free = refl }, λ d. refl)
kept_dropped i opened h fate.TooLong = (λ e. record { was_open = opened; is_free = refl }, λ d. refl)
kept_dropped i opened h (fate.Last k) = (λ e. absurd (false≢true e), λ d. absurd (false≢true d.is_free))
kept_dropped i opened h (fate.More k) = (λ e. absurd (false≢true e), λ d. absurd (false≢true d.is_free))

-- no place is free where a message begins
begun_there : (i : Incoming) (h : Header) (f : Fate) → spoilt_by f ≡ false → Dropped i (begun_by i h f) → ⊥
begun_there i h fate.Empty e d = false≢true (sym e)
begun_there i h fate.TooLong e d = false≢true (sym e)
begun_there i h (fate.Last k) e d = false≢true d.is_free
begun_there i h (fate.More k) e d = false≢true d.is_free

-- a first block that is kept has data, and fits
kept_fits : (b : Header) (n : ℕ) → spoilt_by (fate_of b 0 n) ≡ false → (LacksData b n → ⊥) × (n ≤ message_limit)
kept_fits b n =
    by_fate b 0 n (λ f. spoilt_by f ≡ false → (LacksData b n → ⊥) × (n ≤ message_limit))
    (λ l e. absurd (false≢true (sym e))) (λ has l e. absurd (false≢true (sym e))) (λ has e l s. (has, omega arith)) (λ has e l k s. (has, omega arith))

module _ (c : Terms) (x : Exchange) (four : Fours x) (h d : List ℕ) where
  -- a new primary that takes the place of an open message throws that one out
  throws_out : (p : ℕ) (gone : Bool) (f : Fate) → Passed c x h → reply_for x.own (header_of h) ≡ None
      → message_for x.incoming (header_of h) ≡ None → begins_primary (header_of h) ≡ true → fate_of (header_of h) 0 (length d) ≡ f
      → spoilt_by f ≡ false → Takes x (header_of h) p gone → gone ≡ true → ThrowsOut c x h d p
  throws_out p true f q r m o e s t g =
      let fit = kept_fits (header_of h) (length d) (ap spoilt_by e ∙ s) in
      let low = ((open_alike_lowest x.incoming (header_of h) four.incoming).at p).0 t in
      record {
        primary = record {
          new = is_new c x h q;
          no_reply = λ z. false≢true (sym (ap found r) ∙ (reply_here x four (header_of h)).1 z);
          no_message = λ z. false≢true (sym (ap found m) ∙ (message_here x four (header_of h)).1 z);
          begins = (begins (header_of h)).0 o;
          has_data = fit.0;
          fits = fit.1;
        };
        alike = record { within = low.0; so = low.1; none_below = low.2 };
      }
  throws_out p false f q r m o e s t g = absurd (false≢true g)

  -- and the place is flagged
  out_flagged : (room : List ℕ) → Forced (ThrowsOut c x h d) (judge_of c x h d room).answer.flags
  out_flagged room p k w =
      ap (λ (j : Judging). flag_at j.answer.flags.dropped p) ((place_taken c x h d room four w.primary).alike p w.alike) ∙ marked_here p true k

  abbrev After : Judging → Type 0
  After j = Forced (ThrowsOut c x h d) j.answer.flags → Flagged x j.answer.exchange (ThrowsOut c x h d) j.answer.flags

  thrown_after : (n : Note) (room : List ℕ) → After (thrown x n room)
  unfolding thrown
  thrown_after n room = unflagged x x (ThrowsOut c x h d) refl refl

  rules_after : (room : List ℕ) → After (rules_of c x h d room)
  unfolding thrown reply_block message_block begins_at saved_now put_own put_replied put_incoming with_sending
  rules_after room =
      let b = header_of h in
      let T = ThrowsOut c x h d in
      by_judge c x h d room After (λ e. thrown_after Misrouted room) (λ e u. thrown_after Duplicate room)
      (λ p q r. own_flagged x _ T p (own_offered (own_place x p) b (length d)) four.own refl refl)
      (λ p q r m.
      let i = incoming_place x p in
      let t = (((message_lowest x.incoming b four.incoming).at p).0 m).1 in
      let o = takes_open i.header i.stage b t in
      let f = fate_of b (incoming_length i) (length d) in
      let gone = kept_dropped i o b f in
      rw (offered_kept i b (length d) t)
      (incoming_flagged x _ T p _ _ _ four.incoming refl refl (kept_complete i (open_incomplete i.stage (inr o)) b f) gone.1 (λ e. inl (gone.0 e))))
      (λ p gone f q r m o e s t.
      let i = incoming_place x p in
      let w = taken_place x b p gone four.incoming t in
      rw (← e)
      (begun_at b d i.header i.stage
      (λ a.
      let raised = incoming_flags p (last_by (fate_of b 0 (length d))) gone in
      let y : Exchange = record { own = x.own; incoming = set x.incoming p a; saved = Some h; numbers = x.numbers; sending = x.sending; reports = x.reports } in
      Forced T raised → Flagged x y T raised)
      w.1
      (incoming_flagged x _ T p _ _ gone four.incoming refl refl (begun_complete i (open_incomplete i.stage w.1) b (fate_of b 0 (length d)) (ap spoilt_by e ∙ s))
      (λ z. absurd (begun_there i b (fate_of b 0 (length d)) (ap spoilt_by e ∙ s) z)) (λ g. inr (throws_out p gone f q r m o e s t g)))))
      (λ n t r m. unflagged x _ T refl refl)

  judged_flags : (room : List ℕ) → Flagged x (judge_of c x h d room).answer.exchange (ThrowsOut c x h d) (judge_of c x h d room).answer.flags
  judged_flags room = boxed_flags x (rules_of c x h d room).answer.exchange _ _ _ (rules_after room (out_flagged room))

-- ---- a tick

-- one of four
four_at : (f : ℕ → Bool) (p : ℕ) → p < 4 → flag_at (f 0 ∷ f 1 ∷ f 2 ∷ f 3 ∷ []) p ≡ f p
four_at f zero k = refl
four_at f (suc zero) k = refl
four_at f (suc (suc zero)) k = refl
four_at f (suc (suc (suc zero))) k = refl
four_at f (suc (suc (suc (suc p)))) k = absurd (omega arith)

-- a tick completes no message
tick_incomplete : (c : Terms) (h : Header) (s : IncomingStage) → became_complete (record { header = h; stage = s }) (incoming_tick c (record { header = h; stage = s })) ≡ false
unfolding became_complete open_tick
tick_incomplete c h arrival.Free = refl
tick_incomplete c h (arrival.Open a) =
    by_waited c a (λ t. incoming_is_complete (open_by (record { header = h; stage = arrival.Open a }) t) ≡ false) refl (λ _. refl)
tick_incomplete c h (arrival.Complete n) = refl
tick_incomplete c h (arrival.Replying n) = refl
tick_incomplete c h (arrival.Replied n e) = refl

tick_flags : (c : Terms) (x : Exchange) → Flagged x (tick_of c x).exchange none_thrown (tick_of c x).flags
unfolding passed_of got_verdict became_given was_dropped
tick_flags c x =
    record {
      verdicts = four_at (λ p. got_verdict (own_place x p) (own_at (map (own_tick c) x.own) p));
      completed = λ p k.
          let i = incoming_place x p in
          unmarked p k ∙ sym (ap (became_complete i) (get_or-map (incoming_tick c) x.incoming p fresh_incoming) ∙ tick_incomplete c i.header i.stage);
      dropped = λ p k.
          let i = incoming_place x p in
          let j = incoming_at (map (incoming_tick c) x.incoming) p in
          let same = four_at (λ p. was_dropped (incoming_place x p) (incoming_at (map (incoming_tick c) x.incoming) p)) p k in
          let gone = both (incoming_is_open i) (incoming_is_free j) in (
            λ e. let w = gone.0 (sym same ∙ e) in inl (record { was_open = w.0; is_free = w.1 }),
            ⊎_elim (λ d. same ∙ gone.1 (d.was_open, d.is_free)) (λ t. absurd t),
          );
    }

-- ---- a block of ours that is out, and the end of a send

-- no verdict comes of a block that is put out
put_out_given : (h : List ℕ) (z : OwnStage) → own_has_verdict (own_put_out (record { header = h; stage = z })) ≡ given_by (standing_at z)
unfolding first_out
put_out_given h stage.Free = refl
put_out_given h stage.Sending = chosen (λ (o : Own). own_has_verdict o ≡ false) (primary_of (record { header = h; stage = stage.Sending })).w _ _ (λ e. refl) (λ e. refl)
put_out_given h stage.PutOut = refl
put_out_given h (stage.Awaiting timer) = refl
put_out_given h (stage.Replying a) = refl
put_out_given h (stage.Done v r) = refl

none_got : (o : Own) → got_verdict o (own_put_out o) ≡ false
unfolding got_verdict
none_got o = rw (put_out_given o.header o.stage) (stays (own_has_verdict o))

-- a reply that ends completes no message and drops none
ended_incomplete : (z : End) (h : Header) (s : IncomingStage) → became_complete (record { header = h; stage = s }) (ended_at z s (record { header = h; stage = s })) ≡ false
unfolding became_complete
ended_incomplete z h arrival.Free = refl
ended_incomplete z h (arrival.Open a) = refl
ended_incomplete z h (arrival.Complete n) = refl
ended_incomplete z h (arrival.Replying n) = refl
ended_incomplete z h (arrival.Replied n e) = refl

ended_there : (z : End) (h : Header) (s : IncomingStage) → Dropped (record { header = h; stage = s }) (ended_at z s (record { header = h; stage = s })) → ⊥
ended_there z h arrival.Free d = false≢true d.was_open
ended_there z h (arrival.Open a) d = false≢true d.is_free
ended_there z h (arrival.Complete n) d = false≢true d.was_open
ended_there z h (arrival.Replying n) d = false≢true d.was_open
ended_there z h (arrival.Replied n e) d = false≢true d.was_open

module _ (x : Exchange) (own_four : length x.own ≡ 4) (incoming_four : length x.incoming ≡ 4) where
  reply_flags : (z : End) (p : ℕ) → Flagged x (ended_reply x p (ended_at z (incoming_place x p).stage (incoming_place x p))).exchange none_thrown no_flags
  unfolding ended_reply put_incoming with_sending
  reply_flags z p =
      let i = incoming_place x p in
      subst (λ m. Flagged x (ended_reply x p (ended_at z i.stage i)).exchange none_thrown (record { verdicts = no_marks; completed = m; dropped = m })) (no_mark p)
      (incoming_flagged x _ none_thrown p (ended_at z i.stage i) false false incoming_four refl refl (sym (ended_incomplete z i.header i.stage))
      (λ d. absurd (ended_there z i.header i.stage d)) (λ e. absurd (false≢true e)) (λ p k t. absurd t))

  out_flags : (p : ℕ) (y : Exchange) → y.own ≡ set x.own p (own_put_out (own_place x p)) → x.incoming ≡ y.incoming → Flagged x y none_thrown no_flags
  out_flags p y put same =
      let o = own_place x p in
      subst (Flagged x y none_thrown) (ap (verdict_flag p) (none_got o) ∙ no_verdict_flag p)
      (own_flagged x y none_thrown p (own_put_out o) own_four put same (λ p k t. absurd t))

  put_out_flags : (q : Sending) → Flagged x (put_out_by q x) none_thrown no_flags
  unfolding put_own
  put_out_flags sending.Nothing = unflagged x x none_thrown refl refl (λ p k t. absurd t)
  put_out_flags (sending.Primary p n) = out_flags p _ refl refl
  put_out_flags (sending.Reply p f n) = unflagged x x none_thrown refl refl (λ p k t. absurd t)
  put_out_flags (sending.Report f n) = unflagged x x none_thrown refl refl (λ p k t. absurd t)

  sent_flags : (q : Sending) → Flagged x (sent_by q x).exchange none_thrown (sent_by q x).flags
  unfolding ended_own ended_reply ended_report put_own with_sending
  sent_flags sending.Nothing = unflagged x x none_thrown refl refl (λ p k t. absurd t)
  sent_flags (sending.Primary p n) = own_flagged x _ none_thrown p (own_sent (own_place x p)) own_four refl refl (λ p k t. absurd t)
  sent_flags (sending.Reply p f n) = reply_flags end.Sent p
  sent_flags (sending.Report f n) = unflagged x _ none_thrown refl refl (λ p k t. absurd t)

  failed_flags : (q : Sending) → Flagged x (failed_by q x).exchange none_thrown (failed_by q x).flags
  unfolding ended_own ended_reply ended_report put_own with_sending
  failed_flags sending.Nothing = unflagged x x none_thrown refl refl (λ p k t. absurd t)
  failed_flags (sending.Primary p n) = own_flagged x _ none_thrown p (own_failed (own_place x p)) own_four refl refl (λ p k t. absurd t)
  failed_flags (sending.Reply p f n) = reply_flags end.Failed p
  failed_flags (sending.Report f n) = unflagged x _ none_thrown refl refl (λ p k t. absurd t)

pub flags_exactly : FlagsExactly
flags_exactly c x own_four incoming_four =
    record {
      judged = judged_flags c x (record { own = own_four; incoming = incoming_four });
      ticked = tick_flags c x;
      put_out = put_out_flags x own_four incoming_four x.sending;
      sent = boxed_flags x (sent_by x.sending x).exchange _ _ _ (sent_flags x own_four incoming_four x.sending);
      failed = boxed_flags x (failed_by x.sending x).exchange _ _ _ (failed_flags x own_four incoming_four x.sending);
    }
