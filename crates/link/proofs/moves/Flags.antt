-- The flags of a call tell what it did to the places (`specs/Moves.antt`). Assumes nothing.
use Prim.Native.Nat.{ℕ, zero, suc, ◌<◌}
use mathlib.Core.Path.{◌≡◌, refl, sym, ap, ◌∙◌, subst}
use mathlib.Core.Bool.{Bool, true, false, not, ◌&&◌, ◌||◌, false≢true}
use mathlib.Core.List.{List, [], ◌∷◌, ◌++◌}
use mathlib.Core.Logic.{◌↔◌, inl, inr, ⊎_elim}
use native.Mathlib.Omega.{arith}
use lib.ListN.{length}
use Rattle.wire.proofs.Choice.{either}
use Rattle.header.specs.declared.header.Header.{Header}
use Rattle.settings.specs.declared.terms.Terms.{Terms}
use Rattle.place.specs.Own.{own_has_verdict}
use Rattle.place.specs.Incoming.{fresh_incoming, open_at, incoming_is_complete, incoming_is_open, incoming_failed}
use Rattle.place.specs.declared.IncomingStage.{IncomingStage}
use Rattle.place.specs.declared.IncomingStage.TheVariants as arrival
use Rattle.place.specs.declared.Incoming.{Incoming}
use Rattle.exchange.specs.Flags.{no_marks, no_flags}
use Rattle.exchange.specs.Exchange.{own_place, incoming_place, put_own, put_incoming, with_sending}
use Rattle.exchange.specs.Tick.{passed_of, tick_of}
use Rattle.exchange.specs.Send.{ended_own, ended_reply, ended_report, failed_by, failed_of}
use Rattle.exchange.specs.Rules.{Fours}
use Rattle.exchange.specs.Releases as side
use Rattle.exchange.specs.Theorems.{flag_at, became_given, became_complete, ThrowsOut as BlockThrowsOut, none_thrown, FlagsTell, Flagged}
use Rattle.exchange.specs.History as exchange
use Rattle.exchange.specs.declared.Flags.{Flags}
use Rattle.exchange.specs.declared.Sending.{Sending}
use Rattle.exchange.specs.declared.Sending.TheVariants as sending
use Rattle.exchange.specs.declared.Exchange.{Exchange}
use Rattle.exchange.proofs.Tables.{set_one}
use Rattle.exchange.proofs.Flagging.{unmarked, unflagged}
use Rattle.exchange.proofs.Telling.{flags_exactly}
use Rattle.exchange.proofs.Releases.{verdict_stays}
use Rattle.exchange.proofs.Runs.{Each, none, one_more, Sound, four_places, sound_on}
use Rattle.link.specs.Answer.{accepted}
use Rattle.link.specs.Run.{either_marks, both_flags, passing}
use Rattle.link.specs.History.{Call, byte, tick, drained, request, on_exchange, Made, Track, exchange_track, terms_in, answered, on_exchange_in}
use Rattle.link.specs.Inside.{Reached}
use Rattle.link.specs.Verdicts.{Among, here, Tells}
use Rattle.link.specs.Moves.{on_the_line, ThrowsOut, FlagsLifted}
use Rattle.link.specs.declared.Midway.{Midway}
use Rattle.link.specs.declared.Note.{Note}
use Rattle.link.specs.declared.Link.{Link}
use Rattle.link.proofs.device.Told.{each_among}
use Rattle.link.proofs.device.Says.{Said, silent, judged, put_out, sent, failed, step_said, said_in, accepted_says, refused_says}
use Rattle.link.proofs.inside.Places.{lent, goes, sound_inside}
use Rattle.link.proofs.Accepted.{accepted_calls}
use Rattle.link.proofs.moves.Seen.{only, alone}

-- ---- the flags of two steps

either_at : (xs ys : List Bool) (p : ℕ) → p < 4 → flag_at (either_marks xs ys) p ≡ flag_at xs p || flag_at ys p
either_at xs ys zero k = refl
either_at xs ys (suc zero) k = refl
either_at xs ys (suc (suc zero)) k = refl
either_at xs ys (suc (suc (suc zero))) k = refl
either_at xs ys (suc (suc (suc (suc p)))) k = absurd (omega arith)

-- the first step raised none
second_at : (xs ys : List Bool) → xs ≡ no_marks → (p : ℕ) → p < 4 → flag_at (either_marks xs ys) p ≡ flag_at ys p
second_at xs ys e p k = either_at xs ys p k ∙ ap (λ (z : Bool). z || flag_at ys p) (ap (λ (m : List Bool). flag_at m p) e ∙ unmarked p k)

-- as where it is no step
tick_alone : (c : Terms) (x : Exchange) → both_flags no_flags (tick_of c x).flags ≡ (tick_of c x).flags
unfolding passed_of
tick_alone c x = refl

-- the same messages are thrown out
alike_flagged : (x y : Exchange) (T S : ℕ → Type 0) (f : Flags) → ((p : ℕ) → T p ↔ S p) → Flagged x y T f → Flagged x y S f
alike_flagged x y T S f same w = record {
  verdicts = w.verdicts;
  completed = w.completed;
  dropped = λ p k. (
    λ e. ⊎_elim inl (λ t. inr ((same p).0 t)) ((w.dropped p k).0 e),
    λ z. (w.dropped p k).1 (⊎_elim inl (λ t. inr ((same p).1 t)) z),
  );
}

-- a verdict is got in one of two steps that keep it
got_once : (a b c : Bool) → (a ≡ true → b ≡ true) → (b ≡ true → c ≡ true) → (not a && b) || (not b && c) ≡ not a && c
got_once true true c f g = refl
got_once true false c f g = absurd (false≢true (f refl))
got_once false true true f g = refl
got_once false true false f g = absurd (false≢true (g refl))
got_once false false c f g = refl

-- what two steps do not complete is not completed
none_completed : (a b c : Bool) → not a && b ≡ false → not b && c ≡ false → not a && c ≡ false
none_completed true b c f g = refl
none_completed false true c f g = absurd (false≢true (sym f))
none_completed false false c f g = g

-- ---- a send that fails at a tick

-- it completes nothing and drops nothing
failed_marks : (x : Exchange) (q : Sending) → ((failed_by q x).flags.completed ≡ no_marks) × ((failed_by q x).flags.dropped ≡ no_marks)
unfolding ended_own ended_reply ended_report
failed_marks x sending.Nothing = (refl, refl)
failed_marks x (sending.Primary q n) = (refl, refl)
failed_marks x (sending.Reply q f n) = (refl, refl)
failed_marks x (sending.Report f n) = (refl, refl)

-- and opens nothing
failed_stage : (h : Header) (z : IncomingStage) → incoming_is_open (incoming_failed (record { header = h; stage = z })) ≡ open_at z
failed_stage h arrival.Free = refl
failed_stage h (arrival.Open a) = refl
failed_stage h (arrival.Complete n) = refl
failed_stage h (arrival.Replying n) = refl
failed_stage h (arrival.Replied n e) = refl

failed_open : (x : Exchange) → Fours x → (p : ℕ) → p < 4 → (q : Sending) → incoming_is_open (incoming_place (failed_by q x).exchange p) ≡ incoming_is_open (incoming_place x p)
unfolding ended_own ended_reply ended_report put_own put_incoming with_sending
failed_open x four p within sending.Nothing = refl
failed_open x four p within (sending.Primary q n) = refl
failed_open x four p within (sending.Reply q f n) =
    set_one (λ t (i : Incoming). incoming_is_open i ≡ incoming_is_open (incoming_place x p)) x.incoming fresh_incoming q _ p (omega (arith, four.incoming))
    (λ z. failed_stage (incoming_place x q).header (incoming_place x q).stage ∙ ap (λ (i : ℕ). incoming_is_open (incoming_place x i)) z) refl
failed_open x four p within (sending.Report f n) = refl

module _ (c : Terms) (x : Exchange) (four : Fours x) (next_four : Fours (failed_of x).exchange) where
  abbrev y : Exchange
  y = (failed_of x).exchange

  abbrev z : Exchange
  z = (tick_of c y).exchange

  first : Flagged x y none_thrown (failed_of x).flags
  first = (flags_exactly c x four.own four.incoming).failed

  then : Flagged y z none_thrown (tick_of c y).flags
  then = (flags_exactly c y next_four.own next_four.incoming).ticked

  -- only the tick may drop a message
  dropped_at : (p : ℕ) → p < 4 → flag_at (either_marks (failed_of x).flags.dropped (tick_of c y).flags.dropped) p ≡ flag_at (tick_of c y).flags.dropped p
  dropped_at p k = second_at (failed_of x).flags.dropped (tick_of c y).flags.dropped (failed_marks x x.sending).1 p k

  -- a verdict stays
  keeps_verdict : (v : Exchange) → Fours v → (k : exchange.Call) (p : ℕ) → p < 4 → side.frees k side.own p ≡ false
      → own_has_verdict (own_place v p) ≡ true → own_has_verdict (own_place (exchange.called c v [] k).exchange p) ≡ true
  keeps_verdict v fours k p within e given = ap own_has_verdict (verdict_stays c v [] fours.own p within given k e) ∙ given

  failed_flagged : Flagged x z none_thrown (both_flags (failed_of x).flags (tick_of c y).flags)
  unfolding became_given became_complete passed_of
  failed_flagged = record {
    verdicts = λ p k.
        either_at (failed_of x).flags.verdicts (tick_of c y).flags.verdicts p k ∙ (λ i. first.verdicts p k i || then.verdicts p k i)
        ∙ got_once (own_has_verdict (own_place x p)) (own_has_verdict (own_place y p)) (own_has_verdict (own_place z p))
        (keeps_verdict x four exchange.failed p k refl) (keeps_verdict y next_four exchange.tick p k refl);
    completed = λ p k.
        let none = ap (λ (m : List Bool). flag_at m p) (failed_marks x x.sending).0 ∙ unmarked p k in
        second_at (failed_of x).flags.completed no_marks (failed_marks x x.sending).0 p k ∙ unmarked p k
        ∙ sym (none_completed (incoming_is_complete (incoming_place x p)) (incoming_is_complete (incoming_place y p)) (incoming_is_complete (incoming_place z p))
        (sym (first.completed p k) ∙ none) (sym (then.completed p k) ∙ unmarked p k));
    dropped = λ p k.
        let opened = failed_open x four p k x.sending in (
          λ e. ⊎_elim (λ d. inl (record { was_open = sym opened ∙ d.was_open; is_free = d.is_free })) (λ t. absurd t) ((then.dropped p k).0 (sym (dropped_at p k) ∙ e)),
          ⊎_elim (λ d. dropped_at p k ∙ (then.dropped p k).1 (inl (record { was_open = opened ∙ d.was_open; is_free = d.is_free }))) (λ t. absurd t),
        );
  }

-- ---- a call on the line

abbrev pub is_block : exchange.Call → Bool
is_block (exchange.block h d) = true
is_block exchange.tick = false
is_block exchange.put_out = false
is_block exchange.acknowledged = false
is_block exchange.failed = false
is_block (exchange.request r) = false

module _ (t : Track) (w : Reached t) (m : Made) where
  abbrev c : Terms
  c = terms_in t

  abbrev x : Exchange
  x = t.link.exchange

  sound : Sound x
  sound = sound_inside t w

  four : Fours x
  four = four_places x sound

  tells : FlagsTell c x
  tells = flags_exactly c x four.own four.incoming

  -- the transactions after these calls
  abbrev after : List exchange.Call → Exchange
  after ks = (exchange.track c (exchange_track t (lent t m)) ks).exchange

  -- the flags of this call are f
  abbrev Raises : Flags → Type 0
  Raises f = Flagged x (after (on_exchange_in t m)) (ThrowsOut t m) f

  module _ (ks : List exchange.Call) (e : on_exchange_in t m ≡ ks) (f : Flags) where
    raises : (T : ℕ → Type 0) → ((p : ℕ) → T p ↔ ThrowsOut t m p) → Flagged x (after ks) T f → Raises f
    raises T same g = subst (λ js. Flagged x (after js) (ThrowsOut t m) f) (sym e) (alike_flagged x (after ks) T (ThrowsOut t m) f same g)

    -- where no block goes up, none is thrown out
    none_out : Each (λ k. is_block k ≡ false) ks → Flagged x (after ks) none_thrown f → Raises f
    none_out without =
        raises none_thrown
        (λ p. (λ z. absurd z, λ o. false≢true (sym (each_among (λ k. is_block k ≡ false) ks without _ (subst (Among (exchange.block o.header o.rest)) e o.up)))))

  -- where one does, those that it throws out
  one_out : (h d : List ℕ) → on_exchange_in t m ≡ exchange.block h d ∷ [] → (p : ℕ) → BlockThrowsOut c x h d p ↔ ThrowsOut t m p
  one_out h d e p = (
    λ o. record { header = h; rest = d; up = subst (Among (exchange.block h d)) (sym e) here; out = o },
    λ o.
        let same = only (exchange.block o.header o.rest) (exchange.block h d) (subst (Among (exchange.block o.header o.rest)) e o.up) in
        let header : o.header ≡ h = cc in
        let rest : o.rest ≡ d = cc in
        subst (λ (z : List ℕ × List ℕ). BlockThrowsOut c x z.0 z.1 p) (λ i. (header i, rest i)) o.out,
  )

  -- no tick passed
  heard_raises : (n : Note) (ks : List exchange.Call) (s : Midway) → Said t.link (lent t m) n ks s → on_exchange_in t m ≡ ks ++ [] → Raises s.flags
  unfolding exchange.track
  heard_raises n _ _ silent e = none_out _ e _ none (unflagged x x none_thrown refl refl (λ p k o. absurd o))
  heard_raises n _ _ (judged h d) e = raises _ e _ (BlockThrowsOut c x h d) (one_out h d e) (tells.judged h d (lent t m))
  heard_raises n _ _ put_out e = none_out _ e _ (one_more refl none) tells.put_out
  heard_raises n _ _ sent e = none_out _ e _ (one_more refl none) tells.sent
  heard_raises n _ _ failed e = none_out _ e _ (one_more refl none) tells.failed

  -- a block, one that is put out, or an ACK is told alone
  apart : {A : Type 0} (k : exchange.Call) → (Tells t m k → on_exchange_in t m ≡ k ∷ []) → on_exchange_in t m ≡ k ∷ exchange.tick ∷ [] → A
  apart k single e = absurd (omega (arith, ap length (sym (single (subst (Among k) (sym e) here)) ∙ e)))

  -- one did: all that is told besides is a send that fails
  passed_raises : (n : Note) (ks : List exchange.Call) (s : Midway) → Said t.link (lent t m) n ks s → on_exchange_in t m ≡ ks ++ (exchange.tick ∷ [])
      → Raises (passing true c s).flags
  unfolding exchange.track
  passed_raises n _ _ silent e = none_out _ e _ (one_more refl none) (subst (Flagged x _ none_thrown) (sym (tick_alone c x)) tells.ticked)
  passed_raises n _ _ (judged h d) e = apart _ (alone t m (exchange.block h d) refl) e
  passed_raises n _ _ put_out e = apart _ (alone t m exchange.put_out refl) e
  passed_raises n _ _ sent e = apart _ (alone t m exchange.acknowledged refl) e
  passed_raises n _ _ failed e =
      none_out _ e _ (one_more refl (one_more refl none)) (failed_flagged c x four (four_places _ (sound_on c x (lent t m) exchange.failed sound)))

  line_raises : (k : Call) → on_the_line k ≡ true → on_exchange_in t m ≡ on_exchange t.link k → Raises (said_in t.link (lent t m) k).flags
  line_raises (byte b fits) o e = heard_raises _ _ _ (step_said t.link (lent t m) (byte b fits)) e
  line_raises tick o e = passed_raises _ _ _ (step_said t.link (lent t m) tick) e
  line_raises drained o e = heard_raises _ _ _ (step_said t.link (lent t m) drained) e
  line_raises (request r) o e = absurd (false≢true o)

-- a request raises none
request_raises : (u : Link) (room : List ℕ) (k : Call) → on_the_line k ≡ false → (said_in u room k).flags ≡ no_flags
request_raises u room (byte b fits) e = absurd (false≢true (sym e))
request_raises u room tick e = absurd (false≢true (sym e))
request_raises u room drained e = absurd (false≢true (sym e))
request_raises u room (request r) e = refl

pub flags_lifted : FlagsLifted
flags_lifted t w m =
    record {
      line = λ a o.
          subst (λ y. Flagged t.link.exchange y (ThrowsOut t m) (answered t m).answer.flags) (goes t m)
          (subst (Raises t w m) (sym (accepted_says t m a).1) (line_raises t w m m.call o (accepted_calls t m a)));
      refused = λ r. (refused_says t m r).1;
      request = λ o.
          either (accepted (answered t m).answer.outcome) (λ z. (answered t m).answer.flags ≡ no_flags)
          (λ a. (accepted_says t m a).1 ∙ request_raises t.link (lent t m) m.call o) (λ r. (refused_says t m r).1);
    }
