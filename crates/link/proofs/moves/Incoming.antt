-- How one call moves what the onlooker of an incoming place has seen (`specs/Moves.antt`). Assumes nothing.
use Rattle.std.specs.Prelude.{Option, Some, None, Ok}
use Prim.Native.Nat.{ℕ, ◌<◌}
use mathlib.Core.Path.{◌≡◌, refl, sym, ap, ◌∙◌, subst}
use mathlib.Core.Bool.{Bool, false, cond, false≢true}
use mathlib.Core.List.{List, ◌++◌}
use mathlib.Core.Logic.Iff
use mathlib.Core.Logic.{◌⊎◌, inl, inr, ⊎_elim}
use lib.Dec.{eqb}
use lib.ListN.{length}
use borrow.Author.Tests.{eqb-true, eq-eqb}
use Rattle.wire.proofs.Choice.{either}
use Rattle.header.specs.Header.{header_of}
use Rattle.header.specs.declared.header.Header.{Header}
use Rattle.settings.specs.declared.terms.Terms.{Terms}
use Rattle.place.specs.OwnHistory as own
use Rattle.place.specs.IncomingHistory as incoming
use Rattle.place.specs.IncomingTheorems.{TicksOne}
use Rattle.place.proofs.Completing.{incoming_ticked}
use Rattle.table.specs.Own.{reply_for}
use Rattle.table.specs.Incoming.{message_for, open_alike, free_incoming}
use Rattle.table.proofs.Finding.{message_lowest, open_alike_lowest, free_incoming_lowest}
use Rattle.exchange.specs.Note.{note_number as block_note}
use Rattle.exchange.specs.Exchange.{incoming_place}
use Rattle.exchange.specs.Judge.{judge_of}
use Rattle.exchange.specs.Request.{Request, primary, reply, freeing_own, freeing_incoming, answer_of}
use Rattle.exchange.specs.Rules.{Fours, LowestAt, OfMessage, ReplyHere, MessageHere, AlikeAt, FreeAt, AlikeHere}
use Rattle.exchange.specs.History as exchange
use Rattle.exchange.specs.Watching.{found_at, told_by, taken_by, sees_block, freed_seen, incoming_taken, incoming_sees}
use Rattle.exchange.specs.declared.Note.{Note}
use Rattle.exchange.specs.declared.Note.TheVariants.{Kept}
use Rattle.exchange.specs.declared.Exchange.{Exchange}
use Rattle.exchange.proofs.Cases.{by_found}
use Rattle.exchange.proofs.Finding.{found, lowest}
use Rattle.exchange.proofs.Judging as test
use Rattle.exchange.proofs.Joining.{anew_here}
use Rattle.exchange.proofs.Runs.{four_places}
use Rattle.link.specs.History.{Made, Track, exchange_track, terms_in, next}
use Rattle.link.specs.Inside.{Reached}
use Rattle.link.specs.Verdicts.{Tells}
use Rattle.link.specs.Moves.{Ticks, noted, GoesUp, Continued, TakesPlace, Began, quieter, IncomingStep, same, passes, begins, keeps, spoils, frees, BeginsOne, ContinuesOne, BreaksOne, IncomingSeen}
use Rattle.link.proofs.inside.Places.{lent, sound_inside}
use Rattle.link.proofs.moves.Seen.{is_tick, alone, by_seen, seen_with, seen_alone, seen_refused, by_taken, seen_taken, taken_named, named_at}
use Rattle.link.proofs.moves.Notes.{by_note, kept_note, spoilt_note, up_noted}
use Rattle.link.proofs.moves.Own.{found_at_lem}

-- the data of a first block is joined where it takes its place
new_joined : (a f : Option ℕ) (p : ℕ) (s : exchange.Joined) (d : List ℕ) → taken_by a f ≡ Some p → (exchange.of_new a f s d).messages p ≡ d
new_joined (Some q) f p s d e = let z : q ≡ p = cc in subst (λ i. exchange.anew s.messages q d i ≡ d) z (anew_here s.messages q d)
new_joined None (Some q) p s d e = let z : q ≡ p = cc in subst (λ i. exchange.anew s.messages q d i ≡ d) z (anew_here s.messages q d)
new_joined None None p s d e = absurd (false≢true (ap found e))

module _ (t : Track) (w : Reached t) (p : ℕ) (within : p < 4) where
  abbrev c : Terms
  c = terms_in t

  abbrev x : Exchange
  x = t.link.exchange

  abbrev s : incoming.Seen
  s = t.incoming p

  four : Fours x
  four = four_places x (sound_inside t w)

  -- ---- which place a block is for

  no_reply : (b : Header) → reply_for x.own b ≡ None → ReplyHere x b → ⊥
  no_reply b e h = false≢true (sym (ap found e) ∙ (test.reply_here x four b).1 h)

  no_message : (b : Header) → message_for x.incoming b ≡ None → MessageHere x b → ⊥
  no_message b e h = false≢true (sym (ap found e) ∙ (test.message_here x four b).1 h)

  no_alike : (b : Header) → open_alike x.incoming b ≡ None → AlikeHere x b → ⊥
  no_alike b e h = false≢true (sym (ap found e) ∙ (test.alike_here x four b).1 h)

  of_message_lem : (b : Header) → message_for x.incoming b ≡ Some p → LowestAt (λ q. OfMessage (incoming_place x q) b) p
  of_message_lem b e =
      (lowest (message_for x.incoming b) _ (λ q. OfMessage (incoming_place x q) b) (message_lowest x.incoming b four.incoming)
      (λ q. test.message_says (incoming_place x q) b) p).0 e

  abbrev new_for : Header → Option ℕ
  new_for b = taken_by (open_alike x.incoming b) (free_incoming x.incoming)

  takes : (b : Header) → new_for b ≡ Some p → TakesPlace x b p
  takes b =
      by_found (open_alike x.incoming b) (λ f. taken_by f (free_incoming x.incoming) ≡ Some p → TakesPlace x b p)
      (λ q a e. inl ((lowest (open_alike x.incoming b) _ (AlikeAt x b) (open_alike_lowest x.incoming b four.incoming) (λ i. Iff.rfl) p).0 (a ∙ e)))
      (λ a e.
      let free = free_incoming_lowest x.incoming four.incoming in
      inr (no_alike b a, (lowest (free_incoming x.incoming) _ (FreeAt x) free (λ i. test.is_free (incoming_place x i).stage) p).0 e))

  taken : (b : Header) → TakesPlace x b p → new_for b ≡ Some p
  taken b =
      ⊎_elim (λ a. ap (λ (f : Option ℕ). taken_by f (free_incoming x.incoming)) (test.lowest_alike x four b p a))
      (λ a. ap (λ (f : Option ℕ). taken_by f (free_incoming x.incoming)) (test.no_alike x four b a.0) ∙ test.lowest_free x four b p a.1)

  module _ (m : Made) where
    abbrev room : List ℕ
    room = lent t m

    abbrev Goes : incoming.Seen → Type 0
    Goes = IncomingStep t m p

    -- ---- a block

    module _ (h d : List ℕ) (n : Ticks t m → ⊥) (g : GoesUp t m h d) where
      abbrev b : Header
      b = header_of h

      abbrev k : Note
      k = (judge_of c x h d room).answer.note

      next_step : (ReplyHere x b → ⊥) → LowestAt (λ q. OfMessage (incoming_place x q) b) p → Goes (incoming.sees_next (told_by k) s b (length d))
      next_step r o =
          by_note (λ j a. noted t m ≡ block_note j → Goes (incoming.sees_next a s b (length d)))
          (λ y. keeps h d (record { up = g; note = y; no_reply = r; of_it = o })) (λ j a z y. same n)
          (λ j i y. spoils (block_note j) h d i (record { up = g; note = y; no_reply = r; of_it = o })) k (up_noted t m h d g)

      first_step : (ReplyHere x b → ⊥) → (MessageHere x b → ⊥) → TakesPlace x b p → Goes (incoming.sees_first (told_by k) s b (length d))
      first_step r o z =
          by_note (λ j a. noted t m ≡ block_note j → Goes (incoming.sees_first a s b (length d)))
          (λ y. begins h d (record { up = g; note = y; no_reply = r; no_message = o; place = z })) (λ j a z y. same n) (λ j i y. same n) k (up_noted t m h d g)

      block_step : Goes (incoming_sees c p x room s (exchange.block h d))
      block_step =
          by_found (reply_for x.own b) (λ f. Goes (sees_block f (message_for x.incoming b) (new_for b) p (told_by k) s b (length d))) (λ q r. same n)
          (λ r.
          by_found (message_for x.incoming b) (λ f. Goes (sees_block None f (new_for b) p (told_by k) s b (length d)))
          (λ q o.
          either (eqb q p) (λ z. Goes (cond z (incoming.sees_next (told_by k) s b (length d)) s))
          (λ z. next_step (no_reply b r) (of_message_lem b (o ∙ ap Some (eqb-true q p z)))) (λ z. same n))
          (λ o.
          either (found_at (new_for b) p) (λ z. Goes (cond z (incoming.sees_first (told_by k) s b (length d)) s))
          (λ z. first_step (no_reply b r) (no_message b o) (takes b (found_at_lem (new_for b) p z))) (λ z. same n)))

    -- ---- all that a call can be to this onlooker

    -- by what was asked for, where it took this place
    took : (r : Request) → Tells t m (exchange.request r) → (Ticks t m → ⊥) → (answer_of c x r room).answer.asked ≡ Ok p → Goes (incoming_taken s r)
    took (primary q d) a n e = same n
    took (reply q f d) a n e = same n
    took (freeing_own q) a n e = same n
    took (freeing_incoming q) a n e = frees (subst (λ i. Tells t m (exchange.request (freeing_incoming i))) (sym (taken_named c x room p (freeing_incoming q) e)) a)

    one_step : (k : exchange.Call) → Tells t m k → (is_tick k ≡ false → Ticks t m → ⊥) → Goes (incoming_sees c p x room s k)
    one_step (exchange.block h d) a n = block_step h d (n refl) a
    one_step exchange.tick a n = passes a
    one_step exchange.put_out a n = same (n refl)
    one_step exchange.acknowledged a n = same (n refl)
    one_step exchange.failed a n = same (n refl)
    one_step (exchange.request r) a n = by_taken t m r a p Goes (incoming_taken s r) s (λ y o. took r a (n refl) y) (same (n refl))

    incoming_step : Goes ((next t m).incoming p)
    incoming_step = by_seen t m (incoming_sees c p) s Goes same one_step (λ a n. passes n)

    -- ticks since the last block kept are counted by a tick, and start with a block that is kept
    quiet_same : (Ticks t m → ⊥) → ((h d : List ℕ) → Began t m p h d → ⊥) → ((h d : List ℕ) → Continued t m p 21 h d → ⊥)
        → (y : incoming.Seen) → Goes y → y.quiet ≡ s.quiet
    quiet_same no_tick not_begun not_kept _ (same n) = refl
    quiet_same no_tick not_begun not_kept _ (passes n) = absurd (no_tick n)
    quiet_same no_tick not_begun not_kept _ (begins h d g) = absurd (not_begun h d g)
    quiet_same no_tick not_begun not_kept _ (keeps h d g) = absurd (not_kept h d g)
    quiet_same no_tick not_begun not_kept _ (spoils n h d i g) = refl
    quiet_same no_tick not_begun not_kept _ (frees f) = refl

    -- ---- and back

    -- a block, by the places that are found for it
    block_so : (h d : List ℕ) → GoesUp t m h d → (r o f : Option ℕ) → reply_for x.own (header_of h) ≡ r → message_for x.incoming (header_of h) ≡ o
        → new_for (header_of h) ≡ f
        → (next t m).incoming p ≡ sees_block r o f p (told_by (judge_of c x h d room).answer.note) s (header_of h) (length d)
    block_so h d g r o f er eo ef =
        seen_alone t m (incoming_sees c p) s (exchange.block h d) refl g
        ∙ (λ i. sees_block (er i) (eo i) (ef i) p (told_by (judge_of c x h d room).answer.note) s (header_of h) (length d))

    joined_so : (h d : List ℕ) → GoesUp t m h d → (r o : Option ℕ) → reply_for x.own (header_of h) ≡ r → message_for x.incoming (header_of h) ≡ o
        → (judge_of c x h d room).answer.note ≡ Kept
        → (next t m).joined.messages p ≡ (exchange.of_reply r o (open_alike x.incoming (header_of h)) (free_incoming x.incoming) t.joined d).messages p
    unfolding exchange.track
    joined_so h d g r o er eo ek =
        ap (λ (ks : List exchange.Call). (exchange.track c (exchange_track t room) ks).seen.messages p) (alone t m (exchange.block h d) refl g)
        ∙ (λ i. (exchange.if_kept (ek i) t.joined (exchange.of_reply (er i) (eo i) (open_alike x.incoming (header_of h)) (free_incoming x.incoming) t.joined d)).messages p)

    -- the place is chosen
    chosen_here : (y : incoming.Seen) → cond (eqb p p) y s ≡ y
    chosen_here y = ap (λ (z : Bool). cond z y s) (eq-eqb p p refl)

    -- note 21
    kept_here : (h d : List ℕ) → GoesUp t m h d → noted t m ≡ 21 → (judge_of c x h d room).answer.note ≡ Kept
    kept_here h d g e = kept_note (judge_of c x h d room).answer.note (sym (up_noted t m h d g) ∙ e)

    begun_so : (h d : List ℕ) → Began t m p h d
        → ((next t m).incoming p ≡ incoming.sees_first own.kept s (header_of h) (length d)) × ((next t m).joined.messages p ≡ d)
    begun_so h d g =
        let b = header_of h in
        let r = test.no_reply x four b g.no_reply in
        let o = test.no_message x four b g.no_message in
        let f = taken b g.place in
        let k = kept_here h d g.up g.note in (
          block_so h d g.up None None (Some p) r o f ∙ chosen_here _ ∙ ap (λ (z : Note). incoming.sees_first (told_by z) s b (length d)) k,
          joined_so h d g.up None None r o k ∙ new_joined (open_alike x.incoming b) (free_incoming x.incoming) p t.joined d f,
        )

    next_so : (n : ℕ) (h d : List ℕ) → Continued t m p n h d
        → (next t m).incoming p ≡ incoming.sees_next (told_by (judge_of c x h d room).answer.note) s (header_of h) (length d)
    next_so n h d g =
        let b = header_of h in
        block_so h d g.up None (Some p) (new_for b) (test.no_reply x four b g.no_reply) (test.lowest_message x four b p g.of_it) refl ∙ chosen_here _

    kept_so : (h d : List ℕ) → Continued t m p 21 h d
        → ((next t m).incoming p ≡ incoming.sees_next own.kept s (header_of h) (length d)) × ((next t m).joined.messages p ≡ t.joined.messages p ++ d)
    kept_so h d g =
        let b = header_of h in
        let k = kept_here h d g.up g.note in (
          next_so 21 h d g ∙ ap (λ (z : Note). incoming.sees_next (told_by z) s b (length d)) k,
          joined_so h d g.up None (Some p) (test.no_reply x four b g.no_reply) (test.lowest_message x four b p g.of_it) k
              ∙ anew_here t.joined.messages p (t.joined.messages p ++ d),
        )

    spoilt_so : (n : ℕ) (h d : List ℕ) → (n ≡ 26) ⊎ (n ≡ 27) → Continued t m p n h d → (next t m).incoming p ≡ incoming.sees_next own.spoilt s (header_of h) (length d)
    spoilt_so n h d i g =
        next_so n h d g
        ∙ ap (λ (a : own.Answer). incoming.sees_next a s (header_of h) (length d)) (spoilt_note (judge_of c x h d room).answer.note n i (sym (up_noted t m h d g.up) ∙ g.note))

pub incoming_seen : IncomingSeen
incoming_seen t w p k m =
    let look = incoming_sees (terms_in t) p in
    let s = t.incoming p in
    let one : TicksOne s (quieter s) = incoming_ticked (terms_in t) (incoming_place t.link.exchange p) s in
    record {
      one_of = incoming_step t w p k m;
      refused = seen_refused t m look s;
      ticked = seen_with t m look s exchange.tick (λ y. y ≡ quieter s) refl (λ a. refl);
      begun = begun_so t w p k m;
      kept = kept_so t w p k m;
      spoilt = spoilt_so t w p k m;
      released = λ f. seen_taken t m (freeing_incoming p) f look s p (freed_seen s) (named_at t m (freeing_incoming p) f) refl;
      ticks_one = seen_with t m look s exchange.tick (TicksOne s) one (λ a. one);
      begins_one = λ h d g.
          subst (λ y. BeginsOne y (header_of h) (length d)) (sym (begun_so t w p k m h d g).0)
          (record { begun = refl; kept = refl; bytes = refl; spoilt = refl; quiet = refl });
      continues_one = λ h d g.
          subst (λ y. ContinuesOne s y (header_of h) (length d)) (sym (kept_so t w p k m h d g).0)
          (record { begun = refl; kept = refl; bytes = refl; spoilt = refl; quiet = refl });
      breaks_one = λ n h d i g.
          subst (BreaksOne s) (sym (spoilt_so t w p k m n h d i g)) (record { begun = refl; kept = refl; bytes = refl; spoilt = refl });
      quiet_kept = λ a b f. quiet_same t w p k m a b f ((next t m).incoming p) (incoming_step t w p k m);
    }
