-- After any calls each area begins with the data of the kept blocks joined. Assumes nothing.
use Prim.Native.Nat.{ℕ, ◌≤◌, ◌<◌}
use mathlib.Core.Path.{◌≡◌, refl, sym, ap, ◌∙◌, subst}
use mathlib.Core.Bool.{true, false≢true}
use mathlib.Core.List.{List, map, ◌++◌}
use native.Mathlib.Omega.{arith}
use lib.Dec.{ltb}
use lib.ListN.{length, get_or, set, replicate, length-map, length-set, get_or-replicate, get_or-eq_default}
use borrow.Author.Tests.{eq-eqb, ne_eqb, ltb-true, ltb-false}
use Rattle.wire.proofs.Choice.{either}
use Rattle.header.specs.declared.header.Header.{Header}
use Rattle.room.specs.declared.Message.{Message}
use Rattle.room.specs.declared.Message.TheVariants as message
use Rattle.place.specs.Own.{ended, own_kept, own_takes, replied_by, replied, own_offered}
use Rattle.place.specs.Incoming.{incoming_length, incoming_takes, kept_by, goes_on, incoming_offered}
use Rattle.place.proofs.Messages.{by_fate}
use Rattle.place.specs.Fate.{fate_of}
use Rattle.place.specs.declared.Fate.{Fate}
use Rattle.place.specs.declared.Own.{Own}
use Rattle.place.specs.declared.Incoming.{Incoming}
use Rattle.exchange.specs.Note.{note_by}
use Rattle.exchange.specs.Exchange.{own_place, incoming_place, put_own, put_incoming, with_sending, put_replied, saved_now}
use Rattle.exchange.specs.Reports.{with_outbox}
use Rattle.exchange.specs.Judge.{keep_by}
use Rattle.exchange.specs.History.{Joined, anew, if_kept}
use Rattle.exchange.specs.Releases.{Side}
use Rattle.exchange.specs.Releases as side
use Rattle.exchange.proofs.Cases.{by_behind}
use Rattle.exchange.proofs.Tables.{set_every, map_every}
use Rattle.exchange.proofs.Sides.{Place, fresh}
use Rattle.exchange.proofs.Filling.{Spares, spares_same, spares_kept, fills_more}
use Rattle.exchange.proofs.Holding.{Holds, area, SendHolds, spared, send_spared, own_has, incoming_has}
use Rattle.exchange.specs.declared.Sending.{Sending}
use Rattle.exchange.specs.declared.Outbox.{Outbox}
use Rattle.exchange.specs.declared.Exchange.{Exchange}

-- ---- one side

-- each area holds the data joined for its place
pub record Filled (z : Side) (l : List (Place z)) (room : List ℕ) (f : ℕ → List ℕ) : Type 0 where
  pub four : length l ≡ 4
  pub each : (p : ℕ) → p < 4 → Holds z room p (get_or l p (fresh z)) (f p)

-- a free place holds nothing
holds_free : (z : Side) (room : List ℕ) (p : ℕ) (bs : List ℕ) → Holds z room p (fresh z) bs
holds_free side.own room p bs = tt
holds_free side.incoming room p bs = tt

pub all_free : (z : Side) (room : List ℕ) (f : ℕ → List ℕ) → Filled z (replicate 4 (fresh z)) room f
all_free z room f = record { four = refl; each = λ p k. rw (get_or-replicate 4 p (fresh z) (fresh z) k) (holds_free z room p (f p)) }

-- each place has an area of its own
one_area : (z : Side) (p q : ℕ) → area z q ≡ area z p → p ≡ q
one_area side.own p q e = cc
one_area side.incoming p q e = cc

module _ {z : Side} {l : List (Place z)} {room : List ℕ} {f : ℕ → List ℕ} (g : Filled z l room f) where
  -- also that of a place outside the table, which is as a free one
  pub any : (p : ℕ) → Holds z room p (get_or l p (fresh z)) (f p)
  any p =
      either (ltb p 4) (λ t. Holds z room p (get_or l p (fresh z)) (f p)) (λ e. g.each p (ltb-true p 4 e))
      (λ e.
      let out : length l ≤ p = omega (arith, ltb-false p 4 e, g.four) in
      rw (get_or-eq_default l (fresh z) out) (holds_free z room p (f p)))

  -- each place is put anew
  pub every : (h : Place z → Place z) → h (fresh z) ≡ fresh z → ((p : ℕ) (o : Place z) (bs : List ℕ) → Holds z room p o bs → Holds z room p (h o) bs)
      → Filled z (map h l) room f
  every h e w = record {
    four = length-map l h ∙ g.four;
    each = λ p k. map_every (λ p (o : Place z). Holds z room p o (f p)) h l (fresh z) e (λ p o. w p o (f p)) p (g.each p k);
  }

  -- an area elsewhere is written
  elsewhere : {after : List ℕ} {m : Message} → Spares room after m → ((p : ℕ) → m ≡ area z p → ⊥) → Filled z l after f
  elsewhere {after} {m} sp ne = record { four = g.four; each = λ p k. spared room after m sp z p k (ne p) (get_or l p (fresh z)) (f p) (g.each p k) }

  -- place q is put anew, and no area but its own is written
  one : {after : List ℕ} (q : ℕ) (o : Place z) (h : ℕ → List ℕ) → Spares room after (area z q) → ((p : ℕ) → (p ≡ q → ⊥) → h p ≡ f p) → Holds z after q o (h q)
      → Filled z (set l q o) after h
  one {after} q o h sp same here = record {
    four = length-set l q o ∙ g.four;
    each = λ p k.
        set_every (λ p (a : Place z). Holds z after p a (h p)) l (fresh z) q o
        (λ p k ne.
        let j : p < 4 = omega (arith, g.four) in
        spared room after (area z q) sp z p j (λ e. ne (one_area z p q e)) (get_or l p (fresh z)) (h p)
        (subst (Holds z room p (get_or l p (fresh z))) (sym (same p ne)) (g.each p j)))
        here p (omega (arith, g.four));
  }

-- ---- both sides, and the message being sent

pub record Good (x : Exchange) (room : List ℕ) (s : Joined) : Type 0 where
  pub whole : length room ≡ 36864
  pub own : Filled side.own x.own room s.replies
  pub incoming : Filled side.incoming x.incoming room s.messages
  pub sends : SendHolds room x.sending s.outgoing

-- messages of different kinds are not the same
abbrev kind : Message → ℕ
kind (message.Reply p) = 0
kind (message.Incoming p) = 1
kind message.Send = 2

apart : (m o : Message) → (kind m ≡ kind o → ⊥) → m ≡ o → ⊥
apart m o ne e = ne (ap kind e)

-- the header is saved
pub saved_good : (x : Exchange) (h room : List ℕ) (s : Joined) → Good x room s → Good (saved_now x h) room s
unfolding saved_now
saved_good x h room s g = record { whole = g.whole; own = g.own; incoming = g.incoming; sends = g.sends }

-- a report is due, or starts: nothing of it lies in the room
pub boxed_good : (y : Exchange) (b : Outbox) (room : List ℕ) (s : Joined) → Good y room s → SendHolds room b.sending s.outgoing → Good (with_outbox y b) room s
boxed_good y b room s g w = record { whole = g.whole; own = g.own; incoming = g.incoming; sends = w }

-- a place is put anew; of these places f is joined
abbrev pub put_in : (z : Side) → Exchange → ℕ → Place z → Exchange
put_in side.own = put_own
put_in side.incoming = put_incoming

abbrev joined_in : Side → Joined → ℕ → List ℕ
joined_in side.own s = s.replies
joined_in side.incoming s = s.messages

abbrev rejoined : Side → Joined → (ℕ → List ℕ) → Joined
rejoined side.own s f = record { replies = f; messages = s.messages; outgoing = s.outgoing }
rejoined side.incoming s f = record { replies = s.replies; messages = f; outgoing = s.outgoing }

-- place q's data anew, and no other's
pub anew_here : (f : ℕ → List ℕ) (q : ℕ) (bs : List ℕ) → anew f q bs q ≡ bs
anew_here f q bs = rw (eq-eqb q q refl)

anew_else : (f : ℕ → List ℕ) (q : ℕ) (bs : List ℕ) (p : ℕ) → (p ≡ q → ⊥) → anew f q bs p ≡ f p
anew_else f q bs p ne = rw (ne_eqb p q ne)

module _ (x : Exchange) (room : List ℕ) (s : Joined) (g : Good x room s) where
  -- no area but the place's own is written
  put : {after : List ℕ} (z : Side) (q : ℕ) (o : Place z) (f : ℕ → List ℕ) → Spares room after (area z q) → ((p : ℕ) → (p ≡ q → ⊥) → f p ≡ joined_in z s p)
      → Holds z after q o (f q) → Good (put_in z x q o) after (rejoined z s f)
  unfolding put_own put_incoming
  put side.own q o f sp same here = record {
    whole = sp.whole;
    own = one g.own q o f sp same here;
    incoming = elsewhere g.incoming sp (λ p. apart _ _ (λ e. omega arith));
    sends = send_spared room _ _ sp (apart _ _ (λ e. omega arith)) x.sending s.outgoing g.sends;
  }
  put side.incoming q i f sp same here = record {
    whole = sp.whole;
    own = elsewhere g.own sp (λ p. apart _ _ (λ e. omega arith));
    incoming = one g.incoming q i f sp same here;
    sends = send_spared room _ _ sp (apart _ _ (λ e. omega arith)) x.sending s.outgoing g.sends;
  }

  -- nothing is written, nor joined
  pub only : (z : Side) (p : ℕ) (o : Place z) → Holds z room p o (joined_in z s p) → Good (put_in z x p o) room (rejoined z s (joined_in z s))
  only z p o = put z p o (joined_in z s) (spares_same room (area z p) g.whole) (λ q ne. refl)

  -- bs is joined there
  pub joined : {after : List ℕ} (z : Side) (p : ℕ) (bs : List ℕ) (o : Place z) → Spares room after (area z p) → Holds z after p o bs
      → Good (put_in z x p o) after (rejoined z s (anew (joined_in z s) p bs))
  joined {after} z p bs o sp h = put z p o (anew (joined_in z s) p bs) sp (anew_else (joined_in z s) p bs) (subst (Holds z after p o) (sym (anew_here (joined_in z s) p bs)) h)

  -- another message is being sent, or none, and no area but the send area is written
  pub put_sending : {after : List ℕ} (q : Sending) (out : List ℕ) → Spares room after message.Send → SendHolds after q out
      → Good (with_sending x q) after (record { replies = s.replies; messages = s.messages; outgoing = out })
  unfolding with_sending
  put_sending q out sp here = record {
    whole = sp.whole;
    own = elsewhere g.own sp (λ p. apart _ _ (λ e. omega arith));
    incoming = elsewhere g.incoming sp (λ p. apart _ _ (λ e. omega arith));
    sends = here;
  }

-- a block of its reply puts a place anew: its primary is sent no more
pub replied_good : (x : Exchange) (p : ℕ) (o : Own) (room : List ℕ) (s : Joined) → Good (put_own x p o) room s → Good (put_replied x p o) room s
unfolding put_own put_replied with_sending
replied_good x p o room s g = record {
  whole = g.whole;
  own = g.own;
  incoming = g.incoming;
  sends = by_behind (λ z. SendHolds room z s.outgoing) x.sending p (λ e. tt) (λ e. g.sends);
}

-- ---- a block

-- a place that takes a block goes by its fate
pub offered_replied : (o : Own) (b : Header) (n : ℕ) → own_takes o b ≡ true → own_offered o b n ≡ replied_by o b (fate_of b (own_kept o).length n)
unfolding own_offered replied
offered_replied o b n t = rw t

pub offered_kept : (i : Incoming) (b : Header) (n : ℕ) → incoming_takes i b ≡ true → incoming_offered i b n ≡ kept_by i b (fate_of b (incoming_length i) n)
unfolding incoming_offered goes_on
offered_kept i b n t = rw t

module _ (x : Exchange) (room : List ℕ) (s : Joined) (g : Good x room s) (p : ℕ) (k : p < 4) (b : Header) (d : List ℕ) where
  abbrev Replied : Fate → Type 0
  Replied f =
      Good (put_own x p (replied_by (own_place x p) b f)) (keep_by f room (message.Reply p) (own_kept (own_place x p)).length d)
      (if_kept (note_by f) s (rejoined side.own s (anew s.replies p (s.replies p ++ d))))

  pub reply_joined : own_takes (own_place x p) b ≡ true → Replied (fate_of b (own_kept (own_place x p)).length (length d))
  unfolding ended
  reply_joined t =
      let o = own_place x p in
      let has = own_has room p (s.replies p) g.whole k b o.header o.stage t (g.own.each p k) in
      by_fate b (own_kept o).length (length d) Replied
      (λ l. only x room s g side.own p _ (λ e. absurd (false≢true e)))
      (λ l m. only x room s g side.own p _ (λ e. absurd (false≢true e)))
      (λ l e fits. joined x room s g side.own p (s.replies p ++ d) _ (spares_kept room (message.Reply p) (own_kept o).length d g.whole) (λ v. fills_more room (message.Reply p) (own_kept o).length (s.replies p) d g.whole k fits has))
      (λ l e fits some. joined x room s g side.own p (s.replies p ++ d) _ (spares_kept room (message.Reply p) (own_kept o).length d g.whole) (fills_more room (message.Reply p) (own_kept o).length (s.replies p) d g.whole k fits has))

  abbrev Continued : Fate → Type 0
  Continued f =
      Good (put_incoming x p (kept_by (incoming_place x p) b f)) (keep_by f room (message.Incoming p) (incoming_length (incoming_place x p)) d)
      (if_kept (note_by f) s (rejoined side.incoming s (anew s.messages p (s.messages p ++ d))))

  pub message_joined : incoming_takes (incoming_place x p) b ≡ true → Continued (fate_of b (incoming_length (incoming_place x p)) (length d))
  message_joined t =
      let i = incoming_place x p in
      let has = incoming_has room p (s.messages p) b i.header i.stage t (g.incoming.each p k) in
      by_fate b (incoming_length i) (length d) Continued
      (λ l. only x room s g side.incoming p _ tt)
      (λ l m. only x room s g side.incoming p _ tt)
      (λ l e fits. joined x room s g side.incoming p (s.messages p ++ d) _ (spares_kept room (message.Incoming p) (incoming_length i) d g.whole) (fills_more room (message.Incoming p) (incoming_length i) (s.messages p) d g.whole k fits has))
      (λ l e fits some. joined x room s g side.incoming p (s.messages p ++ d) _ (spares_kept room (message.Incoming p) (incoming_length i) d g.whole) (fills_more room (message.Incoming p) (incoming_length i) (s.messages p) d g.whole k fits has))
