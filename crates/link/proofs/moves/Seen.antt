-- What comes of a call, by what it tells the transactions: nothing, one thing, or a send that failed and the tick that it failed on.
-- Assumes nothing.
use Rattle.std.specs.Prelude.{Ok}
use Prim.Native.Nat.{ℕ}
use mathlib.Core.Path.{◌≡◌, refl, sym, ap, ◌∙◌, subst}
use mathlib.Core.Bool.{Bool, true, false, cond, false≢true}
use mathlib.Core.List.{List, [], ◌∷◌}
use borrow.Author.Tests.{eqb-true, eq-eqb}
use Rattle.wire.proofs.Choice.{either}
use Rattle.settings.specs.declared.terms.Terms.{Terms}
use Rattle.exchange.specs.Request.{Request, primary, reply, freeing_own, freeing_incoming, refused_by, refused, reply_accepted, answer_of}
use Rattle.exchange.specs.History as exchange
use Rattle.exchange.specs.Watching.{taken_at, watch}
use Rattle.exchange.specs.declared.Exchange.{Exchange}
use Rattle.exchange.proofs.Accepting.{not_taken}
use Rattle.exchange.proofs.Cases.{by_request as by_asked}
use Rattle.exchange.proofs.Runs as Each
use Rattle.link.specs.History.{Made, Track, exchange_track, terms_in, answered, on_exchange_in, next}
use Rattle.link.specs.Inside.{ExchangeLeft}
use Rattle.link.specs.Verdicts.{Among, here, later, Tells}
use Rattle.link.specs.Moves.{Refused, Ticks}
use Rattle.link.specs.Device.{Few, none, one, lost_on_tick_lem}
use Rattle.link.specs.declared.Outcome.TheVariants as outcome
use Rattle.link.proofs.Cases.{answering}
use Rattle.link.proofs.device.Told.{each_among, few_told}
use Rattle.link.proofs.inside.Transactions.{exchange_goes}
use Rattle.link.proofs.inside.Places.{lent, goes}
use Rattle.link.proofs.Accepted.{refused_calls}
use Rattle.link.proofs.verdicts.Taken.{request_taken}
use Rattle.exchange.specs.Asked.{Asked}

-- ---- few calls of the transactions

by_few : (P : List exchange.Call → Type 0) → P [] → ((k : exchange.Call) → P (k ∷ [])) → P (exchange.failed ∷ exchange.tick ∷ [])
    → (ks : List exchange.Call) → Few ks → P ks
by_few P nothing alone lost _ none = nothing
by_few P nothing alone lost _ (one k) = alone k
by_few P nothing alone lost _ lost_on_tick_lem = lost

-- none is among none, and one among one
pub empty : {A : Type 0} {k : exchange.Call} → Among k [] → A
empty {A} {k} a = each_among (λ j. A) [] Each.none k a

pub only : (k j : exchange.Call) → Among k (j ∷ []) → k ≡ j
only k j a = each_among (λ i. i ≡ j) (j ∷ []) (Each.one_more refl Each.none) k a

-- these two can be told in one call
abbrev paired : exchange.Call → Bool
paired (exchange.block h d) = false
paired exchange.tick = true
paired exchange.put_out = false
paired exchange.acknowledged = false
paired exchange.failed = true
paired (exchange.request r) = false

-- 0.1 s passed
abbrev pub is_tick : exchange.Call → Bool
is_tick (exchange.block h d) = false
is_tick exchange.tick = true
is_tick exchange.put_out = false
is_tick exchange.acknowledged = false
is_tick exchange.failed = false
is_tick (exchange.request r) = false

-- ---- what a call tells

module _ (t : Track) (m : Made) where
  -- nothing, one thing, or both of these
  pub by_told : (P : List exchange.Call → Type 0) → (on_exchange_in t m ≡ [] → P []) → ((k : exchange.Call) → on_exchange_in t m ≡ k ∷ [] → P (k ∷ []))
      → (on_exchange_in t m ≡ exchange.failed ∷ exchange.tick ∷ [] → P (exchange.failed ∷ exchange.tick ∷ [])) → P (on_exchange_in t m)
  by_told P nothing alone both = by_few (λ ks. on_exchange_in t m ≡ ks → P ks) nothing alone both (on_exchange_in t m) (few_told t m) refl

  -- where this is told, it alone or both
  pub with_it : (k : exchange.Call) (P : List exchange.Call → Type 0) → P (k ∷ [])
      → (Among k (exchange.failed ∷ exchange.tick ∷ []) → P (exchange.failed ∷ exchange.tick ∷ [])) → Tells t m k → P (on_exchange_in t m)
  with_it k P alone both =
      by_few (λ ks. Among k ks → P ks) empty (λ j a. subst (λ i. P (i ∷ [])) (only k j a) alone) both (on_exchange_in t m) (few_told t m)

  -- it alone
  pub alone : (k : exchange.Call) → paired k ≡ false → Tells t m k → on_exchange_in t m ≡ k ∷ []
  alone k e =
      with_it k (λ ks. ks ≡ k ∷ []) refl
      (λ a.
      absurd (false≢true (sym e ∙ each_among (λ i. paired i ≡ true) (exchange.failed ∷ exchange.tick ∷ []) (Each.one_more refl (Each.one_more refl Each.none)) k a)))

-- ---- what is seen of it

module _ {S : Type 0} (t : Track) (m : Made) (look : Exchange → List ℕ → S → exchange.Call → S) (s : S) where
  -- after these calls
  abbrev pub seen_of : List exchange.Call → S
  seen_of ks = watch (terms_in t) look (exchange_track t (lent t m)) s ks

  -- where a send failed on a tick
  abbrev pub lost_on_tick : S
  lost_on_tick =
      let lost = exchange.called (terms_in t) t.link.exchange (lent t m) exchange.failed in
      look lost.exchange lost.room (look t.link.exchange (lent t m) s exchange.failed) exchange.tick

  -- whatever is told
  pub by_seen : (P : S → Type 0) → ((Ticks t m → ⊥) → P s)
      → ((k : exchange.Call) → Tells t m k → (is_tick k ≡ false → Ticks t m → ⊥) → P (look t.link.exchange (lent t m) s k))
      → (Tells t m exchange.failed → Ticks t m → P lost_on_tick) → P (seen_of (on_exchange_in t m))
  unfolding watch
  by_seen P nothing alone both =
      by_told t m (λ ks. P (seen_of ks)) (λ e. nothing (λ a. empty (subst (Among exchange.tick) e a)))
      (λ k e.
      alone k (subst (Among k) (sym e) here)
      (λ n a. false≢true (sym n ∙ sym (ap is_tick (only exchange.tick k (subst (Among exchange.tick) e a))))))
      (λ e. both (subst (Among exchange.failed) (sym e) here) (subst (Among exchange.tick) (sym e) (later here)))

  -- where this is told, with another or not
  pub seen_with : (k : exchange.Call) (P : S → Type 0) → P (look t.link.exchange (lent t m) s k)
      → (Among k (exchange.failed ∷ exchange.tick ∷ []) → P lost_on_tick) → Tells t m k → P (seen_of (on_exchange_in t m))
  unfolding watch
  seen_with k P alone both = with_it t m k (λ ks. P (seen_of ks)) alone both

  -- it alone
  pub seen_alone : (k : exchange.Call) → paired k ≡ false → Tells t m k → seen_of (on_exchange_in t m) ≡ look t.link.exchange (lent t m) s k
  unfolding watch
  seen_alone k e a = ap seen_of (alone t m k e a)

  pub seen_none : on_exchange_in t m ≡ [] → seen_of (on_exchange_in t m) ≡ s
  unfolding watch
  seen_none e = ap seen_of e

  pub seen_refused : Refused t m → seen_of (on_exchange_in t m) ≡ s
  seen_refused r = seen_none (refused_calls t m r)

-- ---- what becomes of the transactions

module _ (t : Track) (m : Made) where
  abbrev track_of : List exchange.Call → exchange.Track
  track_of ks = exchange.track (terms_in t) (exchange_track t (lent t m)) ks

  pub led_none : on_exchange_in t m ≡ [] → (next t m).link.exchange ≡ t.link.exchange
  unfolding exchange.track
  led_none e = sym (goes t m) ∙ ap (λ ks. (track_of ks).exchange) e

  pub led_alone : (k : exchange.Call) → paired k ≡ false → Tells t m k → ExchangeLeft (exchange.next (terms_in t) (exchange_track t (lent t m)) k) (answered t m)
  unfolding exchange.track
  led_alone k e a =
      let w = exchange_goes t.link (lent t m) m.out m.call t.joined in
      let same = alone t m k e a in
      record { exchange = sym (ap (λ ks. (track_of ks).exchange) same) ∙ w.exchange; room = sym (ap (λ ks. (track_of ks).room) same) ∙ w.room }

-- ---- a request that is told was taken

module _ (t : Track) (m : Made) (r : Request) (a : Tells t m (exchange.request r)) where
  -- it took place p, as the transactions and the unit answer, or another one
  pub by_taken : {S : Type 0} (p : ℕ) (P : S → Type 0) (y s : S)
      → ((answering t.link r (lent t m)).answer.asked ≡ Ok p → (answered t m).answer.outcome ≡ outcome.Taken p → P y) → P s
      → P (cond (taken_at (answering t.link r (lent t m)).answer.asked p) y s)
  by_taken p P y s mine other =
      let w = request_taken t m r a in
      either (taken_at (answering t.link r (lent t m)).answer.asked p) (λ z. P (cond z y s))
      (λ z. let e = eqb-true w.place p (sym (ap (λ (k : Asked). taken_at k p) w.asked) ∙ z) in mine (w.asked ∙ ap Ok e) (w.outcome ∙ ap outcome.Taken e))
      (λ z. other)

  -- and so its onlooker sees it
  pub seen_taken : {S : Type 0} (look : Exchange → List ℕ → S → exchange.Call → S) (s : S) (p : ℕ) (y : S) → (request_taken t m r a).place ≡ p
      → look t.link.exchange (lent t m) s (exchange.request r) ≡ cond (taken_at (answering t.link r (lent t m)).answer.asked p) y s
      → seen_of t m look s (on_exchange_in t m) ≡ y
  seen_taken look s p y e look_so =
      let w = request_taken t m r a in
      seen_alone t m look s (exchange.request r) refl a ∙ look_so
      ∙ ap (λ (z : Bool). cond z y s) (ap (λ (k : Asked). taken_at k p) w.asked ∙ eq-eqb w.place p e)

-- a reply and a release take the place that they name
abbrev pub Named : Request → ℕ → Type 0
Named (primary q d) p = Unit {0}
Named (reply q f d) p = p ≡ q
Named (freeing_own q) p = p ≡ q
Named (freeing_incoming q) p = p ≡ q

pub taken_named : (c : Terms) (x : Exchange) (room : List ℕ) (p : ℕ) (r : Request) → (answer_of c x r room).answer.asked ≡ Ok p → Named r p
unfolding refused refused_by reply_accepted
taken_named c x room p =
    by_asked c x room (λ r a. a.answer.asked ≡ Ok p → Named r p) (λ r n e. absurd (not_taken e)) (λ q d i u e z. tt) (λ q f d u a b z. cc) (λ q e z. cc)
    (λ q e z. cc)

pub named_at : (t : Track) (m : Made) (r : Request) (a : Tells t m (exchange.request r)) → Named r (request_taken t m r a).place
named_at t m r a = taken_named (terms_in t) t.link.exchange (lent t m) _ r (request_taken t m r a).asked
