-- A tick at which no timer runs changes nothing. Assumes nothing.
use Prim.Native.Nat.{ℕ}
use mathlib.Core.Path.{◌≡◌, refl, sym, ap, ◌∙◌}
use mathlib.Core.Bool.{Bool, true, false, not, ◌||◌, false≢true}
use mathlib.Core.List.{List, [], ◌∷◌, map}
use lib.ListN.{length, get_or}
use Rattle.wire.proofs.Choice.{both}
use Rattle.settings.specs.declared.terms.Terms.{Terms}
use Rattle.place.specs.Own.{fresh_own, own_tick, own_has_verdict}
use Rattle.place.specs.Own as own_specs
use Rattle.place.specs.Incoming.{fresh_incoming, incoming_tick, incoming_is_open}
use Rattle.place.specs.Incoming as incoming_specs
use Rattle.place.specs.declared.OwnStage.{OwnStage}
use Rattle.place.specs.declared.OwnStage.TheVariants as own
use Rattle.place.specs.declared.Own.{Own}
use Rattle.place.specs.declared.IncomingStage.{IncomingStage}
use Rattle.place.specs.declared.IncomingStage.TheVariants as incoming
use Rattle.place.specs.declared.Incoming.{Incoming}
use Rattle.table.specs.Own.{own_at}
use Rattle.table.specs.Incoming.{incoming_at}
use Rattle.table.proofs.Fours.{map_four}
use Rattle.exchange.specs.Exchange.{got_verdict, latest_after}
use Rattle.exchange.specs.Reports.{with_outbox}
use Rattle.exchange.specs.Tick.{was_dropped, passed_of, got_no_reply, late_at, reports_late, timed_at, own_timed, owns_timed, incomings_timed, is_still, StillTick, late_over}
use Rattle.exchange.specs.Send.{unflagged}
use Rattle.exchange.specs.declared.Outbox.{Outbox}
use Rattle.exchange.specs.declared.Exchange.{Exchange}
use Rattle.exchange.proofs.Flagging.{stays}

-- ---- one place

own_still : (c : Terms) (o : Own) (s : OwnStage) → timed_at s ≡ false → own_specs.tick_at c s o ≡ o
own_still c o own.Free e = refl
own_still c o own.Sending e = refl
own_still c o own.PutOut e = refl
own_still c o (own.Awaiting timer) e = absurd (false≢true (sym e))
own_still c o (own.Replying a) e = absurd (false≢true (sym e))
own_still c o (own.Done v r) e = refl

incoming_still : (c : Terms) (i : Incoming) (s : IncomingStage) → incoming_specs.open_at s ≡ false → incoming_specs.tick_at c s i ≡ i
incoming_still c i incoming.Free e = refl
incoming_still c i (incoming.Open a) e = absurd (false≢true (sym e))
incoming_still c i (incoming.Complete n) e = refl
incoming_still c i (incoming.Replying n) e = refl
incoming_still c i (incoming.Replied n end) e = refl

own_place_still : (c : Terms) (o : Own) → own_timed o ≡ false → own_tick c o ≡ o
own_place_still c o e = own_still c o o.stage e

incoming_place_still : (c : Terms) (i : Incoming) → incoming_is_open i ≡ false → incoming_tick c i ≡ i
incoming_place_still c i e = incoming_still c i i.stage e

no_verdict : (o : Own) → got_verdict o o ≡ false
unfolding got_verdict
no_verdict o = stays (own_has_verdict o)

no_latest : (latest : ℕ) (o : Own) → latest_after latest o o ≡ latest
unfolding latest_after
no_latest latest o = rw (no_verdict o) refl

not_dropped : (i : Incoming) → incoming_is_open i ≡ false → was_dropped i i ≡ false
unfolding was_dropped
not_dropped i e = rw e refl

-- ---- four places

pub none_of : (a b : Bool) → a || b ≡ false → (a ≡ false) × (b ≡ false)
none_of true b e = absurd (false≢true (sym e))
none_of false b e = (refl, e)

false_of : (t : Bool) → not t ≡ true → t ≡ false
false_of true e = absurd (false≢true e)
false_of false e = refl

pub record Still (x : Exchange) : Type 0 where
  pub own0 : own_timed (own_at x.own 0) ≡ false
  pub own1 : own_timed (own_at x.own 1) ≡ false
  pub own2 : own_timed (own_at x.own 2) ≡ false
  pub own3 : own_timed (own_at x.own 3) ≡ false
  pub in0 : incoming_is_open (incoming_at x.incoming 0) ≡ false
  pub in1 : incoming_is_open (incoming_at x.incoming 1) ≡ false
  pub in2 : incoming_is_open (incoming_at x.incoming 2) ≡ false
  pub in3 : incoming_is_open (incoming_at x.incoming 3) ≡ false

still : (x : Exchange) → is_still x ≡ true → Still x
unfolding is_still owns_timed incomings_timed
still x e =
    let parts = (both (not (owns_timed x.own)) (not (incomings_timed x.incoming))).0 e in
    let os = x.own in
    let is = x.incoming in
    let a = none_of _ _ (false_of (owns_timed os) parts.0) in
    let b = none_of _ _ a.1 in
    let c = none_of _ _ b.1 in
    let p = none_of _ _ (false_of (incomings_timed is) parts.1) in
    let q = none_of _ _ p.1 in
    let r = none_of _ _ q.1 in
    record { own0 = a.0; own1 = b.0; own2 = c.0; own3 = c.1; in0 = p.0; in1 = q.0; in2 = r.0; in3 = r.1 }

-- the table is its four places
four_same : {A : Type 0} (d : A) (l : List A) → length l ≡ 4 → get_or l 0 d ∷ get_or l 1 d ∷ get_or l 2 d ∷ get_or l 3 d ∷ [] ≡ l
four_same d l e = map_four (λ x. x) d l e ∙ map_same l
  where
    map_same : {A : Type 0} (l : List A) → map (λ (x : A). x) l ≡ l
    map_same [] = refl
    map_same (x ∷ l) = ap (λ (k : List _). x ∷ k) (map_same l)

same_four : {A : Type 0} (f : A → A) (d : A) (l : List A) → length l ≡ 4 → f (get_or l 0 d) ≡ get_or l 0 d → f (get_or l 1 d) ≡ get_or l 1 d → f (get_or l 2 d) ≡ get_or l 2 d
    → f (get_or l 3 d) ≡ get_or l 3 d → map f l ≡ l
same_four f d l e p q r s = sym (map_four f d l e) ∙ rw (p, q, r, s) (four_same d l e)

-- what the places make of it
still_passed : (c : Terms) (x : Exchange) → length x.own ≡ 4 → length x.incoming ≡ 4 → is_still x ≡ true → passed_of c x ≡ unflagged x
unfolding passed_of
still_passed c x four fours e =
    let s = still x e in
    let os = x.own in
    let is = x.incoming in
    let own : map (own_tick c) os ≡ os =
    same_four (own_tick c) fresh_own os four (own_place_still c (own_at os 0) s.own0) (own_place_still c (own_at os 1) s.own1) (own_place_still c (own_at os 2) s.own2) (own_place_still c (own_at os 3) s.own3) in
    let inc : map (incoming_tick c) is ≡ is =
    same_four (incoming_tick c) fresh_incoming is fours (incoming_place_still c (incoming_at is 0) s.in0) (incoming_place_still c (incoming_at is 1) s.in1) (incoming_place_still c (incoming_at is 2) s.in2) (incoming_place_still c (incoming_at is 3) s.in3) in
    rw (own, inc)
    (simp (
      no_verdict (own_at os 0),
      no_verdict (own_at os 1),
      no_verdict (own_at os 2),
      no_verdict (own_at os 3),
      no_latest x.numbers.latest (own_at os 0),
      no_latest x.numbers.latest (own_at os 1),
      no_latest x.numbers.latest (own_at os 2),
      no_latest x.numbers.latest (own_at os 3),
      not_dropped (incoming_at is 0) s.in0,
      not_dropped (incoming_at is 1) s.in1,
      not_dropped (incoming_at is 2) s.in2,
      not_dropped (incoming_at is 3) s.in3,
    ))

-- a place that gets no verdict has nothing reported
pub not_late : (c : Terms) (os qs : List Own) (latest p : ℕ) (b : Outbox) → got_verdict (own_at os p) (own_at qs p) ≡ false → late_at c os qs latest p b ≡ b
unfolding late_at got_no_reply
not_late c os qs latest p b e = rw e refl

none_late : (c : Terms) (os : List Own) (latest p : ℕ) (b : Outbox) → late_at c os os latest p b ≡ b
none_late c os latest p b = not_late c os os latest p b (no_verdict (own_at os p))

pub still_tick : StillTick
unfolding late_over
still_tick c x four fours e =
    ap (reports_late c x) (still_passed c x four fours e)
    ∙ ap (λ (b : Outbox). unflagged (with_outbox x b))
    (none_late c x.own x.numbers.latest 3 _
    ∙ none_late c x.own x.numbers.latest 2 _
    ∙ none_late c x.own x.numbers.latest 1 _
    ∙ none_late c x.own x.numbers.latest 0 _)
