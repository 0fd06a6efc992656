-- No place is read exactly of a free one, and a reply is owed exactly where the message wants one (`specs/Places.antt`). Assumes nothing.
use Rattle.std.specs.Prelude.{None}
use Prim.Native.Nat.{ℕ}
use mathlib.Core.Path.{◌≡◌, refl, ap}
use mathlib.Core.Bool.{true, false, false≢true, true≢false}
use mathlib.Core.List.{List}
use mathlib.Core.Logic.{◌↔◌, ◌⊎◌, inl, inr, ⊎_elim}
use native.Mathlib.Omega.{arith}
use lib.Dec.{ltb}
use lib.ListN.{get_or, replicate, get_or-replicate, get_or-eq_default}
use borrow.Author.Tests.{ltb-true, ltb-false}
use Rattle.wire.proofs.Choice.{either, chosen}
use Rattle.header.specs.declared.header.Header.{Header}
use Rattle.place.specs.Own.{fresh_own, own_standing, standing_at}
use Rattle.place.specs.Incoming.{fresh_incoming}
use Rattle.place.specs.IncomingHistory.{nothing, shows_at, shows}
use Rattle.place.specs.IncomingTheorems.{is_complete}
use Rattle.place.specs.declared.End.TheVariants as end
use Rattle.place.specs.declared.Standing.TheVariants.{Free}
use Rattle.place.specs.declared.OwnStage.{OwnStage}
use Rattle.place.specs.declared.OwnStage.TheVariants as own
use Rattle.place.specs.declared.IncomingStage.{IncomingStage}
use Rattle.place.specs.declared.IncomingStage.TheVariants as incoming
use Rattle.exchange.specs.Exchange.{fresh_exchange, own_place, incoming_place}
use Rattle.exchange.specs.Reading.{own_reading, wanted, incoming_reading, stage_by}
use Rattle.exchange.specs.Underway.{none, way_at}
use Rattle.exchange.specs.Places.{NoPlaceExactly, OwedExactly, FreshExactly}
use Rattle.exchange.specs.declared.ReplyStage.{ReplyStage}
use Rattle.exchange.specs.declared.ReplyStage.TheVariants.{NotOwed, Owed}
use Rattle.exchange.proofs.Replies.{read_at}
use Rattle.exchange.proofs.Numbering.{read}

-- two that are told apart by their constructors
clash : {A : Type 0} → ◌≡◌ {A = ℕ} 0 1 → A
clash z = absurd (omega arith)

-- ---- no place

none_own : (h : List ℕ) (z : OwnStage) → (read (record { header = h; stage = z }) ≡ None) ↔ (standing_at z ≡ Free)
none_own h own.Free = (λ e. refl, λ e. refl)
none_own h own.Sending = (λ e. clash cc, λ e. clash cc)
none_own h own.PutOut = (λ e. clash cc, λ e. clash cc)
none_own h (own.Awaiting timer) = (λ e. clash cc, λ e. clash cc)
none_own h (own.Replying a) = (λ e. clash cc, λ e. clash cc)
none_own h (own.Done v r) = (λ e. clash cc, λ e. clash cc)

none_incoming : (h : Header) (z : IncomingStage) → (read_at z h ≡ None) ↔ (shows_at z ≡ nothing)
none_incoming h incoming.Free = (λ e. refl, λ e. refl)
none_incoming h (incoming.Open a) = (λ e. clash cc, λ e. clash cc)
none_incoming h (incoming.Complete n) = (λ e. clash cc, λ e. clash cc)
none_incoming h (incoming.Replying n) = (λ e. clash cc, λ e. clash cc)
none_incoming h (incoming.Replied n e) = (λ e. clash cc, λ e. clash cc)

pub no_place_exactly : NoPlaceExactly
unfolding own_reading incoming_reading
no_place_exactly x p =
    let o = own_place x p in
    let i = incoming_place x p in
    let own_so = none_own o.header o.stage in
    let incoming_so = none_incoming i.header i.stage in
    record {
      own = own_so;
      incoming = incoming_so;
      above = λ four past. (
        own_so.1 (ap own_standing (get_or-eq_default x.own fresh_own {n = p} (omega (arith, four.own)))),
        incoming_so.1 (ap shows (get_or-eq_default x.incoming fresh_incoming {n = p} (omega (arith, four.incoming)))),
      );
    }

-- ---- a reply that is owed

wanted_so : (h : Header) → (wanted h ≡ Owed) ↔ (h.w ≡ true)
unfolding wanted
wanted_so h = (λ e. chosen (λ (r : ReplyStage). r ≡ Owed → h.w ≡ true) h.w _ _ (λ w f. w) (λ w f. clash cc) e, λ w. rw w)

unwanted_so : (h : Header) → (wanted h ≡ NotOwed) ↔ (h.w ≡ false)
unfolding wanted
unwanted_so h = (λ e. chosen (λ (r : ReplyStage). r ≡ NotOwed → h.w ≡ false) h.w _ _ (λ w f. clash cc) (λ w f. w) e, λ w. rw w)

owed_at : (h : Header) (z : IncomingStage) → (stage_by (read_at z h) ≡ Owed) ↔ ((is_complete (shows_at z) ≡ true) × (h.w ≡ true) × (way_at z ≡ none))
owed_at h incoming.Free = (λ e. clash cc, λ k. absurd (false≢true k.0))
owed_at h (incoming.Open a) = (λ e. clash cc, λ k. absurd (false≢true k.0))
owed_at h (incoming.Complete n) = (λ e. (refl, (wanted_so h).0 e, refl), λ k. (wanted_so h).1 k.1)
owed_at h (incoming.Replying n) = (λ e. clash cc, λ k. let w = k.2 in clash cc)
owed_at h (incoming.Replied n end.Sent) = (λ e. clash cc, λ k. let w = k.2 in clash cc)
owed_at h (incoming.Replied n end.Failed) = (λ e. clash cc, λ k. let w = k.2 in clash cc)

not_owed_at :
    (h : Header) (z : IncomingStage) → (stage_by (read_at z h) ≡ NotOwed) ↔ ((is_complete (shows_at z) ≡ false) ⊎ ((h.w ≡ false) × (way_at z ≡ none)))
not_owed_at h incoming.Free = (λ e. inl refl, λ k. refl)
not_owed_at h (incoming.Open a) = (λ e. inl refl, λ k. refl)
not_owed_at h (incoming.Complete n) =
    (λ e. inr ((unwanted_so h).0 e, refl), ⊎_elim (λ f. absurd (true≢false f)) (λ k. (unwanted_so h).1 k.0))
not_owed_at h (incoming.Replying n) = (λ e. clash cc, ⊎_elim (λ f. absurd (true≢false f)) (λ k. let w = k.1 in clash cc))
not_owed_at h (incoming.Replied n end.Sent) = (λ e. clash cc, ⊎_elim (λ f. absurd (true≢false f)) (λ k. let w = k.1 in clash cc))
not_owed_at h (incoming.Replied n end.Failed) = (λ e. clash cc, ⊎_elim (λ f. absurd (true≢false f)) (λ k. let w = k.1 in clash cc))

pub owed_exactly : OwedExactly
unfolding incoming_reading
owed_exactly x p =
    let i = incoming_place x p in record { owed = owed_at i.header i.stage; not_owed = not_owed_at i.header i.stage }

-- ---- a start

-- each place of a fresh table is the fresh one, and so is what is read above it
all_fresh : {A : Type 0} (a : A) (p : ℕ) → get_or (replicate 4 a) p a ≡ a
all_fresh a p = either (ltb p 4) (λ t. get_or (replicate 4 a) p a ≡ a) (λ e. get_or-replicate 4 p a a (ltb-true p 4 e)) (λ e. get_or-eq_default (replicate 4 a) a {n = p} (ltb-false p 4 e))

pub fresh_exactly : FreshExactly
fresh_exactly last =
    let x = fresh_exchange last in
    record {
      fours = record { own = refl; incoming = refl };
      own = λ p. (no_place_exactly x p).own.1 (ap own_standing (all_fresh fresh_own p));
      incoming = λ p. (no_place_exactly x p).incoming.1 (ap shows (all_fresh fresh_incoming p));
      none_saved = refl;
      sending = refl;
      last = refl;
      latest = refl;
      none_waits = refl;
      none_dropped = refl;
    }
