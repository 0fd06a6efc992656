-- What a request leaves, refused or accepted (`specs/Refusals.antt`). Assumes nothing.
use Rattle.std.specs.Prelude.{Some, Ok, Err}
use Prim.Native.Nat.{ℕ}
use mathlib.Core.Path.{◌≡◌, refl, sym, ap, subst, ◌∙◌}
use mathlib.Core.Bool.{Bool, true, false, not, ◌&&◌, false≢true, true≢false}
use mathlib.Core.List.{List}
use mathlib.Core.Logic.{◌≢◌}
use native.Mathlib.Omega.{arith}
use lib.Dec.{ltb}
use lib.ListN.{length, get_or, set, get_or-eq_default}
use lib.Seq.{get_or-set_same, get_or-set_other}
use borrow.Author.Tests.{ltb-true, ltb-false}
use Rattle.wire.proofs.Choice.{either}
use Rattle.header.specs.Header.{header_bytes}
use Rattle.header.proofs.Headers.{header_and_back}
use Rattle.header.specs.declared.header.Header.{Header}
use Rattle.settings.specs.declared.terms.Terms.{Terms}
use Rattle.room.specs.declared.Message.TheVariants as message
use Rattle.room.proofs.Keeping.{keeps_only}
use Rattle.place.specs.Own.{primary_of as own_primary, fresh_own, standing_at, given_by, own_claimed, released_at as own_released_at, own_released, own_has_verdict}
use Rattle.place.specs.Incoming.{primary_of as incoming_primary, fresh_incoming, complete_at, replied_at, incoming_answered, released_at as incoming_released_at, incoming_released}
use Rattle.place.specs.declared.OwnStage.{OwnStage}
use Rattle.place.specs.declared.OwnStage.TheVariants as own
use Rattle.place.specs.declared.Own.{Own}
use Rattle.place.specs.declared.IncomingStage.{IncomingStage}
use Rattle.place.specs.declared.IncomingStage.TheVariants as incoming
use Rattle.place.specs.declared.Incoming.{Incoming}
use Rattle.exchange.specs.Exchange.{own_place, incoming_place, got_verdict, latest_after, put_own, put_incoming, with_sending}
use Rattle.exchange.specs.Send.{reply_to}
use Rattle.exchange.specs.Request.{refusal_number, asked_number, refused_by, refused, primary_header, not_ready, claimed_at, open_by, reply_accepted}
use Rattle.exchange.specs.Rules.{Fours, LowestAt}
use Rattle.exchange.specs.Refusals.{OwnFree, numbered, RefusedChangesNothing, FillsBy, AcceptedFills, RequestSpares, number_given, AsAsked, Opened, AcceptedOpens, RepliesTo, Replied, AcceptedReplies, OwnReleased, IncomingReleased, AcceptedReleases, AnswersAre}
use Rattle.exchange.specs.declared.Exchange.{Exchange}
use Rattle.exchange.specs.declared.Refusal.{Refusal}
use Rattle.exchange.specs.declared.Refusal.TheVariants as refusal
use Rattle.exchange.specs.declared.Primary.{Primary}
use Rattle.exchange.specs.declared.Outgoing.TheVariants as outgoing
use Rattle.exchange.proofs.Cases.{by_open, by_reply, by_free_own, by_free_incoming, by_request}
use Rattle.exchange.proofs.Refusing.{lowest_free}
use Rattle.exchange.specs.Asked.{Asked}

-- ---- what a request can come to

abbrev is_taken : Asked → Bool
is_taken (Ok p) = true
is_taken (Err r) = false

pub not_taken : {n : Refusal} {p : ℕ} → Err n ≡ Ok p → ⊥
not_taken e = false≢true (ap is_taken e)

-- the place that is taken; a refused request takes none
abbrev taken_at : Asked → ℕ
taken_at (Ok p) = p
taken_at (Err r) = 0

-- ---- refused

-- 5 to 11
no_zero : (r : Refusal) → refusal_number r ≢ 0
no_zero refusal.Message e = omega arith
no_zero refusal.DataLong e = omega arith
no_zero refusal.Sending e = omega arith
no_zero refusal.NoPlace e = omega arith
no_zero refusal.Place e = omega arith
no_zero refusal.NotWanted e = omega arith
no_zero refusal.Replied e = omega arith

pub refused_number : (a : Asked) (r : Refusal) → a ≡ Err r → asked_number a ≢ 0
refused_number a r e z = no_zero r (sym (ap asked_number e) ∙ z)

pub refused_changes_nothing : RefusedChangesNothing
unfolding refused refused_by reply_accepted
refused_changes_nothing c x r room =
    by_request c x room (λ r a. numbered a.answer ≢ 0 → (a.answer.exchange ≡ x) × (a.room ≡ room)) (λ r n z. (refl, refl))
    (λ q d p u e z. absurd (z refl)) (λ p f d u a b z. absurd (z refl)) (λ p e z. absurd (z refl)) (λ p e z. absurd (z refl)) r

-- ---- what is written

pub accepted_fills : AcceptedFills
unfolding refused refused_by reply_accepted
accepted_fills c x r room k =
    by_request c x room (λ r a. a.answer.asked ≡ Ok k → FillsBy r room a.room) (λ r n e. absurd (not_taken e))
    (λ q d p u e z. refl) (λ p f d u a b z. refl) (λ p e z. refl) (λ p e z. refl) r

pub request_spares : RequestSpares
unfolding refused reply_accepted
request_spares c x r room =
    by_request c x room (λ r a. length a.room ≡ length room) (λ r n. refl)
    (λ q d p u e. (keeps_only room message.Send 0 d).size) (λ p f d u a b. (keeps_only room message.Send 0 d).size) (λ p e. refl) (λ p e. refl) r

-- ---- a primary that is accepted

-- the header has what was asked for
as_asked : (c : Terms) (q : Primary) (size number : ℕ) → AsAsked c q size number (primary_header c q size number)
as_asked c q size number = record { r = refl; device = refl; w = refl; stream = refl; function = refl; system = refl; number = refl; e = refl }

-- a free place that is claimed
claimed : (o : Own) (h : List ℕ) → o.stage ≡ own.Free → own_claimed o h ≡ record { header = h; stage = own.Sending }
claimed o h e = rw e

pub opened :
    (c : Terms) (x : Exchange) (q : Primary) (d room : List ℕ) → Fours x → (p : ℕ) → LowestAt (OwnFree x) p
    → Opened c x q d room p (open_by (Some p) c x q d room).answer.exchange (open_by (Some p) c x q d room).room
unfolding claimed_at
opened c x q d room four p w = record {
  lowest = w;
  header = primary_header c q (length d) (number_given x);
  as_asked = as_asked c q (length d) (number_given x);
  place = place;
  sending = refl;
  outgoing = λ range. ap (λ (o : Own). outgoing.Message (own_primary o) (length d)) place ∙ ap (λ (h : Header). outgoing.Message h (length d)) (header_and_back _ range);
  last = refl;
  kept = refl;
  others = λ k n. get_or-set_other x.own p k _ fresh_own n;
  incoming = refl;
  saved = refl;
  latest = refl;
  reports = refl;
}
  where
    bytes : List ℕ
    bytes = header_bytes (primary_header c q (length d) (number_given x))

    place : own_place (open_by (Some p) c x q d room).answer.exchange p ≡ record { header = header_bytes (primary_header c q (length d) (number_given x)); stage = own.Sending }
    place = get_or-set_same x.own p (own_claimed (own_place x p) bytes) fresh_own (omega (arith, w.within, four.own)) ∙ claimed (own_place x p) bytes w.so

pub accepted_opens : AcceptedOpens
unfolding refused refused_by
accepted_opens c x q d room four p =
    by_open x room (λ a. a.answer.asked ≡ Ok p → Opened c x q d room p a.answer.exchange a.room)
    (λ r e. absurd (not_taken e)) c q d
    (λ k u s e.
    subst (λ (j : ℕ). Opened c x q d room j (open_by (Some k) c x q d room).answer.exchange (open_by (Some k) c x q d room).room) (ap taken_at e)
    (opened c x q d room four k ((lowest_free x four k).0 s)))

-- ---- a reply that is accepted

-- its header
replies_to : (h : Header) (f : ℕ) → RepliesTo h f (reply_to h f)
replies_to h f = record { r = refl; device = refl; w = refl; stream = refl; function = refl; system = refl; number = refl; e = refl }

-- a message that is complete, and what an accepted reply makes of it
pub record Complete (i : Incoming) : Type 0 where
  pub size : ℕ
  pub was : i.stage ≡ incoming.Complete size
  pub becomes : incoming_answered i ≡ record { header = i.header; stage = incoming.Replying size }

pub complete_at_lem : (s : IncomingStage) (i : Incoming) → i.stage ≡ s → not (complete_at s) && not (replied_at s) ≡ false → replied_at s ≡ false → Complete i
complete_at_lem incoming.Free i e t n = absurd (true≢false t)
complete_at_lem (incoming.Open a) i e t n = absurd (true≢false t)
complete_at_lem (incoming.Complete k) i e t n = record { size = k; was = e; becomes = rw e }
complete_at_lem (incoming.Replying k) i e t n = absurd (true≢false t)
complete_at_lem (incoming.Replied k f) i e t n = absurd (true≢false n)

-- a place that is not what stands for one outside is in the table, and can be put anew
put_there : {A : Type 0} (l : List A) (p : ℕ) (d a : A) → (get_or l p d ≡ d → ⊥) → get_or (set l p a) p d ≡ a
put_there l p d a used =
    either (ltb p (length l)) (λ t. get_or (set l p a) p d ≡ a) (λ e. get_or-set_same l p a d (ltb-true _ _ e))
    (λ e. absurd (used (get_or-eq_default l d {n = p} (ltb-false _ _ e))))

reply_there :
    (x : Exchange) (p f : ℕ) (d room : List ℕ) → Complete (incoming_place x p)
    → Replied x p f d room p (reply_accepted x p f d room).answer.exchange (reply_accepted x p f d room).room
unfolding reply_accepted with_sending put_incoming
reply_there x p f d room k = record {
  same = refl;
  size = k.size;
  was = k.was;
  place = place;
  sending = refl;
  header = reply_to (incoming_primary (incoming_place x p)) f;
  replies_to = replies_to (incoming_primary (incoming_place x p)) f;
  outgoing = ap (λ (i : Incoming). outgoing.Message (reply_to (incoming_primary i) f) (length d)) place;
  kept = refl;
  others = λ j n. get_or-set_other x.incoming p j _ fresh_incoming n;
  own = refl;
  saved = refl;
  numbers = refl;
  reports = refl;
}
  where
    place : incoming_place (reply_accepted x p f d room).answer.exchange p ≡ record { header = (incoming_place x p).header; stage = incoming.Replying k.size }
    place =
        put_there x.incoming p fresh_incoming _ (λ e. true≢false (ap complete_at (sym k.was) ∙ ap (λ (i : Incoming). complete_at i.stage) e)) ∙ k.becomes

pub accepted_replies : AcceptedReplies
unfolding refused refused_by reply_accepted not_ready
accepted_replies c x p f d room k =
    by_reply x room (λ a. a.answer.asked ≡ Ok k → Replied x p f d room k a.answer.exchange a.room)
    (λ r e. absurd (not_taken e)) p f d
    (λ u ready new e.
    subst (λ (j : ℕ). Replied x p f d room j (reply_accepted x p f d room).answer.exchange (reply_accepted x p f d room).room) (ap taken_at e)
    (reply_there x p f d room (complete_at_lem (incoming_place x p).stage (incoming_place x p) refl ready new)))

-- ---- a release that is accepted

own_freed : (s : OwnStage) (o : Own) → given_by (standing_at s) ≡ true → (own_released_at s o).stage ≡ own.Free
own_freed own.Free o t = absurd (false≢true t)
own_freed own.Sending o t = absurd (false≢true t)
own_freed own.PutOut o t = absurd (false≢true t)
own_freed (own.Awaiting timer) o t = absurd (false≢true t)
own_freed (own.Replying a) o t = absurd (false≢true t)
own_freed (own.Done v r) o t = refl

incoming_freed : (s : IncomingStage) (i : Incoming) → not (complete_at s) && not (replied_at s) ≡ false → (incoming_released_at s i).stage ≡ incoming.Free
incoming_freed incoming.Free i t = absurd (true≢false t)
incoming_freed (incoming.Open a) i t = absurd (true≢false t)
incoming_freed (incoming.Complete n) i t = refl
incoming_freed (incoming.Replying n) i t = absurd (true≢false t)
incoming_freed (incoming.Replied n e) i t = refl

-- no verdict is got by a release
same_latest : (latest : ℕ) (o q : Own) → own_has_verdict o ≡ true → latest_after latest o q ≡ latest
unfolding latest_after got_verdict
same_latest latest o q t = rw t

pub own_released_lem : (x : Exchange) (p : ℕ) → own_has_verdict (own_place x p) ≡ true → OwnReleased x p p (put_own x p (own_released (own_place x p)))
unfolding put_own
own_released_lem x p t = record {
  same = refl;
  place = ap (λ (o : Own). o.stage) (put_there x.own p fresh_own _ (λ e. false≢true (sym (ap own_has_verdict e) ∙ t))) ∙ own_freed (own_place x p).stage (own_place x p) t;
  others = λ j n. get_or-set_other x.own p j _ fresh_own n;
  incoming = refl;
  saved = refl;
  numbers = λ k. record { last = x.numbers.last; latest = same_latest x.numbers.latest (own_place x p) (own_released (own_place x p)) t k };
  sending = refl;
  reports = refl;
}

incoming_released_lem : (x : Exchange) (p : ℕ) → not_ready (incoming_place x p) ≡ false → IncomingReleased x p p (put_incoming x p (incoming_released (incoming_place x p)))
unfolding put_incoming not_ready
incoming_released_lem x p t = record {
  same = refl;
  place = ap (λ (i : Incoming). i.stage) (put_there x.incoming p fresh_incoming _ (λ e. true≢false (sym (ap not_ready e) ∙ t))) ∙ incoming_freed (incoming_place x p).stage (incoming_place x p) t;
  others = λ j n. get_or-set_other x.incoming p j _ fresh_incoming n;
  own = refl;
  saved = refl;
  numbers = refl;
  sending = refl;
  reports = refl;
}

pub accepted_releases : AcceptedReleases
unfolding refused refused_by
accepted_releases = record {
  own = λ c x p room k.
      by_free_own x room (λ a. a.answer.asked ≡ Ok k → OwnReleased x p k a.answer.exchange) (λ r e. absurd (not_taken e)) p
      (λ t e. subst (λ (j : ℕ). OwnReleased x p j (put_own x p (own_released (own_place x p)))) (ap taken_at e) (own_released_lem x p t));
  incoming = λ c x p room k.
      by_free_incoming x room (λ a. a.answer.asked ≡ Ok k → IncomingReleased x p k a.answer.exchange) (λ r e. absurd (not_taken e)) p
      (λ t e. subst (λ (j : ℕ). IncomingReleased x p j (put_incoming x p (incoming_released (incoming_place x p)))) (ap taken_at e) (incoming_released_lem x p t));
}

pub answers_are : AnswersAre
answers_are = record {
  opens = λ c x q d room. refl;
  replies = λ c x p f d room. refl;
  frees_own = λ c x p room. refl;
  frees_incoming = λ c x p room. refl;
}
