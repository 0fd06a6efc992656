-- What stays in a place until it is released (`specs/Releases.antt`). Assumes nothing.
use Prim.Native.Nat.{ℕ}
use mathlib.Core.Path.{◌≡◌, refl, sym}
use mathlib.Core.Bool.{true, false, false≢true}
use mathlib.Core.List.{List}
use Rattle.header.specs.declared.header.Header.{Header}
use Rattle.settings.specs.declared.terms.Terms.{Terms}
use Rattle.place.specs.Own.{standing_at, given_by, own_offered}
use Rattle.place.specs.OwnHistory as own
use Rattle.place.specs.OwnTheorems as owns
use Rattle.place.specs.Incoming.{replied_at, incoming_offered}
use Rattle.place.specs.IncomingHistory as incoming
use Rattle.place.specs.IncomingTheorems as incomings
use Rattle.place.proofs.Completing.{complete_stays}
use Rattle.place.specs.declared.OwnStage.{OwnStage}
use Rattle.place.specs.declared.OwnStage.TheVariants as stage
use Rattle.place.specs.declared.IncomingStage.{IncomingStage}
use Rattle.place.specs.declared.IncomingStage.TheVariants as arrival
use Rattle.exchange.specs.Exchange.{own_place, incoming_place}
use Rattle.exchange.specs.Request as request
use Rattle.exchange.specs.History as exchange
use Rattle.exchange.specs.Releases as side
use Rattle.exchange.specs.Releases.{Side, releases, frees, is_release, asks_release, LentExactly, VerdictStays, SameMessage, MessageStays, EndStays}
use Rattle.exchange.proofs.OneCall.{changed}

-- ---- a call that is no release

never : (r : request.Request) (z : Side) (p : ℕ) → is_release r ≡ false → releases r z p ≡ false
never (request.primary q d) z p e = refl
never (request.reply q f d) z p e = refl
never (request.freeing_own q) z p e = absurd (false≢true (sym e))
never (request.freeing_incoming q) z p e = absurd (false≢true (sym e))

pub never_frees : (z : Side) (p : ℕ) (k : exchange.Call) → asks_release k ≡ false → frees k z p ≡ false
never_frees z p (exchange.block h d) e = refl
never_frees z p exchange.tick e = refl
never_frees z p exchange.put_out e = refl
never_frees z p exchange.acknowledged e = refl
never_frees z p exchange.failed e = refl
never_frees z p (exchange.request r) e = never r z p e

-- ---- a call that lends

pub lent_exactly : LentExactly
lent_exactly (request.primary q d) = refl
lent_exactly (request.reply q f d) = refl
lent_exactly (request.freeing_own q) = refl
lent_exactly (request.freeing_incoming q) = refl

-- ---- events that change nothing

verdict_stays_at : (c : Terms) (h : List ℕ) (z : OwnStage) (e : own.Event c) → given_by (standing_at z) ≡ true → owns.spares e ≡ true
    → own.step (record { header = h; stage = z }) e ≡ record { header = h; stage = z }
unfolding own_offered
verdict_stays_at c h stage.Free e g i = absurd (false≢true g)
verdict_stays_at c h stage.Sending e g i = absurd (false≢true g)
verdict_stays_at c h stage.PutOut e g i = absurd (false≢true g)
verdict_stays_at c h (stage.Awaiting timer) e g i = absurd (false≢true g)
verdict_stays_at c h (stage.Replying a) e g i = absurd (false≢true g)
verdict_stays_at c h (stage.Done v r) (own.claim x) g i = refl
verdict_stays_at c h (stage.Done v r) own.put_out g i = refl
verdict_stays_at c h (stage.Done v r) own.sent g i = refl
verdict_stays_at c h (stage.Done v r) own.failed g i = refl
verdict_stays_at c h (stage.Done v r) own.tick g i = refl
verdict_stays_at c h (stage.Done v r) own.release g i = absurd (false≢true i)
verdict_stays_at c h (stage.Done v r) (own.block b size q) g i = refl

end_stays_at : (c : Terms) (h : Header) (z : IncomingStage) (e : incoming.Event c) → replied_at z ≡ true → incomings.spares e ≡ true
    → incoming.step (record { header = h; stage = z }) e ≡ record { header = h; stage = z }
unfolding incoming_offered
end_stays_at c h arrival.Free e g i = absurd (false≢true g)
end_stays_at c h (arrival.Open a) e g i = absurd (false≢true g)
end_stays_at c h (arrival.Complete n) e g i = absurd (false≢true g)
end_stays_at c h (arrival.Replying n) e g i = absurd (false≢true g)
end_stays_at c h (arrival.Replied n z) (incoming.begin b size q o) g i = refl
end_stays_at c h (arrival.Replied n z) (incoming.block b size q) g i = refl
end_stays_at c h (arrival.Replied n z) incoming.tick g i = refl
end_stays_at c h (arrival.Replied n z) incoming.answer g i = refl
end_stays_at c h (arrival.Replied n z) incoming.sent g i = refl
end_stays_at c h (arrival.Replied n z) incoming.failed g i = refl
end_stays_at c h (arrival.Replied n z) incoming.release g i = absurd (false≢true i)

-- ---- one call more

pub verdict_stays : VerdictStays
verdict_stays c x room four p within g =
    let o = own_place x p in changed side.own c x room four p within (λ z. z ≡ o) refl (λ e i. verdict_stays_at c o.header o.stage e g i)

pub message_stays : MessageStays
message_stays c x room four p within g =
    let i = incoming_place x p in
    changed side.incoming c x room four p within (SameMessage i) (record { complete = g; header = refl; size = refl })
    (λ e z. let y = (complete_stays c i).kept g e z in record { complete = y.0; header = y.1; size = y.2 })

pub end_stays : EndStays
end_stays c x room four p within g =
    let i = incoming_place x p in changed side.incoming c x room four p within (λ j. j ≡ i) refl (λ e z. end_stays_at c i.header i.stage e g z)
