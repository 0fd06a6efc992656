-- How our reply in an incoming place ends (`specs/Moves.antt`). Assumes nothing.
use Rattle.std.specs.Prelude.{Ok}
use Prim.Native.Nat.{ℕ, ◌<◌}
use mathlib.Core.Path.{◌≡◌, refl, sym, ap, ◌∙◌, subst}
use mathlib.Core.Bool.{Bool, true, false, cond, false≢true}
use mathlib.Core.List.{List}
use mathlib.Core.Logic.{◌↔◌, ◌⊎◌, inl, inr, ⊎_elim}
use Rattle.wire.proofs.Choice.{either}
use Rattle.exchange.specs.Request.{Request, primary, reply, freeing_own, freeing_incoming, answer_of}
use Rattle.exchange.specs.History as exchange
use Rattle.exchange.specs.Underway.{Way, none, onway, sent, failed, way, is_onway, way_of, way_taken, reply_sees, ReplyAt}
use Rattle.exchange.specs.Watching.{reply_from}
use Rattle.exchange.specs.declared.Exchange.{Exchange}
use Rattle.exchange.specs.declared.ReplyStage.{ReplyStage}
use Rattle.exchange.specs.declared.ReplyStage.TheVariants.{NotOwed, Owed, OnItsWay, Sent, Failed}
use Rattle.exchange.proofs.BeingSent.{request_sends}
use Rattle.exchange.proofs.Replies.{reply_read, nothing_replied, reply_watched_on}
use Rattle.exchange.proofs.Runs.{four_places, run_any}
use Rattle.link.specs.History.{Made, Track, exchange_track, terms_in, on_exchange_in, next}
use Rattle.link.specs.Inside.{Reached}
use Rattle.link.specs.Verdicts.{Tells, FreesIncoming, reply_stands}
use Rattle.link.specs.Moves.{Answers, ReplySent, ReplyLost, Comes, ReplyEnds}
use Rattle.link.proofs.inside.Places.{lent, goes, sound_inside}
use Rattle.link.proofs.verdicts.Taken.{request_taken}
use Rattle.link.proofs.verdicts.Messages.{here}
use Rattle.link.proofs.verdicts.Replies.{reply_inside}
use Rattle.link.proofs.moves.Seen.{by_seen, seen_of, seen_with, seen_alone, by_taken, seen_taken, taken_named, named_at}

-- ---- what is read of it

abbrev stage_of : Way → ReplyStage
stage_of none = NotOwed
stage_of onway = OnItsWay
stage_of sent = Sent
stage_of failed = Failed

-- of these three stages each is one way
abbrev is_none : Way → Bool
is_none none = true
is_none onway = false
is_none sent = false
is_none failed = false

one_way : (z : ReplyStage) → is_none (way_of z) ≡ false → z ≡ stage_of (way_of z)
one_way NotOwed e = absurd (false≢true (sym e))
one_way Owed e = absurd (false≢true (sym e))
one_way OnItsWay e = refl
one_way Sent e = refl
one_way Failed e = refl

-- and back
way_of_lem : (y : Way) → way_of (stage_of y) ≡ y
way_of_lem none = refl
way_of_lem onway = refl
way_of_lem sent = refl
way_of_lem failed = refl

read_way : (t : Track) (p : ℕ) (y : Way) → is_none y ≡ false → (reply_stands t p ≡ stage_of y) ↔ (way (here t p) ≡ y)
read_way t p y n =
    let stands = (reply_read t.link.exchange p).stands in (
      λ e. sym stands ∙ ap way_of e ∙ way_of_lem y,
      λ e. let z = stands ∙ e in one_way (reply_stands t p) (ap is_none z ∙ n) ∙ ap stage_of z,
    )

-- ---- all that a call can be to it

data WayStep (t : Track) (m : Made) (p : ℕ) : Way → Type 0 where
  same : WayStep t m p (way (here t p))
  answers : Answers t m p → WayStep t m p onway
  sends : ReplySent t m p → WayStep t m p sent
  loses : ReplyLost t m p → WayStep t m p failed
  frees : FreesIncoming t m p → WayStep t m p none

module _ (t : Track) (w : Reached t) (p : ℕ) (within : p < 4) (m : Made) where
  abbrev x : Exchange
  x = t.link.exchange

  abbrev s : Way
  s = way (here t p)

  abbrev look : Exchange → List ℕ → Way → exchange.Call → Way
  look = reply_sees (terms_in t) p

  abbrev Goes : Way → Type 0
  Goes = WayStep t m p

  -- by whether the message being sent is this reply
  either_sent : (y : Way) → (reply_from x.sending p ≡ true → Goes y) → Goes (cond (reply_from x.sending p) y s)
  either_sent y mine = either (reply_from x.sending p) (λ z. Goes (cond z y s)) mine (λ z. same)

  lost_step : Tells t m exchange.failed → Goes (cond (reply_from x.sending p) failed s)
  lost_step a = either_sent failed (λ o. loses (record { told = a; of_it = o }))

  -- by what was asked for, where it took this place
  took : (r : Request) → Tells t m (exchange.request r) → (answer_of (terms_in t) x r (lent t m)).answer.asked ≡ Ok p → Goes (way_taken s r)
  took (primary q d) a e = same
  took (reply q f d) a e =
      answers
      (record {
        function = f;
        rest = d;
        told = subst (λ i. Tells t m (exchange.request (reply i f d))) (sym (taken_named (terms_in t) x (lent t m) p (reply q f d) e)) a;
      })
  took (freeing_own q) a e = same
  took (freeing_incoming q) a e = frees (subst (λ i. Tells t m (exchange.request (freeing_incoming i))) (sym (taken_named (terms_in t) x (lent t m) p (freeing_incoming q) e)) a)

  one_step : (k : exchange.Call) → Tells t m k → Goes (look x (lent t m) s k)
  one_step (exchange.block h d) a = same
  one_step exchange.tick a = same
  one_step exchange.put_out a = same
  one_step exchange.acknowledged a = either_sent sent (λ o. sends (record { told = a; of_it = o }))
  one_step exchange.failed a = lost_step a
  one_step (exchange.request r) a = by_taken t m r a p Goes (way_taken s r) s (λ e o. took r a e) same

  way_step : Goes (seen_of t m look s (on_exchange_in t m))
  way_step = by_seen t m look s Goes (λ n. same) (λ k a n. one_step k a) (λ a n. lost_step a)

  -- it is how the place stands then
  way_next : way (here (next t m) p) ≡ seen_of t m look s (on_exchange_in t m)
  way_next =
      (subst (λ y. ReplyAt p y (seen_of t m look s (on_exchange_in t m))) (goes t m)
      (run_any (terms_in t) look (ReplyAt p) (λ y room z k a b. reply_watched_on (terms_in t) y room (four_places y a) p within z b k)
      (exchange_track t (lent t m)) s (on_exchange_in t m) (sound_inside t w) (reply_inside t w p within))).0

  -- ---- why it changed

  abbrev Reason : Way → Type 0
  Reason none = FreesIncoming t m p
  Reason onway = Answers t m p
  Reason sent = ReplySent t m p
  Reason failed = ReplyLost t m p

  why : (y : Way) → Goes y → (y ≡ s) ⊎ Reason y
  why _ same = inl refl
  why _ (answers a) = inr a
  why _ (sends a) = inr a
  why _ (loses a) = inr a
  why _ (frees a) = inr a

  comes : (y : Way) → is_none y ≡ false → Comes t m p (stage_of y) → Reason y
  comes y n b =
      let now = sym way_next ∙ (read_way (next t m) p y n).0 b.after in
      ⊎_elim (λ e. absurd (b.before ((read_way t p y n).1 (sym e ∙ now)))) (λ r. subst Reason now r) (why (seen_of t m look s (on_exchange_in t m)) way_step)

  -- ---- and what changes it

  -- it was at another way, and is at this one
  came : (y : Way) → is_none y ≡ false → (is_onway s ≡ is_onway y → ⊥) → seen_of t m look s (on_exchange_in t m) ≡ y → Comes t m p (stage_of y)
  came y n before now = record { before = λ e. before (ap is_onway ((read_way t p y n).0 e)); after = (read_way (next t m) p y n).1 (way_next ∙ now) }

  -- a reply is on its way exactly while it is being sent
  sent_onway : is_onway s ≡ reply_from x.sending p
  sent_onway = (reply_inside t w p within).1

  answers_so : Answers t m p → Comes t m p OnItsWay
  answers_so g =
      let r = reply p g.function g.rest in
      let y = request_taken t m r g.told in
      let idle = nothing_replied p x.sending ((request_sends (terms_in t) x r (lent t m)).starts y.place y.asked refl).before in
      came onway refl (λ e. false≢true (sym idle ∙ sym sent_onway ∙ e)) (seen_taken t m r g.told look s p onway (named_at t m r g.told) refl)

  -- a reply that was being sent
  ended : (y : Way) → is_none y ≡ false → is_onway y ≡ false → reply_from x.sending p ≡ true → seen_of t m look s (on_exchange_in t m) ≡ cond (reply_from x.sending p) y s
      → Comes t m p (stage_of y)
  ended y n o e now = came y n (λ z. false≢true (sym o ∙ sym z ∙ sent_onway ∙ e)) (now ∙ ap (λ (z : Bool). cond z y s) e)

  sent_so : ReplySent t m p → Comes t m p Sent
  sent_so g = ended sent refl refl g.of_it (seen_alone t m look s exchange.acknowledged refl g.told)

  -- a tick after that changes it no more
  lost_so : ReplyLost t m p → Comes t m p Failed
  lost_so g = ended failed refl refl g.of_it (seen_with t m look s exchange.failed (λ y. y ≡ cond (reply_from x.sending p) failed s) refl (λ a. refl) g.told)

pub reply_ends : ReplyEnds
reply_ends t w p k m = record {
  on_its_way = (comes t w p k m onway refl, answers_so t w p k m);
  sent = (comes t w p k m sent refl, sent_so t w p k m);
  failed = (comes t w p k m failed refl, lost_so t w p k m);
}
