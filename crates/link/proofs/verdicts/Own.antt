-- Each own place's theorems, over the unit's calls (`specs/Verdicts.antt`). Assumes nothing.
use Rattle.std.specs.Prelude.{None}
use Prim.Native.Nat.{ℕ, ◌<◌}
use mathlib.Core.Path.{◌≡◌, refl, sym, ap, ◌∙◌, subst}
use mathlib.Core.Bool.{true, cond, false≢true}
use mathlib.Core.List.{List}
use mathlib.Core.Logic.{◌↔◌, inl, inr, ⊎_elim}
use lib.ListN.{length}
use Rattle.header.specs.declared.header.Header.{Header}
use Rattle.room.specs.declared.Message.TheVariants as message
use Rattle.place.specs.Own.{primary_of, standing_at, own_standing, free_by, given_by, own_has_verdict, kept_at, own_kept}
use Rattle.place.specs.OwnHistory as own
use Rattle.place.specs.OwnTheorems as place
use Rattle.place.proofs.Blocks.{own_takes_exactly}
use Rattle.place.proofs.Verdicts as proved
use Rattle.place.proofs.Falling.{verdict_falls as falls}
use Rattle.place.specs.declared.Verdict.{Verdict}
use Rattle.place.specs.declared.Verdict.TheVariants.{Answered}
use Rattle.place.specs.declared.Standing.{Standing}
use Rattle.place.specs.declared.Standing.TheVariants.{Free, Open, Given}
use Rattle.place.specs.declared.Reply.{Reply}
use Rattle.place.specs.declared.Own.{Own}
use Rattle.place.specs.declared.OwnStage.{OwnStage}
use Rattle.place.specs.declared.OwnStage.TheVariants as stage
use Rattle.exchange.specs.Exchange.{own_place}
use Rattle.exchange.specs.Reading.{own_reading, reads_own}
use Rattle.exchange.specs.Request.{freeing_own}
use Rattle.exchange.specs.Releases as side
use Rattle.exchange.specs.declared.Exchange.{Exchange}
use Rattle.exchange.proofs.Accepting.{accepted_releases}
use Rattle.exchange.proofs.Holding.{OwnHolds}
use Rattle.exchange.proofs.Areas.{always}
use Rattle.exchange.proofs.Judging.{reply_says}
use Rattle.exchange.proofs.Numbering.{read}
use Rattle.exchange.proofs.Places.{no_place_exactly as places_read}
use Rattle.exchange.proofs.Releases.{verdict_stays}
use Rattle.exchange.proofs.Runs.{four_places}
use Rattle.link.specs.Reading.{own_of, reply_by}
use Rattle.link.specs.History.{Track, exchange_track, terms_in, next, track}
use Rattle.link.specs.Verdicts.{standing_by, standing, StandingRead, VerdictExactly, AnsweredExactly, FreeExactly, ReplyTakesExactly, NoPlaceExactly, NoneAbove, request_in, reply_in, RequestRead, ArrivingRead, WholeRead, NoReplyRead, ReplyRead, OwnStays, KeptUntilReleased, OneVerdict, Decided, VerdictFalls}
use Rattle.link.proofs.inside.Places.{lent, sound_inside, places_inside}
use Rattle.link.proofs.verdicts.Back.{exchange_back, fills_read}
use Rattle.link.proofs.verdicts.Released.{KeptBut, released_or_spared, stays_once, stays_until}
use Rattle.link.proofs.verdicts.Taken.{request_taken, request_leads}

-- ---- what is read

by_standing : (z : Standing) (h : Header) (r : Reply) → standing_by (cond (free_by z) None (reads_own h z r)) ≡ z
by_standing Free h r = refl
by_standing Open h r = refl
by_standing (Given v) h r = refl

pub standing_read : StandingRead
unfolding own_reading
standing_read t p = let o = own_place t.link.exchange p in by_standing (own_standing o) (primary_of o) (own_kept o)

-- what a place's theorem says of how it stands, a user reads
read_so : (t : Track) (p : ℕ) (P : Standing → Type 0) → P (own_standing (own_place t.link.exchange p)) → P (standing t p)
read_so t p P w = subst P (sym (standing_read t p)) w

-- a place in use is read with its request
in_use_lem : (z : Standing) (h : Header) (r : Reply) → (z ≡ Free → ⊥) → cond (free_by z) None (reads_own h z r) ≡ reads_own h z r
in_use_lem Free h r used = absurd (used refl)
in_use_lem Open h r used = refl
in_use_lem (Given v) h r used = refl

-- any place is read with its reply
by_stage : (h : List ℕ) (z : OwnStage) → reply_in (read (record { header = h; stage = z })) ≡ kept_at z
by_stage h stage.Free = refl
by_stage h stage.Sending = refl
by_stage h stage.PutOut = refl
by_stage h (stage.Awaiting timer) = refl
by_stage h (stage.Replying a) = refl
by_stage h (stage.Done v r) = refl

module _ (t : Track) (p : ℕ) where
  abbrev here : Own
  here = own_place t.link.exchange p

  reply_in_lem : reply_in (own_of t.link p) ≡ own_kept here
  unfolding own_reading
  reply_in_lem = by_stage here.header here.stage

  request_in_lem : (own_standing here ≡ Free → ⊥) → request_in (own_of t.link p) ≡ primary_of here
  unfolding own_reading
  request_in_lem used = ap request_in (in_use_lem (own_standing here) (primary_of here) (own_kept here) used)

pub request_read : RequestRead
request_read t w p k used =
    let inner : own_standing (own_place t.link.exchange p) ≡ Free → ⊥ = λ f. used (standing_read t p ∙ f) in
    request_in_lem t p inner ∙ proved.request_shown (terms_in t) _ ((places_inside t w).own p k) inner

pub arriving_read : ArrivingRead
arriving_read t w p k a e some =
    subst (place.ReplyAsKept (t.own p)) (sym (reply_in_lem t p))
    (proved.arriving_shown (terms_in t) _ ((places_inside t w).own p k) a (sym (standing_read t p) ∙ e) some)

pub whole_read : WholeRead
whole_read t w p k v b e =
    let c = terms_in t in
    let inside = (places_inside t w).own p k in
    subst (place.ReplyAsKept (t.own p)) (sym (reply_in_lem t p))
    (proved.reply_shown c _ inside
    (proved.earned_whole c (t.own p) v ((proved.verdict_exactly c _ inside v).0 (sym (standing_read t p) ∙ e)) b))

pub no_reply_read : NoReplyRead
no_reply_read t w p k n =
    subst place.AllZeros (sym (reply_in_lem t p))
    (proved.nothing_shown (terms_in t) _ ((places_inside t w).own p k) (subst (place.NoneToShow (t.own p)) (standing_read t p) n))

-- ---- each verdict exactly when

pub verdict_exactly : VerdictExactly
verdict_exactly t w p k v =
    read_so t p (λ z. (z ≡ Given v) ↔ place.Earned (terms_in t) (t.own p) v) (proved.verdict_exactly (terms_in t) _ ((places_inside t w).own p k) v)

pub free_exactly : FreeExactly
free_exactly t w p k = read_so t p (λ z. (z ≡ Free) ↔ ((t.own p).request ≡ own.none)) (proved.free_exactly (terms_in t) _ ((places_inside t w).own p k))

pub no_place_exactly : NoPlaceExactly
no_place_exactly t w p k =
    let read_so = (places_read t.link.exchange p).own in
    let free = proved.free_exactly (terms_in t) _ ((places_inside t w).own p k) in
    (λ e. free.0 (read_so.0 e), λ e. read_so.1 (free.1 e))

pub none_above : NoneAbove
none_above t w p past = (places_read t.link.exchange p).above (four_places t.link.exchange (sound_inside t w)) past

pub answered_exactly : AnsweredExactly
answered_exactly t w p k =
    let v = verdict_exactly t w p k Answered in (
      λ e.
          let a = v.0 e in
          record { received = a.0.asked.received; wanted = a.0.asked.wanted; whole = a.0.whole; stream = a.1.stream; function = a.1.function },
      λ r.
          v.1
          (record { asked = record { received = r.received; wanted = r.wanted }; whole = r.whole }, record { stream = r.stream; function = r.function }),
    )

-- ---- which blocks are the reply's

pub reply_takes_exactly : ReplyTakesExactly
reply_takes_exactly t w p k b q =
    let inside = standing_read t p in
    let says = reply_says (own_place t.link.exchange p) b in
    let takes = own_takes_exactly (terms_in t) _ ((places_inside t w).own p k) b q in (
      λ r. let d = takes.0 (says.1 r) in (d.awaited, inside ∙ d.undecided, d.fits),
      λ y. says.0 (takes.1 (record { awaited = y.0; undecided = sym inside ∙ y.1; fits = y.2 })),
    )

-- ---- the bytes of a reply

-- no other stage shows a verdict
module _ (room : List ℕ) (p : ℕ) (bs : List ℕ) (whole : length room ≡ 36864) (within : p < 4) (v : Verdict) (b : place.on_reply v ≡ true) where
  reply_reads : (h : List ℕ) (z : OwnStage) → standing_at z ≡ Given v → OwnHolds room p z bs
      → (reply_by (read (record { header = h; stage = z })) room p ≡ bs) × ((kept_at z).length ≡ length bs)
  reply_reads h stage.Free e g = absurd (false≢true (ap given_by e))
  reply_reads h stage.Sending e g = absurd (false≢true (ap given_by e))
  reply_reads h stage.PutOut e g = absurd (false≢true (ap given_by e))
  reply_reads h (stage.Awaiting timer) e g = absurd (false≢true (ap given_by e))
  reply_reads h (stage.Replying a) e g = absurd (false≢true (ap given_by e))
  reply_reads h (stage.Done u r) e g =
      let z : u ≡ v = cc in
      fills_read room (message.Reply p) r.length bs whole within (g (ap place.on_reply z ∙ b))

pub reply_read : ReplyRead
unfolding own_reading
reply_read t w p k v b e =
    let c = terms_in t in
    let o = own_place t.link.exchange p in
    let g = always c (exchange_track t t.room) (exchange_back t w) in
    let given = sym (standing_read t p) ∙ e in
    let y = reply_reads t.room p (t.joined.replies p) g.whole k v b o.header o.stage given (g.own.each p k) in
    let shown = whole_read t w.reached p k v b e in
    record { as_kept = shown; bytes = y.0; size = sym y.1 ∙ ap (λ (r : Reply). r.length) (sym (reply_in_lem t p)) ∙ shown.length }

-- ---- one verdict

-- the place, and so what is read of it, is as it was
stays : (before after : Track) (p : ℕ) → own_place after.link.exchange p ≡ own_place before.link.exchange p → OwnStays before after p
unfolding own_reading
stays before after p e =
    let r : own_of after.link p ≡ own_of before.link p = ap read e in
    record { place = e; read_of_it = r; shown = ap standing_by r }

-- any call but its release leaves it so
module _ (t : Track) (p : ℕ) (k : p < 4) (v : Verdict) (e : standing t p ≡ Given v) where
  abbrev Same : Exchange → Type 0
  Same x = own_place x p ≡ own_place t.link.exchange p

  same_on : KeptBut side.own p Same
  same_on c x room j f four same = verdict_stays c x room four.own p k (ap own_has_verdict same ∙ ap given_by (sym (standing_read t p) ∙ e)) j f ∙ same

pub one_verdict : OneVerdict
one_verdict t w p k v e ms us = stays t (track t ms) p (stays_until side.own p (Same t p k v e) (same_on t p k v e) t w ms us refl)

-- its release leaves it free
pub kept_until_released : KeptUntilReleased
kept_until_released t w p k v e m =
    ⊎_elim
    (λ f.
    let y = request_taken t m (freeing_own p) f in
    let gone = subst (λ (x : Exchange). (own_place x p).stage ≡ stage.Free) (request_leads t m (freeing_own p) f)
    (accepted_releases.own (terms_in t) t.link.exchange p (lent t m) y.place y.asked).place in
    inr (f, standing_read (next t m) p ∙ ap standing_at gone))
    (λ s. inl (stays t (next t m) p (stays_once side.own p (Same t p k v e) (same_on t p k v e) t w m s refl)))
    (released_or_spared side.own p t m)

-- ---- in time

decided : (t : Track) (p : ℕ) → place.Decided (record { own = own_place t.link.exchange p; seen = t.own p }) → Decided t p
decided t p d = record { verdict = d.verdict; shown = standing_read t p ∙ d.shown }

pub verdict_falls : VerdictFalls
verdict_falls t w p k =
    let f = falls (terms_in t) _ ((places_inside t w).own p k) in
    record { by_limit = λ a n. decided t p (f.by_limit a n); by_silence = λ a e n. decided t p (f.by_silence a e n) }
