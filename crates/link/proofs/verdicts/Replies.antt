-- Our reply in an incoming place is owed or on its way exactly when it should be, and keeps its end (`specs/Verdicts.antt`). Assumes nothing.
use Prim.Native.Nat.{ℕ, ◌<◌}
use mathlib.Core.Path.{◌≡◌, refl, sym, ap, ◌∙◌, subst}
use mathlib.Core.Bool.{Bool, true, false, false≢true, true≢false}
use mathlib.Core.Logic.{◌↔◌, ◌⊎◌, inl, inr, ⊎_elim}
use native.Mathlib.Omega.{arith}
use Rattle.wire.proofs.Choice.{either}
use Rattle.header.specs.declared.header.Header.{Header}
use Rattle.place.specs.Message.{first_of}
use Rattle.place.specs.Incoming.{primary_of, replied_at, incoming_is_replied}
use Rattle.place.specs.IncomingHistory.{shows_at, shows}
use Rattle.place.specs.IncomingTheorems as place
use Rattle.place.specs.declared.End.TheVariants as end
use Rattle.place.specs.declared.IncomingStage.{IncomingStage}
use Rattle.place.specs.declared.IncomingStage.TheVariants as stage
use Rattle.place.specs.declared.Incoming.{Incoming}
use Rattle.exchange.specs.Exchange.{incoming_place}
use Rattle.exchange.specs.Reading.{incoming_reading, stage_by, has_ended}
use Rattle.exchange.specs.Refusals.{NotReady, above, free, not_complete, on_its_way, RepliedBefore, replied}
use Rattle.exchange.specs.History as exchange
use Rattle.exchange.specs.Releases as side
use Rattle.exchange.specs.Underway.{Way, none, onway, sent, failed, way_at, way, way_of, is_onway, ReplyAt}
use Rattle.exchange.specs.Watching.{reply_from}
use Rattle.exchange.specs.declared.Exchange.{Exchange}
use Rattle.exchange.specs.declared.ReplyStage.{ReplyStage}
use Rattle.exchange.specs.declared.ReplyStage.TheVariants.{NotOwed, Owed, OnItsWay, Sent, Failed}
use Rattle.exchange.proofs.Releases.{end_stays}
use Rattle.exchange.proofs.Replies.{reply_read, reply_watched}
use Rattle.exchange.proofs.Places.{owed_exactly as owed_at}
use Rattle.link.specs.Reading.{incoming_of}
use Rattle.link.specs.History.{Track, terms_in, track}
use Rattle.link.specs.Verdicts.{AtEach, is_complete, reply_stands, OnItsWayExactly, Unanswered, Owes, OwedExactly, ReadyPlaces, EndStays, OneEnd}
use Rattle.link.specs.Inside.{Reached}
use Rattle.link.proofs.inside.Places.{exchange_inside}
use Rattle.link.proofs.verdicts.Messages.{read_as, here, reads, there_too, message_shown}
use Rattle.link.proofs.verdicts.Released.{KeptBut, stays_until}

-- ---- on its way exactly while it is being sent

pub reply_inside : AtEach (λ t p. ReplyAt p t.link.exchange (way (here t p)))
reply_inside t w p k =
    let r = (exchange_inside t w).reached in
    let y = reply_watched (terms_in t) r.last r.room r.whole r.calls p k in
    (refl, subst (λ (v : exchange.Track). is_onway (way (incoming_place v.exchange p)) ≡ reply_from v.exchange.sending p) r.so (ap is_onway y.0 ∙ y.1))

is_onway_lem : (r : ReplyStage) → is_onway (way_of r) ≡ true → r ≡ OnItsWay
is_onway_lem NotOwed e = absurd (false≢true e)
is_onway_lem Owed e = absurd (false≢true e)
is_onway_lem OnItsWay e = refl
is_onway_lem Sent e = absurd (false≢true e)
is_onway_lem Failed e = absurd (false≢true e)

pub on_its_way_exactly : OnItsWayExactly
on_its_way_exactly t w p k =
    let same = ap is_onway (reply_read t.link.exchange p).stands ∙ (reply_inside t w p k).1 in
    (λ e. sym same ∙ ap (λ (r : ReplyStage). is_onway (way_of r)) e, λ e. is_onway_lem (reply_stands t p) (same ∙ e))

-- ---- owed exactly where the message wants one

none_stands : (r : ReplyStage) → is_onway (way_of r) ≡ false → has_ended r ≡ false → way_of r ≡ none
none_stands NotOwed o e = refl
none_stands Owed o e = refl
none_stands OnItsWay o e = absurd (true≢false o)
none_stands Sent o e = absurd (true≢false e)
none_stands Failed o e = absurd (true≢false e)

-- what has an end is at it
abbrev at_end : Way → Bool
at_end none = false
at_end onway = false
at_end sent = true
at_end failed = true

ends_so : (r : ReplyStage) → has_ended r ≡ at_end (way_of r)
ends_so NotOwed = refl
ends_so Owed = refl
ends_so OnItsWay = refl
ends_so Sent = refl
ends_so Failed = refl

module _ (t : Track) (w : Reached t) (p : ℕ) (k : p < 4) where
  stands : way_of (reply_stands t p) ≡ way (here t p)
  stands = (reply_read t.link.exchange p).stands

  -- none was accepted
  unanswered : (way (here t p) ≡ none) ↔ Unanswered t p
  unanswered =
      let onway_so = (reply_inside t w p k).1 in (
        λ e. record { not_sent = sym onway_so ∙ ap is_onway e; no_end = ends_so (reply_stands t p) ∙ ap at_end (stands ∙ e) },
        λ u. sym stands ∙ none_stands (reply_stands t p) (ap is_onway stands ∙ onway_so ∙ u.not_sent) u.no_end,
      )

  -- a complete message asked for a reply by its first block
  asked : is_complete t p ≡ true → (primary_of (here t p)).w ≡ (first_of (t.incoming p).kept).w
  asked e =
      let there = there_too t p e in
      ap (λ (h : Header). h.w) (sym ((reads t p).header there) ∙ (message_shown t w p k there).header)

  owes : Owes t p
  owes =
      let x = owed_at t.link.exchange p in
      let done = (reads t p).complete in
      record {
        owed = (
          λ e. let y = x.owed.0 e in let c = done ∙ y.0 in (c, sym (asked c) ∙ y.1, unanswered.0 y.2),
          λ y. x.owed.1 (sym done ∙ y.0, asked y.0 ∙ y.1, unanswered.1 y.2),
        );
        not_owed = (
          λ e.
              either (is_complete t p) (λ z. (z ≡ false) ⊎ (((first_of (t.incoming p).kept).w ≡ false) × Unanswered t p))
              (λ c. ⊎_elim (λ f. absurd (true≢false (sym c ∙ done ∙ f))) (λ y. inr (sym (asked c) ∙ y.0, unanswered.0 y.1)) (x.not_owed.0 e))
              (λ c. inl refl),
          λ s.
              x.not_owed.1
              (⊎_elim (λ f. inl (sym done ∙ f))
              (λ y.
              either (is_complete t p) (λ z. (place.is_complete (shows (here t p)) ≡ false) ⊎ (((primary_of (here t p)).w ≡ false) × (way (here t p) ≡ none)))
              (λ c. inr (asked c ∙ y.0, unanswered.1 y.1))
              (λ c. inl (sym done ∙ c)))
              s),
        );
      }

pub owed_exactly : OwedExactly
owed_exactly t w p k = owes t w p k

-- ---- and it keeps its end

stays : (before after : Track) (p : ℕ) → here after p ≡ here before p → EndStays before after p
unfolding incoming_reading
stays before after p e =
    let r : incoming_of after.link p ≡ incoming_of before.link p = ap read_as e in
    record { place = e; read_of_it = r; shown = ap stage_by r }

-- any call but its release leaves the place so
module _ (t : Track) (p : ℕ) (k : p < 4) (e : has_ended (reply_stands t p) ≡ true) where
  abbrev Same : Exchange → Type 0
  Same x = incoming_place x p ≡ here t p

  same_on : KeptBut side.incoming p Same
  same_on c x room j f four same =
      end_stays c x room four.incoming p k (ap incoming_is_replied same ∙ sym (reply_read t.link.exchange p).ended ∙ e) j f ∙ same

pub one_end : OneEnd
one_end t w p k e ms us = stays t (track t ms) p (stays_until side.incoming p (Same t p k e) (same_on t p k e) t w ms us refl)

-- ---- what refusals 9, 10 and 11 go by is what is read

module _ (t : Track) (p : ℕ) where
  abbrev place_here : Incoming
  place_here = here t p

  open_stage : (z : IncomingStage) → place_here.stage ≡ z → place.is_complete (shows_at z) ≡ false → NotReady t.link.exchange p
  open_stage stage.Free e c = free e
  open_stage (stage.Open a) e c = not_complete a e
  open_stage (stage.Complete n) e c = absurd (true≢false c)
  open_stage (stage.Replying n) e c = absurd (true≢false c)
  open_stage (stage.Replied n f) e c = absurd (true≢false c)

  way_stage : (z : IncomingStage) → place_here.stage ≡ z → is_onway (way_at z) ≡ true → NotReady t.link.exchange p
  way_stage stage.Free e c = absurd (false≢true c)
  way_stage (stage.Open a) e c = absurd (false≢true c)
  way_stage (stage.Complete n) e c = absurd (false≢true c)
  way_stage (stage.Replying n) e c = on_its_way n e
  way_stage (stage.Replied n end.Sent) e c = absurd (false≢true c)
  way_stage (stage.Replied n end.Failed) e c = absurd (false≢true c)

  ended_stage : (z : IncomingStage) → place_here.stage ≡ z → replied_at z ≡ true → RepliedBefore t.link.exchange p
  ended_stage stage.Free e c = absurd (false≢true c)
  ended_stage (stage.Open a) e c = absurd (false≢true c)
  ended_stage (stage.Complete n) e c = absurd (false≢true c)
  ended_stage (stage.Replying n) e c = absurd (false≢true c)
  ended_stage (stage.Replied n f) e c = replied n f e

  -- as it is read
  reads_ready : NotReady t.link.exchange p → p < 4 → (is_complete t p ≡ false) ⊎ (reply_stands t p ≡ OnItsWay)
  reads_ready (above n) k = absurd (omega arith)
  reads_ready (free e) k = inl ((reads t p).complete ∙ ap (λ (z : IncomingStage). place.is_complete (shows_at z)) e)
  reads_ready (not_complete a e) k = inl ((reads t p).complete ∙ ap (λ (z : IncomingStage). place.is_complete (shows_at z)) e)
  reads_ready (on_its_way n e) k =
      inr (is_onway_lem (reply_stands t p) (ap is_onway (reply_read t.link.exchange p).stands ∙ ap (λ (z : IncomingStage). is_onway (way_at z)) e))

  reads_replied : RepliedBefore t.link.exchange p → has_ended (reply_stands t p) ≡ true
  reads_replied (replied n f e) = (reply_read t.link.exchange p).ended ∙ ap replied_at e

pub ready_places : ReadyPlaces
ready_places t p =
    let read_here = reply_read t.link.exchange p in
    record {
      not_ready_lem = λ k. (
        λ n. reads_ready t p n k,
        ⊎_elim (λ e. open_stage t p (here t p).stage refl (sym (reads t p).complete ∙ e))
            (λ e. way_stage t p (here t p).stage refl (sym (ap is_onway read_here.stands) ∙ ap (λ (r : ReplyStage). is_onway (way_of r)) e)),
      );
      not_wanted = λ there. let e = ap (λ (h : Header). h.w) ((reads t p).header there) in (λ n. e ∙ n, λ n. sym e ∙ n);
      replied = (reads_replied t p, λ e. ended_stage t p (here t p).stage refl (sym read_here.ended ∙ e));
    }
