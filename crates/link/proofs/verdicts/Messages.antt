-- Each incoming place's theorems, over the unit's calls (`specs/Verdicts.antt`). Assumes nothing.
use Rattle.std.specs.Prelude.{None, Option}
use Prim.Native.Nat.{ℕ, ◌<◌}
use mathlib.Core.Path.{◌≡◌, refl, sym, ap, ◌∙◌, subst}
use mathlib.Core.Bool.{Bool, true, false, cond, not, false≢true}
use mathlib.Core.List.{List}
use mathlib.Core.Logic.{◌↔◌, inl, inr, ⊎_elim}
use lib.ListN.{length}
use Rattle.wire.proofs.Choice.{either}
use Rattle.header.specs.declared.header.Header.{Header}
use Rattle.room.specs.declared.Message.TheVariants as message
use Rattle.place.specs.Incoming.{primary_of, length_at, incoming_length, incoming_is_free, incoming_is_open}
use Rattle.place.specs.IncomingHistory as incoming
use Rattle.place.specs.IncomingTheorems as place
use Rattle.place.proofs.Completing as proved
use Rattle.place.specs.declared.IncomingStage.{IncomingStage}
use Rattle.place.specs.declared.IncomingStage.TheVariants as stage
use Rattle.place.specs.declared.Incoming.{Incoming}
use Rattle.exchange.specs.Exchange.{incoming_place}
use Rattle.exchange.specs.Reading.{header_by, reply_stage, incoming_reading, reads_incoming}
use Rattle.exchange.specs.Request.{freeing_incoming}
use Rattle.exchange.specs.Releases.{SameMessage}
use Rattle.exchange.specs.Releases as side
use Rattle.exchange.specs.declared.Exchange.{Exchange}
use Rattle.exchange.specs.declared.IncomingReading.{IncomingReading}
use Rattle.exchange.proofs.Accepting.{accepted_releases}
use Rattle.exchange.proofs.Judging.{message_says}
use Rattle.exchange.proofs.Holding.{IncomingHolds}
use Rattle.exchange.proofs.Areas.{always}
use Rattle.exchange.proofs.Releases.{message_stays}
use Rattle.exchange.proofs.Places.{no_place_exactly}
use Rattle.link.specs.Reading.{incoming_of, message_by}
use Rattle.link.specs.History.{Track, exchange_track, terms_in, next, track}
use Rattle.link.specs.Verdicts.{there_by, complete_by, is_there, is_complete, CompleteExactly, TakesExactly, length_by, MessageShown, MessageStays, MessageKept, CompleteStays, MessageRead}
use Rattle.link.proofs.inside.Places.{lent, places_inside}
use Rattle.link.proofs.verdicts.Back.{exchange_back, fills_read}
use Rattle.link.proofs.verdicts.Released.{KeptBut, released_or_spared, stays_once, stays_until}
use Rattle.link.proofs.verdicts.Taken.{request_taken, request_leads}

-- ---- what is read

abbrev pub read_as : Incoming → Option IncomingReading
read_as i = cond (incoming_is_free i) None (reads_incoming (primary_of i) (incoming_length i) (not (incoming_is_open i)) (reply_stage i))

-- a place shows something
abbrev pub showing : incoming.Shows → Bool
showing incoming.nothing = false
showing incoming.arriving = true
showing incoming.complete = true
showing incoming.replying = true
showing (incoming.replied e) = true

-- of a place, what it shows: and its header and length, if there is a message
pub record Reads (r : Option IncomingReading) (i : Incoming) : Type 0 where
  pub there : there_by r ≡ showing (incoming.shows i)
  pub complete : complete_by r ≡ place.is_complete (incoming.shows i)
  pub header : there_by r ≡ true → header_by r ≡ primary_of i
  pub size : there_by r ≡ true → length_by r ≡ incoming_length i

abbrev at : Header → IncomingStage → Incoming
at h z = record { header = h; stage = z }

reads_at : (h : Header) (z : IncomingStage) → Reads (read_as (at h z)) (at h z)
reads_at h stage.Free = record { there = refl; complete = refl; header = λ e. absurd (false≢true e); size = λ e. absurd (false≢true e) }
reads_at h (stage.Open a) = record { there = refl; complete = refl; header = λ e. refl; size = λ e. refl }
reads_at h (stage.Complete n) = record { there = refl; complete = refl; header = λ e. refl; size = λ e. refl }
reads_at h (stage.Replying n) = record { there = refl; complete = refl; header = λ e. refl; size = λ e. refl }
reads_at h (stage.Replied n z) = record { there = refl; complete = refl; header = λ e. refl; size = λ e. refl }

abbrev pub here : Track → ℕ → Incoming
here t p = incoming_place t.link.exchange p

pub reads : (t : Track) (p : ℕ) → Reads (incoming_of t.link p) (here t p)
unfolding incoming_reading
reads t p = reads_at (here t p).header (here t p).stage

-- ---- what that says

none_shown : (s : incoming.Shows) → showing s ≡ false → s ≡ incoming.nothing
none_shown incoming.nothing e = refl
none_shown incoming.arriving e = absurd (false≢true (sym e))
none_shown incoming.complete e = absurd (false≢true (sym e))
none_shown incoming.replying e = absurd (false≢true (sym e))
none_shown (incoming.replied z) e = absurd (false≢true (sym e))

open_shown : (s : incoming.Shows) → showing s ≡ true → place.is_complete s ≡ false → s ≡ incoming.arriving
open_shown incoming.nothing e f = absurd (false≢true e)
open_shown incoming.arriving e f = refl
open_shown incoming.complete e f = absurd (false≢true (sym f))
open_shown incoming.replying e f = absurd (false≢true (sym f))
open_shown (incoming.replied z) e f = absurd (false≢true (sym f))

-- a complete message is there
complete_there : (s : incoming.Shows) → place.is_complete s ≡ true → showing s ≡ true
complete_there s e =
    either (showing s) (λ z. z ≡ true) (λ n. refl) (λ n. absurd (false≢true (sym (ap place.is_complete (none_shown s n)) ∙ e)))

both_ways : {A B C : Type 0} → A ↔ B → B ↔ C → A ↔ C
both_ways f g = (λ a. g.0 (f.0 a), λ c. f.1 (g.1 c))

module _ (t : Track) (p : ℕ) where
  abbrev shown : incoming.Shows
  shown = incoming.shows (here t p)

  pub none_read : (is_there t p ≡ false) ↔ (shown ≡ incoming.nothing)
  none_read = (λ e. none_shown shown (sym (reads t p).there ∙ e), λ e. (reads t p).there ∙ ap showing e)

  open_read : ((is_there t p ≡ true) × (is_complete t p ≡ false)) ↔ (shown ≡ incoming.arriving)
  open_read = (
    λ e. open_shown shown (sym (reads t p).there ∙ e.0) (sym (reads t p).complete ∙ e.1),
    λ e. ((reads t p).there ∙ ap showing e, (reads t p).complete ∙ ap place.is_complete e),
  )

  pub there_too : is_complete t p ≡ true → is_there t p ≡ true
  there_too e = (reads t p).there ∙ complete_there shown (sym (reads t p).complete ∙ e)

pub complete_exactly : CompleteExactly
complete_exactly t w p k =
    let x = proved.complete_exactly (terms_in t) _ ((places_inside t w).incoming p k) in
    record {
      whole = both_ways (λ e. sym (reads t p).complete ∙ e, λ e. (reads t p).complete ∙ e) x.whole;
      open_yet = both_ways (open_read t p) x.open_yet;
      none = both_ways (none_read t p) x.none;
      no_place = both_ways (no_place_exactly t.link.exchange p).incoming x.none;
    }

pub takes_exactly : TakesExactly
takes_exactly t w p k b =
    let x = proved.takes_exactly (terms_in t) _ ((places_inside t w).incoming p k) b in
    let s = message_says (here t p) b in
    let o = open_read t p in (
      λ m. let y = x.0 (s.1 m) in let z = o.1 y.0 in (z.0, z.1, y.1),
      λ y. s.0 (x.1 (o.0 (y.0, y.1), y.2)),
    )

pub message_shown : MessageShown
message_shown t w p k e =
    let x = proved.message_shown (terms_in t) _ ((places_inside t w).incoming p k) (λ n. false≢true (sym ((none_read t p).1 n) ∙ e)) in
    record { header = (reads t p).header e ∙ x.0; size = (reads t p).size e ∙ x.1 }

-- ---- the bytes of a message

module _ (room : List ℕ) (p : ℕ) (bs : List ℕ) (whole : length room ≡ 36864) (within : p < 4) where
  message_reads : (h : Header) (z : IncomingStage) → there_by (read_as (at h z)) ≡ true → IncomingHolds room p z bs
      → (message_by (read_as (at h z)) room p ≡ bs) × (length_at z ≡ length bs)
  message_reads h stage.Free e g = absurd (false≢true e)
  message_reads h (stage.Open a) e g = fills_read room (message.Incoming p) a.length bs whole within g
  message_reads h (stage.Complete n) e g = fills_read room (message.Incoming p) n bs whole within g
  message_reads h (stage.Replying n) e g = fills_read room (message.Incoming p) n bs whole within g
  message_reads h (stage.Replied n z) e g = fills_read room (message.Incoming p) n bs whole within g

pub message_read : MessageRead
unfolding incoming_reading
message_read t w p k e =
    let i = here t p in
    let g = always (terms_in t) (exchange_track t t.room) (exchange_back t w) in
    let y = message_reads t.room p (t.joined.messages p) g.whole k i.header i.stage e (g.incoming.each p k) in
    record { bytes = y.0; size = sym y.1 ∙ sym ((reads t p).size e) ∙ (message_shown t w.reached p k e).size }

-- ---- it stays

stays : (before after : Track) (p : ℕ) → is_complete before p ≡ true → SameMessage (here before p) (here after p) → MessageStays before after p
stays before after p e s =
    let done = (reads after p).complete ∙ s.complete in
    let was = there_too before p e in
    let is = there_too after p done in
    record {
      complete = done;
      header = (reads after p).header is ∙ s.header ∙ sym ((reads before p).header was);
      size = (reads after p).size is ∙ s.size ∙ sym ((reads before p).size was);
    }

-- any call but its release leaves it so
module _ (t : Track) (p : ℕ) (k : p < 4) where
  abbrev Same : Exchange → Type 0
  Same x = SameMessage (here t p) (incoming_place x p)

  same_on : KeptBut side.incoming p Same
  same_on c x room j f four same =
      let y = message_stays c x room four.incoming p k same.complete j f in
      record { complete = y.complete; header = y.header ∙ same.header; size = y.size ∙ same.size }

  same_here : is_complete t p ≡ true → Same t.link.exchange
  same_here e = record { complete = sym (reads t p).complete ∙ e; header = refl; size = refl }

pub complete_stays : CompleteStays
complete_stays t w p k e ms us =
    stays t (track t ms) p e (stays_until side.incoming p (Same t p k) (same_on t p k) t w ms us (same_here t p k e))

-- its release leaves the place free
pub message_kept : MessageKept
message_kept t w p k e m =
    ⊎_elim
    (λ f.
    let y = request_taken t m (freeing_incoming p) f in
    let gone = subst (λ (x : Exchange). (incoming_place x p).stage ≡ stage.Free) (request_leads t m (freeing_incoming p) f)
    (accepted_releases.incoming (terms_in t) t.link.exchange p (lent t m) y.place y.asked).place in
    inr (f, (none_read (next t m) p).1 (ap incoming.shows_at gone)))
    (λ s. inl (stays t (next t m) p e (stays_once side.incoming p (Same t p k) (same_on t p k) t w m s (same_here t p k e))))
    (released_or_spared side.incoming p t m)
