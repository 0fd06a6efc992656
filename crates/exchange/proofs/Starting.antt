-- What a cause, and a line that is freed, leave of the part of the state that a report touches (specs/Reports.antt): the last number given and
-- what is being sent stay, or this is over, or a report starts with the next number (02, request 2). So for every call that reports something.
-- Assumes nothing.
use Prim.Native.Nat.{ℕ}
use mathlib.Core.Path.{◌≡◌, refl, sym, ap, ◌∙◌}
use mathlib.Core.Bool.{false, true≢false}
use mathlib.Core.List.{List}
use lib.Dec.{eqb, ltb}
use Rattle.wire.proofs.Choice.{chosen}
use Rattle.settings.specs.declared.terms.Terms.{Terms}
use Rattle.place.specs.declared.Own.{Own}
use Rattle.table.specs.Number.{next_number}
use Rattle.reports.specs.Reports.{waits_behind, drops, added, without_oldest, showing}
use Rattle.reports.specs.declared.Report.{Report}
use Rattle.reports.specs.declared.Reports.{Reports}
use Rattle.exchange.specs.Judge.{caused_by}
use Rattle.exchange.specs.Tick.{late_over}
use Rattle.exchange.specs.Request.{sending_by}
use Rattle.exchange.specs.Reports.{outbox_of, awaits, starts, without_first, freed_in}
use Rattle.exchange.specs.declared.Note.{Note}
use Rattle.exchange.specs.declared.Sending.{Sending}
use Rattle.exchange.specs.declared.Sending.TheVariants as sending
use Rattle.exchange.specs.declared.Outbox.{Outbox}
use Rattle.exchange.specs.declared.Exchange.{Exchange}
use Rattle.exchange.proofs.Unreported.{box_freed, box_judged, box_ticked}

-- a box goes from b to a, the own places and the number of the latest verdict being these
pub data Box (own : List Own) (latest : ℕ) (b a : Outbox) : Type 0 where
  -- the same is being sent, and a report on its way shows what it showed
  still : a.last ≡ b.last → a.sending ≡ b.sending → a.reports.shown ≡ b.reports.shown → Box own latest b a
  -- what was being sent is over, and no report starts
  over : a.last ≡ b.last → a.sending ≡ sending.Nothing → Box own latest b a
  -- report r starts: "a new transaction number, taken when the report starts"
  begins :
      (r : Report) → a.last ≡ next_number own b.last latest → a.sending ≡ sending.Report r.function a.last → a.reports.shown ≡ r.header
      → Box own latest b a

-- one that comes to wait, or is dropped, leaves what is shown
added_shows : (r : Reports) (new : Report) → (added r new).shown ≡ r.shown
unfolding added
added_shows r new = chosen (λ (s : Reports). s.shown ≡ r.shown) (ltb r.count 8) (waits_behind r new) (drops r) (λ e. refl) (λ e. refl)

-- what the places of y, and what waits there, make of a box that has gone from b
module _ (y : Exchange) (b : Outbox) where
  abbrev From : Outbox → Type 0
  From = Box y.own y.numbers.latest b

  waits_on : (a : Outbox) (r : Report) → From a → From (awaits a r)
  waits_on a r (still l s h) = still l s (added_shows a.reports r ∙ h)
  waits_on a r (over l s) = over l s
  waits_on a r (begins q l s h) = begins q l s (added_shows a.reports r ∙ h)

  oldest_on : (a : Outbox) → eqb a.reports.count 0 ≡ false → From a → From (without_first a)
  unfolding without_oldest
  oldest_on a e (still l s h) = still l s h
  oldest_on a e (over l s) = over l s
  oldest_on a e (begins q l s h) = begins q l s h

  -- while nothing is being sent one starts, so that none had started before
  starts_with : (a : Outbox) (r : Report) → a.last ≡ b.last → From (starts y.own y.numbers.latest a r)
  unfolding starts showing
  starts_with a r l = begins r (ap (λ (n : ℕ). next_number y.own n y.numbers.latest) l) refl refl

  starts_on : (a : Outbox) (r : Report) → sending_by a.sending ≡ false → From a → From (starts y.own y.numbers.latest a r)
  starts_on a r e (still l s h) = starts_with a r l
  starts_on a r e (over l s) = starts_with a r l
  starts_on a r e (begins q l s h) = absurd (true≢false (ap sending_by (sym s) ∙ e))

  -- the line is freed; a block is judged; T3 runs out at places, which were `os` before
  pub freed_on : (before : Sending) → From (outbox_of y) → From (freed_in before y)
  freed_on = box_freed y From waits_on starts_on oldest_on

  pub judged_on : (n : Note) (c : Terms) (before : Sending) (h : List ℕ) → From (outbox_of y) → From (caused_by n c y h (freed_in before y))
  judged_on = box_judged y From waits_on starts_on oldest_on

  pub ticked_on : (c : Terms) (os : List Own) → From (outbox_of y) → From (late_over c os y.own y.numbers.latest (outbox_of y))
  ticked_on = box_ticked y From waits_on starts_on oldest_on
