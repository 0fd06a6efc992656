-- The test of a place's ranges is true exactly if each field is in its own (`specs/Range.antt`). Assumes nothing.
use Prim.Native.Nat.{ℕ, ◌≤◌}
use mathlib.Core.Path.{◌≡◌, refl}
use mathlib.Core.Bool.{true}
use mathlib.Core.Logic.{◌↔◌}
use lib.Dec.{leb}
use borrow.Author.Tests.{le-leb, leb-true}
use Rattle.wire.specs.Message.{message_limit, next_limit}
use Rattle.wire.proofs.Choice.{three}
use Rattle.place.specs.Range.{timer_in_range, length_in_range, arriving_in_range, own_stage_in_range, incoming_stage_in_range, ArrivingFits, OwnStageFits, IncomingStageFits, OwnFitsExactly, IncomingFitsExactly}
use Rattle.place.specs.declared.Arriving.{Arriving}
use Rattle.place.specs.declared.OwnStage.{OwnStage}
use Rattle.place.specs.declared.OwnStage.TheVariants as own
use Rattle.place.specs.declared.IncomingStage.{IncomingStage}
use Rattle.place.specs.declared.IncomingStage.TheVariants as incoming

-- a number
at_most : (n most : ℕ) → leb n most ≡ true ↔ (n ≤ most)
at_most n most = (leb-true n most, le-leb n most)

arriving_fits : (a : Arriving) → arriving_in_range a ≡ true ↔ ArrivingFits a
unfolding arriving_in_range timer_in_range length_in_range
arriving_fits a =
    let w = three (leb a.timer 1200) (leb a.next next_limit) (leb a.length message_limit) in (
      λ e.
          let b = w.0 e in
          record { timer_most = leb-true _ _ b.0; next_most = leb-true _ _ b.1; length_most = leb-true _ _ b.2 },
      λ f. w.1 (le-leb _ _ f.timer_most, le-leb _ _ f.next_most, le-leb _ _ f.length_most),
    )

own_stage : (s : OwnStage) → own_stage_in_range s ≡ true ↔ OwnStageFits s
unfolding timer_in_range length_in_range
own_stage own.Free = (λ e. tt, λ f. refl)
own_stage own.Sending = (λ e. tt, λ f. refl)
own_stage own.PutOut = (λ e. tt, λ f. refl)
own_stage (own.Awaiting timer) = at_most timer 1200
own_stage (own.Replying a) = arriving_fits a
own_stage (own.Done v r) = at_most r.length message_limit

incoming_stage : (s : IncomingStage) → incoming_stage_in_range s ≡ true ↔ IncomingStageFits s
unfolding length_in_range
incoming_stage incoming.Free = (λ e. tt, λ f. refl)
incoming_stage (incoming.Open a) = arriving_fits a
incoming_stage (incoming.Complete n) = at_most n message_limit
incoming_stage (incoming.Replying n) = at_most n message_limit
incoming_stage (incoming.Replied n e) = at_most n message_limit

pub own_fits_exactly : OwnFitsExactly
own_fits_exactly o = own_stage o.stage

pub incoming_fits_exactly : IncomingFitsExactly
incoming_fits_exactly i = incoming_stage i.stage
