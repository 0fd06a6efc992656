-- The numbers of an own place that was reached are in their ranges. Assumes nothing.
use Prim.Native.Nat.{ℕ, ◌≤◌}
use mathlib.Core.Path.{◌≡◌, refl}
use mathlib.Core.Bool.{true}
use mathlib.Core.List.{List}
use native.Mathlib.Omega.{arith}
use borrow.Author.Tests.{le-leb}
use Rattle.settings.specs.declared.terms.Terms.{Terms}
use Rattle.place.specs.Range.{timer_in_range, length_in_range, own_stage_in_range}
use Rattle.place.specs.OwnHistory.{Seen}
use Rattle.place.specs.OwnTheorems.{OwnReachedInRange}
use Rattle.place.proofs.Arrivals.{arriving_in_range_lem}
use Rattle.place.proofs.OwnInvariant.{At}
use Rattle.place.proofs.OwnAlways.{always}
use Rattle.place.specs.declared.OwnStage.{OwnStage}
use Rattle.place.specs.declared.OwnStage.TheVariants.{Free, Sending, PutOut, Awaiting, Replying, Done}

-- at each stage
within :
    (c : Terms) → c.t3.0 ≤ 1200 → c.t4.0 ≤ 1200 → (p : OwnStage) (h : List ℕ) (s : Seen) → At c p h s → own_stage_in_range p ≡ true
unfolding timer_in_range length_in_range
within c t3 t4 Free h s g = refl
within c t3 t4 Sending h s g = refl
within c t3 t4 PutOut h s g = refl
within c t3 t4 (Awaiting timer) h s g = le-leb timer 1200 (omega (arith, g.within))
within c t3 t4 (Replying a) h s g = arriving_in_range_lem c a _ g.arrives t4
within c t3 t4 (Done v r) h s g = le-leb _ _ g.room

pub own_reached_in_range : OwnReachedInRange
own_reached_in_range c t3 t4 t w = within c t3 t4 t.own.stage t.own.header t.seen (always c t w)
