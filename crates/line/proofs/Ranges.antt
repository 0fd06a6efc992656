-- The test of the ranges is true exactly if each number is in its own; those of a line that was reached are. Assumes nothing.
use Prim.Native.Nat.{ℕ, ◌≤◌}
use mathlib.Core.Path.{◌≡◌, refl}
use mathlib.Core.Bool.{true, ◌&&◌}
use mathlib.Core.Logic.{◌↔◌}
use native.Mathlib.Omega.{arith}
use lib.Dec.{leb}
use lib.ListN.{length}
use borrow.Author.Tests.{le-leb, leb-true}
use Rattle.wire.proofs.Choice.{both, three}
use Rattle.settings.specs.Panel.{between}
use Rattle.settings.proofs.Panels.{in_between}
use Rattle.settings.specs.Limits.{limits_of}
use Rattle.settings.specs.Theorems.{Fits}
use Rattle.line.specs.Range.{wait_in_range, arrival_in_range, body_in_range, phase_in_range, ArrivalFits, PhaseFits}
use Rattle.line.specs.Theorems.{RangeExactly, ReachedInRange}
use Rattle.line.proofs.Invariant.{At}
use Rattle.line.proofs.Always.{always}
use Rattle.line.specs.declared.phase.Arrival.{Arrival}
use Rattle.line.specs.declared.phase.Phase.{Phase}
use Rattle.line.specs.declared.phase.Phase.TheVariants.{Idle, WaitEot, Draining, WaitAck, WaitLength, Body, Silence}
use Rattle.settings.specs.declared.limits.Panel.{Panel}

two_most : (a b c d : ℕ) → leb a b && leb c d ≡ true ↔ ((a ≤ b) × (c ≤ d))
two_most a b c d =
    let w = both (leb a b) (leb c d) in
    (λ e. (leb-true a b (w.0 e).0, leb-true c d (w.0 e).1), λ f. w.1 (le-leb a b f.0, le-leb c d f.1))

arrival_fits : (timer : ℕ) (a : Arrival) → body_in_range timer a ≡ true ↔ ArrivalFits timer a
unfolding body_in_range arrival_in_range
arrival_fits timer a =
    let w = both (leb timer 100) (arrival_in_range a) in
    let v = three (between 10 a.length 254) (leb a.got 255) (leb a.sum 64770) in
    let n = in_between 10 a.length 254 in (
      λ e.
          let b = v.0 (w.0 e).1 in
          record {
            timer_most = leb-true timer 100 (w.0 e).0;
            length_least = (n.0 b.0).0;
            length_most = (n.0 b.0).1;
            got_most = leb-true a.got 255 b.1;
            sum_most = leb-true a.sum 64770 b.2;
          },
      λ f.
          w.1 (
            le-leb timer 100 f.timer_most,
            v.1 (n.1 (f.length_least, f.length_most), le-leb a.got 255 f.got_most, le-leb a.sum 64770 f.sum_most),
          ),
    )

phase_fits : (p : Phase) → phase_in_range p ≡ true ↔ PhaseFits p
unfolding wait_in_range
phase_fits Idle = (λ e. tt, λ f. refl)
phase_fits (WaitEot timer tries) = two_most timer 250 tries 31
phase_fits (Draining tries) = (leb-true tries 31, le-leb tries 31)
phase_fits (WaitAck timer tries) = two_most timer 250 tries 31
phase_fits (WaitLength timer) = (leb-true timer 250, le-leb timer 250)
phase_fits (Body timer a) = arrival_fits timer a
phase_fits (Silence timer fault) = (leb-true timer 100, le-leb timer 100)

pub range_exactly : RangeExactly
range_exactly l = phase_fits l.phase

within : (p : Panel) → Fits p → (ph : Phase) (w e r n q : ℕ) → At (limits_of p) ph w e r n q → PhaseFits ph
within p f Idle w e r n q g = tt
within p f (WaitEot timer tries) w e r n q g = (omega (arith, f.t2_most), omega (arith, f.rty_most))
within p f (Draining tries) w e r n q g = omega (arith, f.rty_most)
within p f (WaitAck timer tries) w e r n q g = (omega (arith, f.t2_most), omega (arith, f.rty_most))
within p f (WaitLength timer) w e r n q g = omega (arith, f.t2_most)
within p f (Body timer a) w e r n q g =
    record { timer_most = omega (arith, f.t1_most); length_least = g.4; length_most = g.5; got_most = omega arith; sum_most = omega arith }
within p f (Silence timer fault) w e r n q g = omega (arith, f.t1_most)

pub reached_in_range : ReachedInRange
reached_in_range p f t w =
    (range_exactly t.line).1
    (within p f t.line.phase t.seen.waited t.seen.enqs t.seen.took (length t.seen.bytes) t.seen.silent (always (limits_of p) t w).counts)
