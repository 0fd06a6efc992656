-- Settings are taken exactly if each is in its range. Assumes nothing.
use Rattle.std.specs.Prelude.{Option, Some, None}
use Prim.Native.Nat.{ℕ}
use mathlib.Core.Path.{◌≡◌, refl}
use mathlib.Core.Bool.{true, cond}
use mathlib.Core.Logic.{◌↔◌}
use native.Mathlib.Omega.{arith}
use lib.Dec.{leb}
use borrow.Author.Tests.{le-leb, leb-true}
use Rattle.wire.proofs.Choice.{judged, three}
use Rattle.settings.specs.Panel.{between, tenths_in_range, fifths_in_range}
use Rattle.settings.specs.Limits.{panel_in_range, limits_of, taken_of, taken_number, limits_in_range}
use Rattle.settings.specs.Theorems.{Fits, TakenInRange, limits_in_ticks}
use Rattle.settings.proofs.Panels.{in_between}
use Rattle.settings.specs.declared.limits.Panel.{Panel}
use Rattle.settings.specs.declared.limits.Limits.{Limits}

pub fits : (p : Panel) → panel_in_range p ≡ true ↔ Fits p
unfolding panel_in_range
fits p =
    let w = three (tenths_in_range p.t1) (fifths_in_range p.t2) (leb p.rty 31) in
    let a = in_between 1 p.t1.0 100 in
    let b = in_between 1 p.t2.0 125 in (
      λ e. record { t1_least = (a.0 (w.0 e).0).0; t1_most = (a.0 (w.0 e).0).1; t2_least = (b.0 (w.0 e).1).0; t2_most = (b.0 (w.0 e).1).1; rty_most = leb-true p.rty 31 (w.0 e).2 },
      λ f. w.1 (a.1 (f.t1_least, f.t1_most), b.1 (f.t2_least, f.t2_most), le-leb p.rty 31 f.rty_most),
    )

-- what holds of the settings that are taken, and of those that are not
by_fits : (p : Panel) (P : Option Limits → Type 0) → (Fits p → P (Some (limits_of p))) → ((Fits p → ⊥) → P None) → P (taken_of p)
unfolding taken_of
by_fits p P f n = judged (panel_in_range p) (fits p) (λ t. P (cond t (Some (limits_of p)) None)) f n

in_range : (p : Panel) → Fits p → limits_in_range (limits_of p) ≡ true
unfolding limits_in_range between
in_range p f =
    simp (le-leb 1 p.t1.0 f.t1_least, le-leb p.t1.0 100 f.t1_most, le-leb 2 (limits_of p).t2.0 (omega (arith, f.t2_least)), le-leb (limits_of p).t2.0 250 (omega (arith, f.t2_most)), le-leb p.rty 31 f.rty_most)

-- 0 is not 4
pub zero_four : ◌≡◌ {A = ℕ} 0 4 → ⊥
zero_four e = omega arith

pub taken_in_range : TakenInRange
taken_in_range p =
    record {
      taken = λ f. by_fits p (λ t. t ≡ Some (limits_in_ticks p)) (λ _. refl) (λ n. absurd (n f));
      four = by_fits p (λ t. taken_number t ≡ 4 ↔ (Fits p → ⊥)) (λ f. (λ e. absurd (zero_four e), λ n. absurd (n f))) (λ n. (λ e. n, λ _. refl));
      in_range = in_range p;
    }
