-- 01's table of settings. Assumes nothing.
use Prim.Native.Nat.{ℕ, ◌≤◌}
use mathlib.Core.Path.{◌≡◌, refl}
use mathlib.Core.Bool.{true}
use mathlib.Core.Logic.{◌↔◌}
use lib.Dec.{leb}
use borrow.Author.Tests.{le-leb, leb-true}
use Rattle.wire.proofs.Choice.{both}
use Rattle.settings.specs.Panel.{between}
use Rattle.settings.specs.Theorems.{PanelTable}

pub in_between : (low n high : ℕ) → between low n high ≡ true ↔ ((low ≤ n) × (n ≤ high))
unfolding between
in_between low n high =
    let w = both (leb low n) (leb n high) in
    (λ e. (leb-true low n (w.0 e).0, leb-true n high (w.0 e).1), λ h. w.1 (le-leb low n h.0, le-leb n high h.1))

pub panel_table : PanelTable
panel_table =
    record {
      t1_steps = λ p. refl;
      t2_steps = λ p. refl;
      t3_steps = λ p. refl;
      t1_range = λ p. in_between 1 p.0 100;
      t2_range = λ p. in_between 1 p.0 125;
      t3_range = λ p. in_between 1 p.0 120;
      t2_at_50 = refl;
      t3_at_45 = refl;
    }
