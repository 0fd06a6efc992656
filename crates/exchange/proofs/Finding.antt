-- What a search of a table finds (`specs/Theorems.antt` of table), in the words of `specs/Rules.antt`. Assumes nothing.
use Rattle.std.specs.Prelude.{Option, Some, None}
use Prim.Native.Nat.{ℕ}
use mathlib.Core.Path.{◌≡◌, refl}
use mathlib.Core.Bool.{Bool, true, false, false≢true}
use mathlib.Core.Logic.{◌↔◌}
use Rattle.table.specs.Theorems.{Lowest}
use Rattle.exchange.specs.Rules.{Somewhere, LowestAt}

-- whether a place is found
abbrev pub found : Option ℕ → Bool
found (Some p) = true
found None = false

-- one is found exactly if there is one
pub somewhere : (r : Option ℕ) (Meant P : ℕ → Type 0) → Lowest 4 Meant r → ((p : ℕ) → Meant p ↔ P p) → found r ≡ true ↔ Somewhere P
somewhere (Some p) Meant P low says =
    (λ e. let w = (low.at p).0 refl in record { place = p; within = w.0; so = (says p).0 w.1 }, λ s. refl)
somewhere None Meant P low says =
    (λ e. absurd (false≢true e), λ s. absurd (low.nowhere.0 refl s.place s.within ((says _).1 s.so)))

-- what is found is the lowest
pub lowest : (r : Option ℕ) (Meant P : ℕ → Type 0) → Lowest 4 Meant r → ((p : ℕ) → Meant p ↔ P p) → (p : ℕ) → (r ≡ Some p) ↔ LowestAt P p
lowest r Meant P low says p = (
  λ e. let w = (low.at p).0 e in record { within = w.0; so = (says p).0 w.1; none_below = λ q less m. w.2 q less ((says q).1 m) },
  λ w. (low.at p).1 (w.within, (says p).1 w.so, λ q less m. w.none_below q less ((says q).0 m)),
)

-- none is found exactly if there is none
pub nowhere : (r : Option ℕ) (Meant P : ℕ → Type 0) → Lowest 4 Meant r → ((p : ℕ) → Meant p ↔ P p) → (Somewhere P → ⊥) → r ≡ None
nowhere r Meant P low says n = low.nowhere.1 (λ q less m. n (record { place = q; within = less; so = (says q).0 m }))
