-- Where the areas lie, and what lies in the room (`specs/Room.antt`). Assumes nothing.
use Prim.Native.Nat.{ℕ, ◌+◌, ◌-◌, ◌≤◌, ◌<◌}
use mathlib.Core.Path.{◌≡◌, refl, sym, ap, ◌∙◌}
use mathlib.Core.Bool.{Bool, true}
use mathlib.Core.List.{List}
use mathlib.Core.Logic.{◌⊎◌, inl, inr, ⊎_elim}
use native.Mathlib.Omega.{arith}
use lib.Dec.{ltb}
use lib.ListN.{length}
use borrow.Author.Tests.{ltb-true, ltb-false, leb-true, eqb-true, lt-ltb, le-leb, eq-eqb}
use Rattle.wire.specs.Bytes.{part}
use Rattle.wire.proofs.Choice.{either, three}
use Rattle.room.specs.Room.{area, place_of, start_of, whole_room, has_place, in_area, lies, front}
use Rattle.room.specs.Theorems.{AreasInOrder, Lies, LiesExactly, FrontInRoom}
use Rattle.room.specs.declared.Message.{Message}
use Rattle.room.specs.declared.Message.TheVariants.{Reply, Incoming, Send}

pub areas_in_order : AreasInOrder
areas_in_order = record { starts = refl; ends = refl }

pub front_in_room : FrontInRoom
unfolding front part
front_in_room room m n = let size : start_of m + n - start_of m ≡ n = omega arith in rw size

pub lies_exactly : LiesExactly
unfolding lies whole_room has_place in_area
lies_exactly room m o n = (
  λ e.
      let w = (three (whole_room room) (has_place m) (in_area o n)).0 e in
      record { whole = eqb-true (length room) 36864 w.0; place = ltb-true (place_of m) 4 w.1; within = leb-true (o + n) 4096 w.2 },
  λ l. (three (whole_room room) (has_place m) (in_area o n)).1 (eq-eqb (length room) 36864 l.whole, lt-ltb (place_of m) 4 l.place, le-leb (o + n) 4096 l.within),
)

-- an area ends within the room
pub area_end : (m : Message) → place_of m < 4 → start_of m + area ≤ 36864
area_end (Reply p) h = omega arith
area_end (Incoming i) h = omega arith
area_end Send h = omega arith

-- and so does what lies there
pub lies_end : (room : List ℕ) (m : Message) (o n : ℕ) → Lies room m o n → start_of m + o + n ≤ length room
lies_end room m o n l = omega (arith, area_end m l.place)

-- where the code's test was passed, the bytes lie in the room
pub tested : (room : List ℕ) (m : Message) (o n : ℕ) {t : Bool} → t ≡ lies room m o n → t ≡ true → Lies room m o n
tested room m o n e passed = (lies_exactly room m o n).0 (sym e ∙ passed)

-- and end within it, from the start that the code found
pub tested_end : (room : List ℕ) (m : Message) (o n at : ℕ) {t : Bool} → t ≡ lies room m o n → t ≡ true → at ≡ start_of m → (at + o + n ≤ length room) × (length room ≡ 36864)
tested_end room m o n at e passed found =
    let l = tested room m o n e passed in
    (omega (arith, lies_end room m o n l), l.whole)

-- the area of one message ends before that of the other starts, or the other way round
abbrev Apart : Message → Message → Type 0
Apart m other = (start_of other + area ≤ start_of m) ⊎ (start_of m + area ≤ start_of other)

-- one of two places comes first
either_first : (p q : ℕ) → (p ≡ q → ⊥) → (p < q) ⊎ (q < p)
either_first p q ne = either (ltb p q) (λ t. (p < q) ⊎ (q < p)) (λ e. inl (ltb-true p q e)) (λ e. inr (omega (arith, ltb-false p q e)))

pub areas_apart : (m other : Message) → place_of m < 4 → place_of other < 4 → (m ≡ other → ⊥) → Apart m other
areas_apart (Reply p) (Reply q) h k ne = ⊎_elim (λ l. inr (omega arith)) (λ l. inl (omega arith)) (either_first _ _ (λ e. ne (ap Reply e)))
areas_apart (Reply p) (Incoming i) h k ne = inr (omega arith)
areas_apart (Reply p) Send h k ne = inr (omega arith)
areas_apart (Incoming i) (Reply p) h k ne = inl (omega arith)
areas_apart (Incoming i) (Incoming j) h k ne = ⊎_elim (λ l. inr (omega arith)) (λ l. inl (omega arith)) (either_first _ _ (λ e. ne (ap Incoming e)))
areas_apart (Incoming i) Send h k ne = inr (omega arith)
areas_apart Send (Reply p) h k ne = inl (omega arith)
areas_apart Send (Incoming i) h k ne = inl (omega arith)
areas_apart Send Send h k ne = absurd (ne refl)
