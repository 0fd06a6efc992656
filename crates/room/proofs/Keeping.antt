-- What a keep leaves (`specs/Room.antt`). Assumes nothing.
use Prim.Native.Nat.{ℕ, ◌+◌}
use mathlib.Core.Path.{◌≡◌, refl}
use mathlib.Core.Bool.{cond}
use mathlib.Core.List.{List, ◌++◌}
use mathlib.Core.Logic.{⊎_elim}
use native.Mathlib.Omega.{arith}
use lib.ListN.{length, get_or}
use Rattle.wire.specs.Bytes.{part}
use Rattle.wire.proofs.Choice.{judged}
use Rattle.wire.proofs.Lent.{splice_length, byte_below, byte_above, part_below, part_above, part_joined}
use Rattle.room.specs.Room.{start_of, lies, filled, kept_in, front}
use Rattle.room.specs.Theorems.{Lies, KeepJoins, KeepElsewhere, KeepsOnly}
use Rattle.room.specs.declared.Message.{Message}
use Rattle.room.proofs.Areas.{lies_exactly, lies_end, areas_apart}

-- what holds of the room filled, where the bytes lie in it, and of the room as it was, where not, holds after a keep
by_keeping : (room : List ℕ) (m : Message) (o : ℕ) (d : List ℕ) (P : List ℕ → Type 0)
    → (Lies room m o (length d) → P (filled room m o d)) → ((Lies room m o (length d) → ⊥) → P room) → P (kept_in room m o d)
unfolding kept_in
by_keeping room m o d P put not =
    judged (lies room m o (length d)) (lies_exactly room m o (length d)) (λ t. P (cond t (filled room m o d) room)) put not

pub keep_joins : KeepJoins
unfolding filled front
keep_joins room m o d l =
    by_keeping room m o d (λ r. part (start_of m) (start_of m + (o + length d)) r ≡ part (start_of m) (start_of m + o) room ++ d)
    (λ w.
    let at : start_of m + (o + length d) ≡ start_of m + o + length d = omega arith in
    rw at (part_joined room (start_of m + o) d (lies_end room m o (length d) l) (start_of m) (omega arith)))
    (λ w. absurd (w l))

pub keep_elsewhere : KeepElsewhere
unfolding filled front
keep_elsewhere room m other o n d ne place short =
    by_keeping room m o d (λ r. front r other n ≡ front room other n)
    (λ w.
    let fits = lies_end room m o (length d) w in
    ⊎_elim
    (λ below. part_below room (start_of m + o) d fits (start_of other) (start_of other + n) (omega arith) (omega arith))
    (λ above. part_above room (start_of m + o) d fits (start_of other) (start_of other + n) (omega (arith, w.within)))
    (areas_apart m other w.place place ne))
    (λ w. refl)

pub keeps_only : KeepsOnly
unfolding filled
keeps_only room m o d = record {
  size = by_keeping room m o d (λ r. length r ≡ length room)
      (λ w. splice_length room (start_of m + o) d (lies_end room m o (length d) w)) (λ w. refl);
  outside = λ i apart. by_keeping room m o d (λ r. get_or r i 0 ≡ get_or room i 0)
      (λ w.
      let fits = lies_end room m o (length d) w in
      ⊎_elim (byte_below room (start_of m + o) d fits i) (byte_above room (start_of m + o) d fits i) apart)
      (λ w. refl);
  refused = λ not. by_keeping room m o d (λ r. r ≡ room) (λ w. absurd (not w)) (λ w. refl);
}
