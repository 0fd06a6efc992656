-- What a read gives (`specs/Room.antt`). Assumes nothing.
use Prim.Native.Nat.{ℕ, ◌+◌, ◌-◌, ◌≤◌}
use mathlib.Core.Path.{◌≡◌, refl, sym, ap, ◌∙◌}
use mathlib.Core.Bool.{cond}
use mathlib.Core.List.{List, []}
use native.Mathlib.Omega.{arith}
use lib.ListN.{length, take, drop, length-take, length-drop}
use lib.Seq.{take_all, take-take, drop_at}
use Rattle.wire.specs.Bytes.{part}
use Rattle.wire.proofs.Choice.{judged}
use Rattle.wire.proofs.Parts.{part_length, part_of_take, part_of_drop}
use Rattle.room.specs.Room.{start_of, lies, kept_in, bytes_at, bytes_in, front}
use Rattle.room.specs.Theorems.{Lies, FrontLength, FrontOfFront, BytesRead, FrontRead, NothingRead, KeptIsRead}
use Rattle.room.specs.declared.Message.{Message}
use Rattle.room.proofs.Areas.{front_in_room, lies_exactly, area_end, lies_end}
use Rattle.room.proofs.Keeping.{keep_joins, keeps_only}

pub front_length : FrontLength
front_length room m n whole place short = rw (front_in_room room m n) (simp (length-take, length-drop) (omega (arith, area_end m place)))

pub front_of_front : FrontOfFront
front_of_front room m n k shorter short = rw (front_in_room room m k, front_in_room room m n) (take-take n k (drop (start_of m) room) shorter)

-- what holds of the bytes, where they lie in the room, and of none, where not, holds of what is read
by_reading : (room : List ℕ) (m : Message) (o n : ℕ) (P : List ℕ → Type 0)
    → (Lies room m o n → P (bytes_at room m o n)) → ((Lies room m o n → ⊥) → P []) → P (bytes_in room m o n)
unfolding bytes_in
by_reading room m o n P read not =
    judged (lies room m o n) (lies_exactly room m o n) (λ t. P (cond t (bytes_at room m o n) [])) read not

pub bytes_read : BytesRead
unfolding bytes_at
bytes_read room m o n l = record {
  size = by_reading room m o n (λ r. length r ≡ n)
      (λ w. part_length (start_of m + o) (start_of m + o + n) room (lies_end room m o n l) ∙ omega arith) (λ w. absurd (w l));
  of_front = λ k within short. by_reading room m o n (λ r. r ≡ part o (o + n) (front room m k))
      (λ w. in_front k within) (λ w. absurd (w l));
}
  where
    in_front : (k : ℕ) → o + n ≤ k → bytes_at room m o n ≡ part o (o + n) (front room m k)
    in_front k within =
        let at : start_of m + o + n ≡ start_of m + (o + n) = omega arith in
        let fits : o + n ≤ length (drop (start_of m) room) = omega (arith, length-drop (start_of m) room, lies_end room m o n l) in
        ap (λ (e : ℕ). part (start_of m + o) e room) at ∙ sym (part_of_drop (start_of m) o (o + n) room)
        ∙ sym (part_of_take k o (o + n) (drop (start_of m) room) (omega arith) within fits) ∙ ap (part o (o + n)) (sym (front_in_room room m k))

-- no bytes are none, wherever they are asked for
pub none_of : (room : List ℕ) (m : Message) (o : ℕ) → bytes_in room m o 0 ≡ []
unfolding bytes_at part
none_of room m o =
    let z : start_of m + o + 0 - (start_of m + o) ≡ 0 = omega arith in
    by_reading room m o 0 (λ r. r ≡ []) (λ w. ap (λ (k : ℕ). take k (drop (start_of m + o) room)) z) (λ w. refl)

pub front_read : FrontRead
unfolding part
front_read room m n l =
    (bytes_read room m 0 n l).of_front n (omega arith) (omega arith)
    ∙ take_all (0 + n - 0) (front room m n) (omega (arith, front_length room m n l.whole l.place (omega arith)))

pub nothing_read : NothingRead
nothing_read room m o n not = by_reading room m o n (λ r. r ≡ []) (λ w. absurd (not w)) (λ w. refl)

pub kept_is_read : KeptIsRead
unfolding part
kept_is_read room m o d l =
    let after : List ℕ = kept_in room m o d in
    let lying : Lies after m o (length d) = record { whole = (keeps_only room m o d).size ∙ l.whole; place = l.place; within = l.within } in
    let before = front_length room m o l.whole l.place (omega arith) in
    (bytes_read after m o (length d) lying).of_front (o + length d) (omega arith) l.within
    ∙ ap (part o (o + length d)) (keep_joins room m o d l)
    ∙ ap (take (o + length d - o)) (drop_at (front room m o) d o before)
    ∙ take_all (o + length d - o) d (omega arith)
