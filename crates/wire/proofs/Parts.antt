-- The bytes of a list from one index up to another (`specs/Bytes.antt`). Assumes nothing.
use Rattle.std.proofs.Common.{◌≡◌, ℕ, ◌+◌, ◌-◌, ◌≤◌, List, length, take, drop, sym, ap, ◌∙◌, arith, length-drop, length-take, length-take-le, take-take, drop-drop, take-add, drop_at}
use Rattle.wire.specs.Bytes.{part}

pub part_length : (a e : ℕ) (l : List ℕ) → e ≤ length l → length (part a e l) ≡ e - a
unfolding part
part_length a e l within = simp (length-take, length-drop) (omega arith)

-- the bytes from a up to e are those up to e without the first a
pub part_of_front : (a e : ℕ) (l : List ℕ) → a ≤ e → a ≤ length l → part a e l ≡ drop a (take e l)
unfolding part
part_of_front a e l order within =
    let whole : a + (e - a) ≡ e = omega arith in
    sym (ap (λ (k : ℕ). drop a (take k l)) (sym whole) ∙ ap (drop a) (take-add a (e - a) l) ∙ drop_at (take a l) (take (e - a) (drop a l)) a (length-take-le a l within))

-- a part of the first k bytes, and one of those from s on, is a part of all
pub part_of_take : (k a e : ℕ) (l : List ℕ) → a ≤ e → e ≤ k → e ≤ length l → part a e (take k l) ≡ part a e l
part_of_take k a e l order within fits =
    part_of_front a e (take k l) order (simp length-take (omega arith)) ∙ ap (drop a) (take-take e k l within) ∙ sym (part_of_front a e l order (omega arith))

pub part_of_drop : (s a e : ℕ) (l : List ℕ) → part a e (drop s l) ≡ part (s + a) (s + e) l
unfolding part
part_of_drop s a e l =
    let size : s + e - (s + a) ≡ e - a = omega arith in
    rw (drop-drop, size)
