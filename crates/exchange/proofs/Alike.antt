-- The comparison of two lists of bytes (`same_bytes`): a walk that has come to index i, and that it is equality. Assumes nothing.
use Rattle.std.specs.Prelude.{Option, None, Some}
use Prim.Native.Nat.{ℕ, ◌+◌, ◌≤◌, ◌<◌}
use mathlib.Core.Path.{◌≡◌, refl, sym, ◌∙◌}
use mathlib.Core.Bool.{true, false, ◌&&◌, false≢true}
use mathlib.Core.List.{List, [], ◌∷◌}
use native.Mathlib.Numerals.{add-one}
use lib.Dec.{eqb}
use lib.ListN.{length, drop, get_or, drop_of_length-le}
use lib.Seq.{drop-cons}
use borrow.Author.Tests.{eq-eqb, ne_eqb, eqb-true}
use Rattle.wire.proofs.Choice.{both}
use Rattle.exchange.specs.Judge.{same_bytes}

module _ (a b : List ℕ) (i : ℕ) where
  ahead : i < length a → i < length b → same_bytes (drop i a) (drop i b) ≡ eqb (get_or a i 0) (get_or b i 0) && same_bytes (drop (i + 1) a) (drop (i + 1) b)
  unfolding same_bytes
  ahead h k = rw (drop-cons a i 0 h, drop-cons b i 0 k, add-one i)

  pub agree : i < length a → i < length b → get_or a i 0 ≡ get_or b i 0 → same_bytes (drop (i + 1) a) (drop (i + 1) b) ≡ same_bytes (drop i a) (drop i b)
  agree h k e = sym (ahead h k ∙ rw (eq-eqb (get_or a i 0) (get_or b i 0) e))

  pub differ : i < length a → i < length b → (get_or a i 0 ≡ get_or b i 0 → ⊥) → same_bytes (drop i a) (drop i b) ≡ false
  differ h k e = ahead h k ∙ rw (ne_eqb (get_or a i 0) (get_or b i 0) e)

  pub alike : length a ≤ i → length b ≤ i → same_bytes (drop i a) (drop i b) ≡ true
  unfolding same_bytes
  alike h k = rw (drop_of_length-le a h, drop_of_length-le b k)

pub same_refl : (a : List ℕ) → same_bytes a a ≡ true
unfolding same_bytes
same_refl [] = refl
same_refl (x ∷ a) = rw (eq-eqb x x refl) (same_refl a)

pub same_eq : (a b : List ℕ) → same_bytes a b ≡ true → a ≡ b
unfolding same_bytes
same_eq [] [] e = refl
same_eq [] (y ∷ b) e = absurd (false≢true e)
same_eq (x ∷ a) [] e = absurd (false≢true e)
same_eq (x ∷ a) (y ∷ b) e = let w = (both (eqb x y) (same_bytes a b)).0 e in λ k. eqb-true x y w.0 k ∷ same_eq a b w.1 k

-- the bytes that are saved
abbrev pub bytes_saved : Option (List ℕ) → List ℕ
bytes_saved None = []
bytes_saved (Some h) = h
