-- The first field of a text ends at its first space, and a letter is a field of one byte. Assumes nothing.
use Prim.Native.Nat.{ℕ, suc, ◌+◌}
use mathlib.Core.Path.{◌≡◌, refl, sym, ap, ◌∙◌}
use mathlib.Core.List.{List, [], ◌∷◌, ◌++◌}
use native.Mathlib.Omega.{arith}
use lib.ListN.{length, take, drop, get_or}
use lib.Seq.{take-length, take_at, drop-append-add}
use borrow.Author.Tests.{eq-eqb, ne_eqb}
use Rattle.std.specs.Prelude.{Some, None}
use Rattle.std.proofs.lemmas.Option.{none-some, same_Some}
use Rattle.text.specs.Find.{index_after, index_of}
use Rattle.text.specs.Field.{field_of, behind_of, letter_of}
use Rattle.text.specs.Theorems.{Lacks, IndexExactly, FieldsExactly, LetterExactly}
use Rattle.text.proofs.Scanning.{nothing_behind}

-- where the first b of a text stands that has none, and of one with a b behind it
alone_at : (b : ℕ) (text : List ℕ) → Lacks b text → index_of b text ≡ length text
unfolding index_of index_after
alone_at b [] free = refl
alone_at b (x ∷ xs) free = rw (ne_eqb x b (free 0 (omega arith))) (ap suc (alone_at b xs (λ i h. free (suc i) (omega arith))))

first_at : (b : ℕ) (text more : List ℕ) → Lacks b text → index_of b (text ++ (b ∷ more)) ≡ length text
unfolding index_of index_after
first_at b [] more free = rw (eq-eqb b b refl) refl
first_at b (x ∷ xs) more free = rw (ne_eqb x b (free 0 (omega arith))) (ap suc (first_at b xs more (λ i h. free (suc i) (omega arith))))

pub index_exactly : IndexExactly
index_exactly b text more free = (alone_at b text free, first_at b text more free)

pub fields_exactly : FieldsExactly
unfolding field_of behind_of
fields_exactly text more free = record {
  alone = (
    ap (λ (k : ℕ). take k text) (alone_at 0x20 text free) ∙ take-length text,
    ap (λ (k : ℕ). drop (k + 1) text) (alone_at 0x20 text free) ∙ nothing_behind text (length text + 1) (omega arith),
  );
  first = (
    ap (λ (k : ℕ). take k (text ++ (0x20 ∷ more))) (first_at 0x20 text more free) ∙ take_at text (0x20 ∷ more) (length text) refl,
    ap (λ (k : ℕ). drop (k + 1) (text ++ (0x20 ∷ more))) (first_at 0x20 text more free) ∙ drop-append-add text (0x20 ∷ more) 1,
  );
}

pub letter_exactly : LetterExactly
unfolding letter_of
letter_exactly [] b = (λ e. absurd (none-some _ e), λ e. absurd (omega (arith, ap length e)))
letter_exactly (x ∷ []) b = (λ e. ap (λ (k : ℕ). k ∷ []) (same_Some _ _ e), λ e. ap (λ (l : List ℕ). Some (get_or l 0 0)) e)
letter_exactly (x ∷ y ∷ rest) b =
    let longer : letter_of (x ∷ y ∷ rest) ≡ None = rw (ne_eqb (length (x ∷ y ∷ rest)) 1 (λ e. omega arith)) in
    (λ e. absurd (none-some _ (sym longer ∙ e)), λ e. absurd (omega (arith, ap length e)))
