-- What a write answers and leaves (`specs/Block.antt`). Assumes nothing.
use Rattle.std.specs.Prelude.{Ok, Err}
use Prim.Native.Nat.{ℕ, ◌+◌, ◌≤◌, ◌<◌}
use mathlib.Core.Path.{◌≡◌, refl, ap, ◌∙◌}
use mathlib.Core.Bool.{true, cond}
use mathlib.Core.List.{List, ◌++◌}
use mathlib.Core.Logic.{◌↔◌}
use native.Mathlib.Omega.{arith}
use lib.ListN.{length, drop, length-append, length-drop}
use lib.Seq.{take_at, drop_at}
use borrow.Author.Tests.{ltb-true, lt-ltb}
use Rattle.header.specs.Header.{header_bytes}
use Rattle.header.specs.declared.header.Header.{Header}
use Rattle.wire.specs.Lent.{on_front}
use Rattle.wire.specs.Sum.{checksum_of}
use Rattle.block.specs.Block.{framed, block_of, output_short, GoodLength, length_good, Writing, refused_write, taken_write, written_number, write_of}
use Rattle.block.specs.Theorems.{WriteRefuses, RefusedWritesNothing, WritesOnly, TakenWrites}
use Rattle.block.specs.declared.Refusal.TheVariants.{OutputShort, BlockLength}
use Rattle.block.proofs.Frames.{frame_length}
use Rattle.block.proofs.Reading.{good_length}
use Rattle.wire.proofs.Choice.{judged}

output_short_lem : (out : List ℕ) → output_short out ≡ true ↔ (length out < 257)
unfolding output_short
output_short_lem out = (λ e. ltb-true _ _ e, λ h. lt-ltb _ _ h)

-- the three answers to a write
by_writing : (n : ℕ) (h : Header) (d out : List ℕ) (P : Writing → Type 0) → (length out < 257 → P (refused_write OutputShort out))
    → (257 ≤ length out → (GoodLength n (10 + length d) → ⊥) → P (refused_write BlockLength out))
    → (257 ≤ length out → GoodLength n (10 + length d) → P (taken_write n h d out)) → P (write_of n h d out)
unfolding write_of
by_writing n h d out P short bad good =
    judged (output_short out) (output_short_lem out)
    (λ t. P (cond t (refused_write OutputShort out) (cond (length_good n (10 + length d)) (taken_write n h d out) (refused_write BlockLength out))))
    short
    (λ long.
    let enough : 257 ≤ length out = omega arith in
    judged (length_good n (10 + length d)) (good_length n (10 + length d))
    (λ t. P (cond t (taken_write n h d out) (refused_write BlockLength out))) (good enough) (bad enough))

pub write_refuses : WriteRefuses
unfolding refused_write taken_write
write_refuses n h d out = record {
  one = by_writing n h d out (λ w. (written_number w.answer ≡ 1) ↔ (length out < 257))
      (λ s. (λ e. s, λ l. refl)) (λ l b. (λ e. absurd (omega arith), λ s. absurd (omega arith))) (λ l g. (λ e. absurd (omega arith), λ s. absurd (omega arith)));
  twelve = by_writing n h d out (λ w. (written_number w.answer ≡ 12) ↔ ((257 ≤ length out) × (GoodLength n (10 + length d) → ⊥)))
      (λ s. (λ e. absurd (omega arith), λ w. absurd (omega (arith, w.0)))) (λ l b. (λ e. (l, b), λ w. refl)) (λ l g. (λ e. absurd (omega arith), λ w. absurd (w.1 g)));
  thirteen = by_writing n h d out (λ w. written_number w.answer ≡ 13 → ⊥) (λ s e. omega arith) (λ l b e. omega arith) (λ l g e. omega arith);
  taken = by_writing n h d out (λ w. (w.answer ≡ Ok (n + 3)) ↔ ((257 ≤ length out) × GoodLength n (10 + length d)))
      (λ s. (λ e. absurd (omega (arith, ap written_number e)), λ w. absurd (omega (arith, w.0))))
      (λ l b. (λ e. absurd (omega (arith, ap written_number e)), λ w. absurd (b w.1)))
      (λ l g. (λ e. (l, g), λ w. refl));
}

pub refused_writes_nothing : RefusedWritesNothing
unfolding refused_write taken_write
refused_writes_nothing n h d out r =
    by_writing n h d out (λ w. w.answer ≡ Err r → w.out ≡ out)
    (λ s e. refl) (λ l b e. refl) (λ l g e. let z : ◌≡◌ {A = ℕ} 0 1 = cc in absurd (omega arith))

-- a write that answers m bytes was the taken one
by_taken : (n m : ℕ) (h : Header) (d out : List ℕ) (P : Writing → Type 0)
    → (257 ≤ length out → GoodLength n (10 + length d) → n + 3 ≡ m → P (taken_write n h d out)) → (write_of n h d out).answer ≡ Ok m → P (write_of n h d out)
unfolding refused_write taken_write
by_taken n m h d out P taken =
    by_writing n h d out (λ w. w.answer ≡ Ok m → P w)
    (λ s e. absurd (omega (arith, ap written_number e))) (λ l b e. absurd (omega (arith, ap written_number e))) (λ l g e. taken l g (cc))

-- and had a good length
pub taken_good : (n m : ℕ) (h : Header) (d out : List ℕ) → (write_of n h d out).answer ≡ Ok m → GoodLength n (10 + length d)
taken_good n m h d out = by_taken n m h d out (λ w. GoodLength n (10 + length d)) (λ l g e. g)

-- a block of n bytes is n + 3 on the line
block_length : (n : ℕ) (h : Header) (d : List ℕ) → GoodLength n (10 + length d) → length (block_of h d) ≡ n + 3
unfolding framed header_bytes
block_length n h d g = omega (arith, frame_length (header_bytes h ++ d) (checksum_of (header_bytes h ++ d)), length-append (header_bytes h) d)

pub taken_writes : TakenWrites
unfolding on_front taken_write
taken_writes n m h d out =
    by_taken n m h d out (λ w. WritesOnly h d out w.out m)
    (λ l g e.
    let p : List ℕ = block_of h d in
    let size : length p ≡ m = block_length n h d g ∙ e in
    record {
      block = take_at p (drop (length p) out) m size;
      beyond = drop_at p (drop (length p) out) m size ∙ ap (λ (k : ℕ). drop k out) size;
      whole = omega (arith, block_length n h d g, length-append p (drop (length p) out), length-drop (length p) out);
    })
