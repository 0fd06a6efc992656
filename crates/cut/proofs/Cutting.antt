-- Cutting a message: its blocks' numbers, headers and parts. Assumes nothing.
use Prim.Native.Nat.{ℕ, zero, suc, ◌+◌, ◌-◌, ◌*◌, ◌≤◌, ◌<◌}
use mathlib.Core.Path.{◌≡◌, refl, sym, ap, ◌∙◌}
use mathlib.Core.Bool.{true, cond}
use mathlib.Core.List.{List, ◌++◌}
use mathlib.Core.Logic.{◌↔◌, ◌⊎◌, inl, inr, ⊎_elim}
use native.Mathlib.Omega.{arith}
use lib.Dec.{eqb}
use lib.ListN.{length, take, drop, length-take, length-drop}
use lib.Seq.{take-add, take_all}
use borrow.Author.Tests.{leb-true, le-leb, eqb-true, eqb-false, eq-eqb, ne_eqb}
use Rattle.wire.specs.Bytes.{part}
use Rattle.wire.proofs.Choice.{either, judged, three}
use Rattle.cut.specs.Blocks.{block_count, part_start, part_length, has_block, header_at, cut_of, cut_at}
use Rattle.cut.specs.Theorems.{CutNumbers, BlockOfMessage, CutBlocks, part_in, CutParts, joined, CutJoined}
use Rattle.header.specs.declared.header.Header.{Header}
use Rattle.cut.specs.declared.Cut.{Cut}
use Rattle.header.proofs.Headers.{numbered_keeps}
use Rattle.cut.proofs.Counts.{count_is_fewest}
use Rattle.std.specs.Prelude.{Some, Option, None}

-- there is a block k of n bytes
abbrev pub Within : ℕ → ℕ → Type 0
Within n k = (1 ≤ k) × (k ≤ block_count n) × (k ≤ 32767)

has_block_lem : (n k : ℕ) → has_block n k ≡ true ↔ Within n k
unfolding has_block
has_block_lem n k = (
  λ e. let w = (three _ _ _).0 e in (leb-true _ _ w.0, leb-true _ _ w.1, leb-true _ _ w.2),
  λ w. simp (le-leb _ _ w.0, le-leb _ _ w.1, le-leb _ _ w.2),
)

-- the two answers to a cut
by_cut : (h : Header) (n k : ℕ) (P : Option Cut → Type 0) → (Within n k → P (cut_at (header_at h n k) (part_start k) (part_length n k)))
    → ((Within n k → ⊥) → P None) → P (cut_of h n k)
unfolding cut_of
by_cut h n k P =
    judged (has_block n k) (has_block_lem n k) (λ t. P (cond t (cut_at (header_at h n k) (part_start k) (part_length n k)) None))

pub cut_is : (h : Header) (n k : ℕ) → Within n k → cut_of h n k ≡ cut_at (header_at h n k) (part_start k) (part_length n k)
cut_is h n k w =
    by_cut h n k (λ c. c ≡ cut_at (header_at h n k) (part_start k) (part_length n k)) (λ v. refl) (λ none. absurd (none w))

-- a block is not none
some_block : (h : Header) (start size : ℕ) → cut_at h start size ≡ None → ⊥
some_block h start size e = let z : ◌≡◌ {A = ℕ} 0 1 = cc in omega arith

pub cut_numbers : CutNumbers
cut_numbers h n k =
    by_cut h n k (λ c. (c ≡ None → ⊥) ↔ Within n k)
    (λ w. (λ f. w, λ v. some_block (header_at h n k) (part_start k) (part_length n k)))
    (λ none. (λ f. absurd (f refl), λ w. absurd (none w)))

-- how long a part is: of the last block, and of one before it
part_last : (n : ℕ) → part_length n (block_count n) ≡ n - part_start (block_count n)
unfolding part_length
part_last n = simp (eq-eqb (block_count n) (block_count n) refl)

part_filled : (n k : ℕ) → k < block_count n → part_length n k ≡ 244
unfolding part_length
part_filled n k h = simp (ne_eqb k (block_count n) (λ e. omega arith))

-- k is the last block, or one before it
last_or_before : (n k : ℕ) → k ≤ block_count n → (k ≡ block_count n) ⊎ (k < block_count n)
last_or_before n k h =
    either (eqb k (block_count n)) (λ t. (k ≡ block_count n) ⊎ (k < block_count n))
    (λ e. inl (eqb-true _ _ e)) (λ e. inr (omega (arith, eqb-false k (block_count n) e)))

-- a part is 244 bytes at the most, and lies within the message
part_fits : (n k : ℕ) → 1 ≤ k → k ≤ block_count n → (part_length n k ≤ 244) × (part_start k + part_length n k ≤ n)
part_fits n k one most = ⊎_elim last before (last_or_before n k most)
  where
    last : k ≡ block_count n → (part_length n k ≤ 244) × (part_start k + part_length n k ≤ n)
    last e = rw e (let c = count_is_fewest n in let p = part_last n in omega arith)

    before : k < block_count n → (part_length n k ≤ 244) × (part_start k + part_length n k ≤ n)
    before h = let c = count_is_fewest n in let p = part_filled n k h in omega arith

-- the block that there is, or another
abbrev cut_or : Cut → Option Cut → Cut
cut_or d (Some c) = c
cut_or d None = d

pub cut_blocks : CutBlocks
unfolding header_at
cut_blocks h of n k start size =
    by_cut h n k (λ c. c ≡ cut_at of start size → BlockOfMessage h n k of start size)
    (λ w e.
    let p : header_at h n k ≡ of = ap (λ (c : Option Cut). (cut_or (record { header = of; start = start; length = size }) c).header) e in
    let q : part_start k ≡ start = ap (λ (c : Option Cut). (cut_or (record { header = of; start = start; length = size }) c).start) e in
    let r : part_length n k ≡ size = ap (λ (c : Option Cut). (cut_or (record { header = of; start = start; length = size }) c).length) e in
    rw (p, q, r) at (block w))
    (λ none e. absurd (some_block of start size (sym e)))
  where
    block : Within n k → BlockOfMessage h n k (header_at h n k) (part_start k) (part_length n k)
    block w = record {
      number = (numbered_keeps h k (eqb k (block_count n))).0;
      last_alone = (eqb-true k (block_count n), eq-eqb k (block_count n));
      same = (numbered_keeps h k (eqb k (block_count n))).2;
      filled = part_filled n k;
      most = (part_fits n k w.0 w.1).0;
      within = (part_fits n k w.0 w.1).1;
    }

pub cut_parts : CutParts
unfolding part
cut_parts h of d k start size e =
    let fits = (cut_blocks h of (length d) k start size e).within in
    simp (length-take, length-drop) (omega arith)

-- the parts of the first k blocks, joined, are the first k times 244 bytes
pub joined_front : (h : Header) (d : List ℕ) (k : ℕ) → k ≤ block_count (length d) → block_count (length d) ≤ 32767 → joined h d k ≡ take (k * 244) d
unfolding joined part
joined_front h d zero most fits = refl
joined_front h d (suc k) most fits =
    let n : ℕ = length d in
    let l : ℕ = part_length n (suc k) in
    let start : part_start (suc k) ≡ k * 244 = omega arith in
    let size : part_start (suc k) + l - part_start (suc k) ≡ l = omega arith in
    let here : part_in (cut_of h n (suc k)) d ≡ take l (drop (k * 244) d) =
    ap (λ (c : Option Cut). part_in c d) (cut_is h n (suc k) (omega arith, most, omega arith))
    ∙ (λ i. take (size i) (drop (start i) d)) in
    (λ i. joined_front h d k (omega arith) fits i ++ here i) ∙ sym (take-add (k * 244) l d) ∙ ⊎_elim last before (last_or_before n (suc k) most)
  where
    last : suc k ≡ block_count (length d) → take (k * 244 + part_length (length d) (suc k)) d ≡ take (suc k * 244) d
    last e =
        let c = count_is_fewest (length d) in
        let p : part_length (length d) (suc k) ≡ length d - part_start (suc k) = rw e (part_last (length d)) in
        take_all (k * 244 + part_length (length d) (suc k)) d (omega arith) ∙ sym (take_all (suc k * 244) d (omega arith))

    before : suc k < block_count (length d) → take (k * 244 + part_length (length d) (suc k)) d ≡ take (suc k * 244) d
    before b =
        let p = part_filled (length d) (suc k) b in
        let m : k * 244 + part_length (length d) (suc k) ≡ suc k * 244 = omega arith in
        ap (λ (j : ℕ). take j d) m

pub cut_joined : CutJoined
cut_joined h d short =
    let count = count_is_fewest (length d) in
    joined_front h d (block_count (length d)) (omega arith) (omega arith) ∙ take_all (block_count (length d) * 244) d (omega arith)
