-- What a block alone reads as (`specs/Block.antt`), and by what it is refused. Assumes nothing.
use Prim.Native.Nat.{ℕ, ◌+◌, ◌-◌, ◌<◌}
use mathlib.Core.Path.{◌≡◌, refl, sym, ap, subst, ◌∙◌}
use mathlib.Core.Bool.{true, cond}
use mathlib.Core.List.{List}
use mathlib.Core.Logic.{◌↔◌}
use native.Mathlib.Omega.{arith}
use lib.ListN.{length, take, drop, get_or}
use borrow.Author.Tests.{leb-true, le-leb, eqb-true, eq-eqb}
use Rattle.wire.specs.Bytes.{part, pair_of}
use Rattle.wire.proofs.Choice.{judged, three}
use Rattle.header.specs.Header.{header_of}
use Rattle.header.specs.declared.header.Header.{Header}
use Rattle.wire.specs.Sum.{checksum_of}
use Rattle.block.specs.Block.{GoodLength, length_good, read_number, sums_agree, read_sized, read_of, data_in}
use Rattle.block.specs.Theorems.{LengthExactly, GoodBlock, ReadRefuses, DataRead}
use Rattle.block.specs.declared.Refusal.TheVariants.{BlockLength, ChecksumDiffers}
use Rattle.std.specs.Prelude.{Err, Ok, Result}
use Rattle.block.specs.Block.{was_read}
use Rattle.block.specs.declared.Block.{Block}
use Rattle.block.specs.declared.Refusal.{Refusal}

pub good_length : (n given : ℕ) → length_good n given ≡ true ↔ GoodLength n given
unfolding length_good
good_length n given = (
  λ e. let w = (three _ _ _).0 e in record { least = leb-true _ _ w.0; most = leb-true _ _ w.1; counts = eqb-true _ _ w.2 },
  λ g. simp (le-leb _ _ g.least, le-leb _ _ g.most, eq-eqb _ _ g.counts),
)

pub length_exactly : LengthExactly
length_exactly n given = (λ g. (g.least, g.most, g.counts), λ w. record { least = w.0; most = w.1; counts = w.2 })

-- the sums of a block of length n agree
abbrev Agree : List ℕ → ℕ → Type 0
Agree line n = checksum_of (part 1 (n + 1) line) ≡ pair_of (get_or line (n + 1) 0) (get_or line (n + 2) 0)

sums_agree_lem : (line : List ℕ) (n : ℕ) → sums_agree line n ≡ true ↔ Agree line n
unfolding sums_agree
sums_agree_lem line n = (λ e. eqb-true _ _ e, λ e. eq-eqb _ _ e)

-- the three answers to a read
pub by_reading : (line : List ℕ) (P : Result Block Refusal → Type 0) → ((GoodLength (get_or line 0 0) (length line - 3) → ⊥) → P (Err BlockLength))
    → (GoodLength (get_or line 0 0) (length line - 3) → (Agree line (get_or line 0 0) → ⊥) → P (Err ChecksumDiffers))
    → (GoodLength (get_or line 0 0) (length line - 3) → Agree line (get_or line 0 0) → P (was_read (header_of (part 1 (get_or line 0 0 + 1) line)) (get_or line 0 0)))
    → P (read_of line)
unfolding read_of read_sized
by_reading line P bad differ agree =
    judged (length_good n (length line - 3)) (good_length n (length line - 3)) (λ t. P (cond t (read_sized line n) (Err BlockLength)))
    (λ g. judged (sums_agree line n) (sums_agree_lem line n) (λ t. P (cond t (was_read (header_of (part 1 (n + 1) line)) n) (Err ChecksumDiffers))) (agree g) (differ g))
    bad
  where
    n : ℕ
    n = get_or line 0 0

-- a line that is too short for a sum
pub read_short : (line : List ℕ) → length line < 3 → read_of line ≡ Err BlockLength
read_short line h =
    by_reading line (λ r. r ≡ Err BlockLength) (λ bad. refl) (λ g ne. absurd (omega arith)) (λ g e. absurd (omega arith))

-- what was read says its header and its length
abbrev length_in : Result Block Refusal → ℕ
length_in (Ok b) = b.length
length_in (Err r) = 0

abbrev header_in : Header → Result Block Refusal → Header
header_in h (Ok b) = b.header
header_in h (Err r) = h

-- a line reads as a block exactly where it is a good one, and then it says what its header says
pub reads_as : (line : List ℕ) (h : Header) (n : ℕ) → (read_of line ≡ was_read h n) ↔ (GoodBlock line n × (h ≡ header_of (part 1 (n + 1) line)))
reads_as line h n = (
  by_reading line (λ r. r ≡ was_read h n → GoodBlock line n × (h ≡ header_of (part 1 (n + 1) line)))
      (λ bad e. absurd (omega (arith, ap read_number e))) (λ g ne e. absurd (omega (arith, ap read_number e))) good,
  λ w. by_reading line (λ r. r ≡ was_read h n)
      (λ bad. absurd (bad (at_n w).good)) (λ g ne. absurd (ne (at_n w).sums)) (λ g s. λ i. was_read (says w i) (w.0.length_byte i)),
)
  where
    m : ℕ
    m = get_or line 0 0

    good : GoodLength m (length line - 3) → Agree line m → was_read (header_of (part 1 (m + 1) line)) m ≡ was_read h n → GoodBlock line n × (h ≡ header_of (part 1 (n + 1) line))
    good g s e =
        let size : m ≡ n = ap (λ (r : Result Block Refusal). length_in r) e in
        let says : h ≡ header_of (part 1 (m + 1) line) = sym (ap (λ (r : Result Block Refusal). header_in h r) e) in
        (subst (GoodBlock line) size (record { length_byte = refl; good = g; sums = s }), rw size at says)

    at_n : GoodBlock line n × (h ≡ header_of (part 1 (n + 1) line)) → GoodBlock line m
    at_n w = subst (GoodBlock line) (sym w.0.length_byte) w.0

    says : GoodBlock line n × (h ≡ header_of (part 1 (n + 1) line)) → header_of (part 1 (m + 1) line) ≡ h
    says w = ap (λ (k : ℕ). header_of (part 1 (k + 1) line)) w.0.length_byte ∙ sym w.1

pub read_refuses : ReadRefuses
read_refuses line = record {
  one = by_reading line (λ r. read_number r ≡ 1 → ⊥) (λ bad e. omega arith) (λ g ne e. omega arith) (λ g s e. omega arith);
  twelve = by_reading line (λ r. (read_number r ≡ 12) ↔ (GoodLength n (length line - 3) → ⊥))
      (λ bad. (λ e. bad, λ f. refl)) (λ g ne. (λ e. absurd (omega arith), λ f. absurd (f g))) (λ g s. (λ e. absurd (omega arith), λ f. absurd (f g)));
  thirteen = by_reading line (λ r. (read_number r ≡ 13) ↔ (GoodLength n (length line - 3) × (GoodBlock line n → ⊥)))
      (λ bad. (λ e. absurd (omega arith), λ w. absurd (bad w.0)))
      (λ g ne. (λ e. (g, λ b. ne b.sums), λ w. refl))
      (λ g s. (λ e. absurd (omega arith), λ w. absurd (w.1 (record { length_byte = refl; good = g; sums = s }))));
  taken = reads_as line;
}
  where
    n : ℕ
    n = get_or line 0 0

pub data_read : DataRead
unfolding part
data_read line = record {
  good = λ h n e.
      let size : n + 1 - 11 ≡ n - 10 = omega arith in
      ap (λ (r : Result Block Refusal). data_in r line) e ∙ ap (λ (k : ℕ). take k (drop 11 line)) size;
  refused = λ r e. ap (λ (x : Result Block Refusal). data_in x line) e;
}
