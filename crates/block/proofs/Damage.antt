-- What was damaged does not read as a block: a sum with a bit changed, any other sum, a byte changed. Assumes nothing.
use Prim.Native.Nat.{ℕ, zero, suc, ◌+◌, ◌-◌, ◌*◌, ◌/◌, ◌%◌, ◌^◌, ◌≤◌, ◌<◌}
use mathlib.Core.Path.{◌≡◌, refl, sym, ap, ◌∙◌}
use mathlib.Core.Bool.{cond}
use mathlib.Core.List.{List, [], ◌∷◌}
use native.Mathlib.Omega.{arith}
use lib.Dec.{eqb, leb}
use lib.ListN.{length, get_or, set, length-set}
use lib.Pow.{pow_pos, pow-add}
use native.Mathlib.Nat.{zero-div, mod-lt, div-add-mod', mul_comm, add-mul, mul-le-mul_right}
use borrow.Author.Tests.{eqb-true, eqb-false, leb-true, leb-false}
use Rattle.wire.specs.Bytes.{Bytes}
use Rattle.wire.proofs.Choice.{either}
use Rattle.wire.specs.Sum.{plain_sum, checksum_of}
use Rattle.block.specs.Block.{with_sum}
use Rattle.block.specs.Theorems.{OtherSum, OneSumBit, OneByte, flipped}
use Rattle.block.specs.declared.Refusal.TheVariants.{ChecksumDiffers}
use Rattle.block.proofs.Frames.{frame_body, frame_sum, frame_good}
use Rattle.wire.proofs.Sums.{sum_never_wraps}
use Rattle.block.proofs.Reading.{by_reading}
use Rattle.std.specs.Prelude.{Err}

pub other_sum : OtherSum
other_sum bs s least most ne =
    by_reading (with_sum bs s) (λ r. r ≡ Err ChecksumDiffers)
    (λ bad. absurd (bad (frame_good bs s least most)))
    (λ g differ. refl)
    (λ g agree. absurd (ne (sym (frame_sum bs s) ∙ sym agree ∙ ap checksum_of (frame_body bs s))))

-- a changed bit is another number
flipped_differs : (k x : ℕ) → flipped k x ≡ x → ⊥
flipped_differs k x =
    either (eqb (x / 2 ^ k % 2) 0) (λ t. cond t (x + 2 ^ k) (x - 2 ^ k) ≡ x → ⊥)
    (λ e same. omega (arith, pow_pos k))
    (λ e same. let z : x ≡ 0 = omega (arith, pow_pos k) in eqb-false (x / 2 ^ k % 2) 0 e (rw (z, zero-div (2 ^ k))))

-- a number of 16 bits has room for a bit of them that is not set
room_for : (p m x : ℕ) → 0 < p → p * m ≡ 32768 → x < 65536 → x / p % 2 ≡ 0 → x + p < 65536
room_for p m x pos half fits even = omega (arith, all, split, mod-lt x pos, mul-le-mul_right p below, add-mul (x / p) 2 p)
  where
    all : (m + m) * p ≡ 65536
    all = omega (arith, add-mul m m p, mul_comm p m, half)

    split : x / p * p + x % p ≡ x
    split = div-add-mod' x p

    below : x / p + 2 ≤ m + m
    below =
        either (leb (m + m) (x / p)) (λ t. x / p + 2 ≤ m + m)
        (λ e. absurd (omega (arith, all, split, mul-le-mul_right p (leb-true (m + m) (x / p) e))))
        (λ e. omega (arith, leb-false (m + m) (x / p) e))

-- and is still one of 16 bits
flipped_fits : (k x : ℕ) → k < 16 → x < 65536 → flipped k x < 65536
flipped_fits k x low fits =
    either (eqb (x / 2 ^ k % 2) 0) (λ t. cond t (x + 2 ^ k) (x - 2 ^ k) < 65536)
    (λ e. room_for (2 ^ k) (2 ^ (15 - k)) x (pow_pos k) half fits (eqb-true _ _ e)) (λ e. omega arith)
  where
    half : 2 ^ k * 2 ^ (15 - k) ≡ 32768
    half = let whole : k + (15 - k) ≡ 15 = omega arith in sym (pow-add 2 k (15 - k)) ∙ ap (λ (i : ℕ). 2 ^ i) whole

pub one_sum_bit : OneSumBit
unfolding checksum_of
one_sum_bit bs k least most bit = (
  flipped_fits k (checksum_of bs) bit (omega arith),
  other_sum bs (flipped k (checksum_of bs)) least most (flipped_differs k (checksum_of bs)),
)

-- what a changed byte does to the sum
sum_set : (l : List ℕ) (i v : ℕ) → i < length l → plain_sum (set l i v) + get_or l i 0 ≡ plain_sum l + v
unfolding plain_sum
sum_set [] i v h = absurd (omega arith)
sum_set (x ∷ l) zero v h = omega arith
sum_set (x ∷ l) (suc i) v h = omega (arith, sum_set l i v (omega arith))

bytes_set : (l : List ℕ) (i v j : ℕ) → v < 256 → Bytes l → get_or (set l i v) j 0 < 256
bytes_set [] i v j h b = omega arith
bytes_set (x ∷ l) zero v zero h b = h
bytes_set (x ∷ l) zero v (suc j) h b = b.at (suc j)
bytes_set (x ∷ l) (suc i) v zero h b = b.at 0
bytes_set (x ∷ l) (suc i) v (suc j) h b = bytes_set l i v j h (record { at = λ k. b.at (suc k) })

pub one_byte : OneByte
one_byte bs i v b least most inside h ne =
    let n = length-set bs i v in
    let before = (sum_never_wraps bs b most).0 in
    let after = (sum_never_wraps (set bs i v) (record { at = λ j. bytes_set bs i v j h b }) (omega arith)).0 in
    other_sum (set bs i v) (checksum_of bs) (omega arith) (omega arith) (λ same. ne (omega (arith, sum_set bs i v inside)))
