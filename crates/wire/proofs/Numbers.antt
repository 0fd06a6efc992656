-- A number and its bytes, two or four, are each the other's. Assumes nothing.
use Rattle.std.proofs.Common.{◌≡◌, ℕ, ◌/◌, ◌%◌, ◌<◌, [], ◌∷◌, sym, ◌∙◌, arith}
use native.Mathlib.Nat.{div-div-eq-div-mul}
use Rattle.wire.specs.Bytes.{pair_of, quad_of}
use Rattle.wire.specs.Theorems.{HighFirst, NumberAndBack, TwoBytesAndBack, LongAndBack, FourBytesAndBack, FourEndInTwo}

pub number_and_back : NumberAndBack
number_and_back x high low e =
    let h : x / 256 ≡ high = cc in
    let l : x % 256 ≡ low = cc in
    omega arith

pub two_bytes_and_back : TwoBytesAndBack
two_bytes_and_back high low b = λ k. upper k ∷ lower k ∷ []
  where
    upper : pair_of high low / 256 ≡ high
    upper = omega arith

    lower : pair_of high low % 256 ≡ low
    lower = omega arith

-- a 32-bit number is read back from its four bytes
pub quad_back : (x : ℕ) → x < 4294967296 → quad_of (x / 16777216 % 256) (x / 65536 % 256) (x / 256 % 256) (x % 256) ≡ x
quad_back x h = rw (← div-div-eq-div-mul x 65536 256, ← div-div-eq-div-mul x 256 256) (omega arith)

pub long_and_back : LongAndBack
long_and_back x a b c d h e =
    let p : x / 16777216 % 256 ≡ a = cc in
    let q : x / 65536 % 256 ≡ b = cc in
    let r : x / 256 % 256 ≡ c = cc in
    let s : x % 256 ≡ d = cc in
    (λ k. quad_of (sym p k) (sym q k) (sym r k) (sym s k)) ∙ quad_back x h

pub four_bytes_and_back : FourBytesAndBack
four_bytes_and_back a b c d p q r s = λ k. quarter.0 k ∷ quarter.1 k ∷ quarter.2 k ∷ quarter.3 k ∷ []
  where
    x : ℕ
    x = quad_of a b c d

    quarter : (x / 16777216 % 256 ≡ a) × (x / 65536 % 256 ≡ b) × (x / 256 % 256 ≡ c) × (x % 256 ≡ d)
    quarter = omega (arith, p, q, r, s, div-div-eq-div-mul x 256 256, div-div-eq-div-mul x 65536 256)

pub four_end_in_two : FourEndInTwo
four_end_in_two x h = λ k. upper.0 k ∷ upper.1 k ∷ upper.2 k ∷ (x % 256) ∷ []
  where
    upper : (x / 16777216 % 256 ≡ 0) × (x / 65536 % 256 ≡ 0) × (x / 256 % 256 ≡ x / 256)
    upper = omega arith

pub high_first : HighFirst
high_first a b c d = (omega arith, omega arith)
