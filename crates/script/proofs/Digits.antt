-- A number in decimal, digit by digit. Assumes nothing.
use Prim.Native.Nat.{ℕ, zero, suc, ◌+◌, ◌*◌, ◌/◌, ◌^◌, ◌≤◌, ◌<◌}
use mathlib.Core.Path.{◌≡◌, refl, ap, ◌∙◌}
use mathlib.Core.Bool.{Bool, true, false}
use mathlib.Core.List.{List, [], ◌∷◌}
use native.Mathlib.Nat.{pow-succ'}
use native.Mathlib.Omega.{arith}
use lib.ListN.{length, length-append}
use borrow.Author.Tests.{ltb-true, ltb-false, lt-ltb, le-ltb}
use Rattle.script.specs.Printed.{ones_of, with_ones, is_digit, digits_of, number_text}

-- what `is_digit` tells
is_digit_lem : (n : ℕ) → is_digit n ≡ true → n < 10
is_digit_lem n e = ltb-true n 10 e

no_digit : (n : ℕ) → is_digit n ≡ false → 10 ≤ n
no_digit n e = ltb-false n 10 e

-- What holds of each digit alone, and of a number where it holds of the digits before its last one, holds of what is printed for any number.
module _ (P : ℕ → List ℕ → Type 0) (one : (n : ℕ) → n < 10 → P n (with_ones [] n)) (more : (n : ℕ) (text : List ℕ) → 10 ≤ n → P (n / 10) text → P n (with_ones text n)) where
  up_to : (most : ℕ) (t : Bool) (n : ℕ) → is_digit n ≡ t → n ≤ most → P n (digits_of most t n)
  unfolding digits_of
  up_to zero t n e h = one n (omega arith)
  up_to (suc most) true n e h = one n (is_digit_lem n e)
  up_to (suc most) false n e h =
      let high = no_digit n e in more n (digits_of most (is_digit (n / 10)) (n / 10)) high (up_to most (is_digit (n / 10)) (n / 10) refl (omega arith))

  pub by_digits : (n : ℕ) → P n (number_text n)
  unfolding number_text
  by_digits n = up_to n (is_digit n) n refl (omega arith)

-- to look for more digits than a number has finds none
enough : (k m : ℕ) (t : Bool) (n : ℕ) → is_digit n ≡ t → n ≤ k → n ≤ m → digits_of k t n ≡ digits_of m t n
unfolding digits_of
enough zero zero t n e h l = refl
enough zero (suc m) true n e h l = refl
enough zero (suc m) false n e h l = absurd (let high = no_digit n e in omega arith)
enough (suc k) zero true n e h l = refl
enough (suc k) zero false n e h l = absurd (let high = no_digit n e in omega arith)
enough (suc k) (suc m) true n e h l = refl
enough (suc k) (suc m) false n e h l =
    let high = no_digit n e in
    ap (λ (text : List ℕ). with_ones text n) (enough k m (is_digit (n / 10)) (n / 10) refl (omega arith) (omega arith))

-- a digit alone, and a number by its last digit
pub number_one : (n : ℕ) → n < 10 → number_text n ≡ with_ones [] n
unfolding number_text digits_of
number_one zero h = refl
number_one (suc n) h = ap (λ (t : Bool). digits_of (suc n) t (suc n)) (lt-ltb (suc n) 10 h)

pub number_more : (n : ℕ) → 10 ≤ n → number_text n ≡ with_ones (number_text (n / 10)) n
unfolding number_text digits_of
number_more zero h = absurd (omega arith)
number_more (suc n) h =
    ap (λ (t : Bool). digits_of (suc n) t (suc n)) (le-ltb (suc n) 10 h)
    ∙ ap (λ (text : List ℕ). with_ones text (suc n)) (enough n (suc n / 10) (is_digit (suc n / 10)) (suc n / 10) refl (omega arith) (omega arith))

pub number_longer : (n : ℕ) → 10 ≤ n → length (number_text n) ≡ length (number_text (n / 10)) + 1
number_longer n h = let more = ap length (number_more n h) in omega (arith, length-append (number_text (n / 10)) (ones_of n ∷ []))

-- a number below a power of ten has no more digits than that has zeros
few : (n : ℕ) (text : List ℕ) → 10 ≤ n → ((k : ℕ) → n / 10 < 10 ^ suc k → length text ≤ suc k) → (k : ℕ) → n < 10 ^ suc k → length (with_ones text n) ≤ suc k
few n text high before zero h = absurd (omega arith)
few n text high before (suc k) h =
    let ten : 10 ^ suc (suc k) ≡ 10 * 10 ^ suc k = pow-succ' 10 (suc k) in
    let less : n / 10 < 10 ^ suc k = omega arith in
    omega (arith, length-append text (ones_of n ∷ []), before k less)

pub digits_few : (n k : ℕ) → n < 10 ^ suc k → length (number_text n) ≤ suc k
digits_few = by_digits (λ n text. (k : ℕ) → n < 10 ^ suc k → length text ≤ suc k) (λ n h k l. omega arith) few

-- a number of 32 bits has at most ten
pub number_short : (n : ℕ) → n < 4294967296 → length (number_text n) ≤ 10
number_short n h = digits_few n 9 (omega arith)
