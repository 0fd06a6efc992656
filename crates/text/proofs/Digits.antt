-- The digits of a number as they are read one by one, and as they are to be read. Assumes nothing.
use Prim.Native.Nat.{ℕ, zero, suc, ◌+◌, ◌-◌, ◌*◌, ◌^◌, ◌≤◌, ◌<◌}
use mathlib.Core.Path.{◌≡◌, sym, ap, ◌∙◌}
use mathlib.Core.List.{List, [], ◌∷◌}
use native.Mathlib.Nat.{mul-one, mul_assoc, add-mul, add_assoc, one-le-pow, mul-le-mul_left, pow-zero, pow-succ'}
use native.Mathlib.Omega.{arith}
use lib.Dec.{ltb}
use lib.ListN.{length, get_or}
use borrow.Author.Tests.{le-ltb, ltb-false}
use Rattle.std.specs.Prelude.{Option, Some, option_and_then}
use Rattle.std.proofs.lemmas.Option.{none-some, same_Some}
use Rattle.wire.proofs.Choice.{chosen}
use Rattle.text.specs.Number.{with_digit, with_digits}
use Rattle.text.specs.Theorems.{value_of}

abbrev pub Decimal : ℕ → Type 0
Decimal b = (0x30 ≤ b) × (b ≤ 0x39)

abbrev pub Decimals : List ℕ → Type 0
Decimals text = (i : ℕ) → i < length text → Decimal (get_or text i 0)

-- digits n, with these behind them, are worth
abbrev pub worth : ℕ → List ℕ → ℕ
worth n bs = n * 10 ^ length bs + value_of bs

worth_none : (n : ℕ) → worth n [] ≡ n
unfolding value_of
worth_none n = rw (pow-zero, mul-one) (omega arith)

pub worth_next : (n b : ℕ) (bs : List ℕ) → worth n (b ∷ bs) ≡ worth (n * 10 + (b - 0x30)) bs
unfolding value_of
worth_next n b bs = simp (pow-succ', add-mul, mul_assoc, add_assoc)

at_least : (n : ℕ) (bs : List ℕ) → n ≤ worth n bs
at_least n bs =
    let ten : 1 ≤ 10 ^ length bs = one-le-pow (length bs) 10 (omega arith) in
    let more : n * 1 ≤ n * 10 ^ length bs = mul-le-mul_left n ten in
    omega arith

digit_some : (n b : ℕ) → Decimal b → n * 10 + (b - 0x30) ≤ 100000 → with_digit n b ≡ Some (n * 10 + (b - 0x30))
unfolding with_digit
digit_some n b d few = rw (le-ltb b 0x30 d.0, le-ltb 0x39 b d.1, le-ltb 100000 (n * 10 + (b - 0x30)) few)

-- the digits that were read
pub first_decimal : (b : ℕ) (bs : List ℕ) → Decimal b → Decimals bs → Decimals (b ∷ bs)
first_decimal b bs d ds zero h = d
first_decimal b bs d ds (suc i) h = ds i (omega arith)

-- they say the number, and it is not too high
pub record DigitsRead (bs : List ℕ) (n m : ℕ) : Type 0 where
  pub most : m ≤ 100000
  pub digits : Decimals bs
  pub value : worth n bs ≡ m

pub digits_read : (bs : List ℕ) (n m : ℕ) → n ≤ 100000 → with_digits n bs ≡ Some m → DigitsRead bs n m
unfolding with_digits with_digit
digits_read [] n m h = λ e. let is = same_Some _ _ e in record { most = omega arith; digits = λ i l. absurd (omega arith); value = worth_none n ∙ is }
digits_read (b ∷ bs) n m h =
    chosen (λ (o : Option ℕ). option_and_then (λ k. with_digits k bs) o ≡ Some m → DigitsRead (b ∷ bs) n m) (ltb b 0x30) _ _ (λ low e. absurd (none-some _ e))
    (λ low. chosen (λ (o : Option ℕ). option_and_then (λ k. with_digits k bs) o ≡ Some m → DigitsRead (b ∷ bs) n m) (ltb 0x39 b) _ _ (λ high e. absurd (none-some _ e))
    (λ high. chosen (λ (o : Option ℕ). option_and_then (λ k. with_digits k bs) o ≡ Some m → DigitsRead (b ∷ bs) n m) (ltb 100000 (n * 10 + (b - 0x30))) _ _ (λ many e. absurd (none-some _ e))
    (λ few e.
    let rest = digits_read bs (n * 10 + (b - 0x30)) m (ltb-false 100000 (n * 10 + (b - 0x30)) few) e in record {
      most = rest.most;
      digits = first_decimal b bs (ltb-false b 0x30 low, ltb-false 0x39 b high) rest.digits;
      value = worth_next n b bs ∙ rest.value;
    })))

-- the digits that are to be read
pub digits_said : (bs : List ℕ) (n : ℕ) → Decimals bs → worth n bs ≤ 100000 → with_digits n bs ≡ Some (worth n bs)
unfolding with_digits
digits_said [] n ds few = ap Some (sym (worth_none n))
digits_said (b ∷ bs) n ds few =
    let next = worth_next n b bs in
    let less = at_least (n * 10 + (b - 0x30)) bs in
    let one : with_digit n b ≡ Some (n * 10 + (b - 0x30)) = digit_some n b (ds 0 (omega arith)) (omega arith) in
    ap (option_and_then (λ (k : ℕ). with_digits k bs)) one ∙ digits_said bs (n * 10 + (b - 0x30)) (λ i h. ds (suc i) (omega arith)) (omega arith) ∙ ap Some (sym next)
