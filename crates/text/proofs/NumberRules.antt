-- A number is read exactly if a text is decimal digits that say it. Assumes nothing.
use Prim.Native.Nat.{ℕ, suc, ◌+◌, ◌-◌, ◌*◌, ◌^◌, ◌≤◌}
use mathlib.Core.Path.{◌≡◌, refl, sym, ap, ◌∙◌}
use mathlib.Core.List.{List, [], ◌∷◌, ◌++◌}
use mathlib.Core.Logic.{◌↔◌}
use native.Mathlib.Nat.{mul-one, zero-mul, mul_assoc, pow-zero, pow-succ', mul_left_comm, mul_comm}
use native.Mathlib.Omega.{arith}
use lib.ListN.{length, length-append}
use Rattle.std.specs.Prelude.{Option, Some, None}
use Rattle.std.proofs.lemmas.Option.{none-some}
use Rattle.text.specs.Number.{number_of}
use Rattle.text.specs.Theorems.{value_of, Says, NumberExactly}
use Rattle.text.proofs.Digits.{Decimal, Decimals, worth, first_decimal, digits_read, digits_said}

number_said : (text : List ℕ) (n : ℕ) → (number_of text ≡ Some n) ↔ ((n ≤ 100000) × Says text n)
unfolding number_of
number_said [] n = (λ e. absurd (none-some _ e), λ s. absurd (let some = s.1.some in omega arith))
number_said (b ∷ bs) n =
    let all : worth 0 (b ∷ bs) ≡ value_of (b ∷ bs) = rw zero-mul (omega arith) in (
      λ e. let read = digits_read (b ∷ bs) 0 n (omega arith) e in (read.most, record { some = omega arith; digits = read.digits; value = sym all ∙ read.value }),
      λ s. let is = s.1.value in let most = s.0 in digits_said (b ∷ bs) 0 s.1.digits (omega arith) ∙ ap Some (all ∙ is),
    )

pub number_exactly : NumberExactly
number_exactly text = record {
  said = number_said text;
  otherwise = λ none. by none (number_of text) refl;
}
  where
    by : ((n : ℕ) → n ≤ 100000 → Says text n → ⊥) → (o : Option ℕ) → number_of text ≡ o → number_of text ≡ None
    by none None e = e
    by none (Some n) e = let says = (number_said text n).0 e in absurd (none n says.0 says.1)

-- ---- numbers that are put together digit by digit

-- one digit says its value
pub says_one : (b : ℕ) → Decimal b → Says (b ∷ []) (b - 0x30)
unfolding value_of
says_one b d = record { some = omega arith; digits = first_decimal b [] d (λ i h. absurd (omega arith)); value = rw (pow-zero, mul-one) (omega arith) }

value_behind : (text : List ℕ) (b : ℕ) → value_of (text ++ (b ∷ [])) ≡ value_of text * 10 + (b - 0x30)
unfolding value_of
value_behind [] b = rw (pow-zero, mul-one) (omega arith)
value_behind (a ∷ text) b =
    let size : length (text ++ (b ∷ [])) ≡ suc (length text) = omega (arith, length-append text (b ∷ [])) in
    let ten : (a - 0x30) * 10 ^ suc (length text) ≡ (a - 0x30) * 10 ^ length text * 10 = simp (pow-succ', mul_assoc, mul_comm, mul_left_comm) in
    rw (size, ten, value_behind text b) (omega arith)

decimals_behind : (text : List ℕ) (b : ℕ) → Decimals text → Decimal b → Decimals (text ++ (b ∷ []))
decimals_behind [] b ds d = first_decimal b [] d (λ i h. absurd (omega arith))
decimals_behind (a ∷ text) b ds d = first_decimal a (text ++ (b ∷ [])) (ds 0 (omega arith)) (decimals_behind text b (λ i h. ds (suc i) (omega arith)) d)

-- one digit more behind others
pub says_behind : {text : List ℕ} {n : ℕ} (b : ℕ) → Says text n → Decimal b → Says (text ++ (b ∷ [])) (n * 10 + (b - 0x30))
says_behind {text} b s d = record {
  some = omega (arith, length-append text (b ∷ []));
  digits = decimals_behind text b s.digits d;
  value = value_behind text b ∙ ap (λ (k : ℕ). k * 10 + (b - 0x30)) s.value;
}
