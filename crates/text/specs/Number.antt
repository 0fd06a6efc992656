-- Decimal numbers (01: "Numbers are decimal").
use Rattle.std.specs.Prelude.{ℕ, ◌+◌, ◌-◌, ◌*◌, cond, List, [], ◌∷◌, ltb, Option, Some, None, option_and_then}

-- A number with one digit more: none where the byte is no digit, and none above 100,000, the highest that any field may say.
unfoldable pub with_digit : ℕ → ℕ → Option ℕ
with_digit n b =
    cond (ltb b 0x30) None
    (cond (ltb 0x39 b) None
    (cond (ltb 100000 (n * 10 + (b - 0x30))) None (Some (n * 10 + (b - 0x30)))))

-- a number with all these digits more
unfoldable pub with_digits : ℕ → List ℕ → Option ℕ
with_digits n [] = Some n
with_digits n (b ∷ bs) = option_and_then (λ m. with_digits m bs) (with_digit n b)

-- the number that a field says, if it says one up to 100,000; an empty one says none
unfoldable pub number_of : List ℕ → Option ℕ
number_of [] = None
number_of (b ∷ bs) = with_digits 0 (b ∷ bs)
