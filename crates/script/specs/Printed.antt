-- What bench prints (01: "prints one line each: refusal number or 0, bytes out in hex or `-`, note"; "`V` place prints V, place,
-- verdict"; "prints `?`"). `K` (02, request 2) prints `K n`, how many reports were dropped.
use Rattle.std.specs.Prelude.{ℕ, zero, suc, ◌+◌, ◌-◌, ◌/◌, ◌%◌, Bool, true, false, cond, List, [], ◌∷◌, ◌++◌, leb, ltb}
use Rattle.script.specs.Hex.{hex_of}
use Rattle.script.specs.declared.Printed.{Printed}
use Rattle.script.specs.declared.Printed.TheVariants.{Answer, Verdict, Dropped, Unreadable}

-- the last decimal digit of a number
abbrev pub ones_of : ℕ → ℕ
ones_of n = 48 + n % 10

-- the digits before the last one, and the last one
abbrev pub with_ones : List ℕ → ℕ → List ℕ
with_ones text n = text ++ (ones_of n ∷ [])

abbrev pub is_digit : ℕ → Bool
is_digit n = ltb n 10

-- a number's digits, without zeros before them: with no more before the last one than `most`, and by whether it is one digit
unfoldable pub digits_of : ℕ → Bool → ℕ → List ℕ
digits_of zero t n = with_ones [] n
digits_of (suc most) true n = with_ones [] n
digits_of (suc most) false n = with_ones (digits_of most (is_digit (n / 10)) (n / 10)) n

-- any number in decimal: before its last digit it has no more of them than it says
unfoldable pub number_text : ℕ → List ℕ
number_text n = digits_of n (is_digit n) n

-- a number, and a byte behind it
abbrev pub number_field : ℕ → ℕ → List ℕ
number_field n mark = number_text n ++ (mark ∷ [])

-- bytes in hex, or `-`
abbrev pub data_text : List ℕ → List ℕ
data_text [] = 0x2D ∷ []
data_text (b ∷ bs) = hex_of (b ∷ bs)

-- the same, and a space behind them
abbrev pub data_field : List ℕ → List ℕ
data_field bytes = data_text bytes ++ (0x20 ∷ [])

abbrev pub answer_text : ℕ → List ℕ → ℕ → List ℕ
answer_text number bytes note = number_field number 0x20 ++ (data_field bytes ++ number_field note 0x0A)

abbrev pub verdict_text : ℕ → ℕ → List ℕ
verdict_text place verdict = (0x56 ∷ 0x20 ∷ []) ++ (number_field place 0x20 ++ number_field verdict 0x0A)

abbrev pub dropped_text : ℕ → List ℕ
dropped_text count = (0x4B ∷ 0x20 ∷ []) ++ number_field count 0x0A

abbrev pub unreadable_text : List ℕ
unreadable_text = 0x3F ∷ 0x0A ∷ []

-- a line, with its end
abbrev pub text_of : Printed → List ℕ → List ℕ
text_of (Answer number note) bytes = answer_text number bytes note
text_of (Verdict place verdict) bytes = verdict_text place verdict
text_of (Dropped count) bytes = dropped_text count
text_of Unreadable bytes = unreadable_text

-- whether so many bytes in hex, or `-`, and a space fit
unfoldable pub data_fits : ℕ → ℕ → Bool
data_fits count room = cond (ltb room 2) false (leb count ((room - 1) / 2))
