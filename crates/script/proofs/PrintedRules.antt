-- What is printed in hex reads back, and what is printed is one line. Assumes nothing.
use Prim.Native.Nat.{ℕ, zero, suc, ◌+◌, ◌-◌, ◌*◌, ◌/◌, ◌%◌, ◌≤◌, ◌<◌}
use mathlib.Core.Path.{◌≡◌, refl, sym, ap, subst, ◌∙◌}
use mathlib.Core.List.{List, [], ◌∷◌, ◌++◌, append_assoc}
use mathlib.Core.Logic.{inl, inr}
use native.Mathlib.Omega.{arith}
use lib.Dec.{ltb}
use lib.ListN.{length, get_or, length-append}
use borrow.Author.Tests.{ltb-true, ltb-false}
use Rattle.wire.specs.Bytes.{Bytes}
use Rattle.wire.proofs.Choice.{chosen}
use Rattle.text.specs.Theorems.{HexSays, TextSays}
use Rattle.text.specs.Theorems as read
use Rattle.text.proofs.HexRules.{bytes_said}
use Rattle.script.specs.Hex.{glyph_of, hex_of}
use Rattle.script.specs.Printed.{ones_of, with_ones, data_field, data_text, number_field, number_text}
use Rattle.script.specs.PrintedRules.{LinesExactly, NumberPlain, DataReads, HexReads, UpperDigit, decimal, letter, UpperHex, no_more, one_more, HexUpper, DataPrinted, dash, digits, DataUpper, LineEnds, OneLine}
use Rattle.script.specs.Lines.{DataIn, no_data, some_data}
use Rattle.script.specs.declared.Printed.TheVariants.{Answer, Verdict, Dropped, Unreadable}
use Rattle.script.proofs.Digits.{by_digits, number_one}
use Rattle.script.proofs.Fields.{data_is, data_said}

-- the bytes behind the first
rest : (b : ℕ) (bs : List ℕ) → Bytes (b ∷ bs) → Bytes bs
rest b bs h = record { at = λ i. h.at (suc i) }

-- the digit of a value, whichever it is
upper_digit : (d : ℕ) → d < 16 → UpperDigit (glyph_of d) d
unfolding glyph_of
upper_digit d h =
    chosen (λ (g : ℕ). UpperDigit g d) (ltb d 10) _ _ (λ e. decimal d (ltb-true d 10 e))
    (λ e.
    let high = ltb-false d 10 e in
    let is : UpperDigit (0x41 + (d - 10)) (10 + (d - 10)) = letter (d - 10) (omega arith) in
    let value : 10 + (d - 10) ≡ d = omega arith in
    subst (λ (g : ℕ). UpperDigit g d) (omega arith) (subst (UpperDigit (0x41 + (d - 10))) value is))

pub hex_upper : HexUpper
unfolding hex_of
hex_upper [] h = no_more
hex_upper (b ∷ bs) h =
    let byte : b < 256 = h.at 0 in
    let value : b / 16 * 16 + b % 16 ≡ b = omega arith in
    subst (λ (v : ℕ). UpperHex (hex_of (b ∷ bs)) (v ∷ bs)) value
    (one_more _ _ (b / 16) (b % 16) _ bs (upper_digit (b / 16) (omega arith)) (upper_digit (b % 16) (omega arith)) (hex_upper bs (rest b bs h)))

-- bytes that are printed are said
upper_says : {x a : ℕ} → UpperDigit x a → HexSays x a
upper_says (decimal d h) = read.decimal d h
upper_says (letter d h) = read.upper d h

upper_text : {text bs : List ℕ} → UpperHex text bs → TextSays text bs
upper_text no_more = read.no_more
upper_text (one_more x y a b text bs p q r) = read.one_more x y a b text bs (upper_says p) (upper_says q) (upper_text r)

pub data_upper : DataUpper
data_upper [] h = dash
data_upper (b ∷ bs) h = digits _ (b ∷ bs) (omega arith) (hex_upper (b ∷ bs) h)

printed_in : {text bs : List ℕ} → DataPrinted text bs → DataIn text bs
printed_in dash = no_data
printed_in (digits text bs some h) = some_data text bs some (upper_text h)

pub data_written : (bs : List ℕ) → Bytes bs → DataIn (data_text bs) bs
data_written bs h = printed_in (data_upper bs h)

pub hex_reads : HexReads
hex_reads bs h =
    let says = upper_text (hex_upper bs h) in (bytes_said.said (hex_of bs) bs says, λ some. data_is (some_data (hex_of bs) bs (omega arith) says))

pub data_reads : DataReads
data_reads bs h = let is = data_written bs h in (data_said is, data_is is)

-- every byte is a space or above it
data Plain : List ℕ → Type 0 where
  none : Plain []
  more : {b : ℕ} {bs : List ℕ} → 0x20 ≤ b → Plain bs → Plain (b ∷ bs)

plain_at : {l : List ℕ} → Plain l → (i : ℕ) → i < length l → 0x20 ≤ get_or l i 0
plain_at none i h = absurd (omega arith)
plain_at (more high p) zero h = high
plain_at (more high p) (suc i) h = plain_at p i (omega arith)

plain_append : {xs ys : List ℕ} → Plain xs → Plain ys → Plain (xs ++ ys)
plain_append none q = q
plain_append (more high p) q = more high (plain_append p q)

plain_glyph : (d : ℕ) → 0x20 ≤ glyph_of d
unfolding glyph_of
plain_glyph d = chosen (λ (g : ℕ). 0x20 ≤ g) (ltb d 10) (48 + d) (55 + d) (λ e. omega arith) (λ e. omega arith)

plain_hex : (bs : List ℕ) → Plain (hex_of bs)
unfolding hex_of
plain_hex [] = none
plain_hex (b ∷ bs) = more (plain_glyph (b / 16)) (more (plain_glyph (b % 16)) (plain_hex bs))

plain_number : (n : ℕ) → Plain (number_text n)
plain_number = by_digits (λ n text. Plain text) (λ n h. more (omega arith) none) (λ n text h p. plain_append p (more (omega arith) none))

plain_data : (bs : List ℕ) → Plain (data_text bs)
plain_data [] = more {b = 0x2D} (omega arith) none
plain_data (b ∷ bs) = plain_hex (b ∷ bs)

-- a field, with the space behind it
spaced : {l : List ℕ} → Plain l → Plain (l ++ (0x20 ∷ []))
spaced p = plain_append p (more (omega arith) none)

-- plain bytes and a newline are one line
ended : (text body : List ℕ) → text ≡ body ++ (0x0A ∷ []) → Plain body → OneLine text
ended text body e p = record { body = body; whole = e; plain = λ i h n. let high = plain_at p i h in omega arith }

pub line_ends : LineEnds
line_ends (Answer number note) bytes =
    ended _ (number_field number 0x20 ++ (data_field bytes ++ number_text note)) (simp append_assoc)
    (plain_append (spaced (plain_number number)) (plain_append (spaced (plain_data bytes)) (plain_number note)))
line_ends (Verdict place verdict) bytes =
    ended _ (0x56 ∷ 0x20 ∷ (number_field place 0x20 ++ number_text verdict)) (simp append_assoc)
    (more (omega arith) (more (omega arith) (plain_append (spaced (plain_number place)) (plain_number verdict))))
line_ends (Dropped count) bytes = ended _ (0x4B ∷ 0x20 ∷ number_text count) refl (more (omega arith) (more (omega arith) (plain_number count)))
line_ends Unreadable bytes = ended _ (0x3F ∷ []) refl (more (omega arith) none)

pub lines_exactly : LinesExactly
lines_exactly bytes = record { answer = λ n m. simp append_assoc; verdict = λ p v. simp append_assoc; dropped = λ n. refl; unreadable = refl }

-- the first digit is the first of those before the last one
first_kept : (text : List ℕ) (n : ℕ) → 1 ≤ length text → get_or (with_ones text n) 0 0 ≡ get_or text 0 0
first_kept [] n some = absurd (omega arith)
first_kept (b ∷ bs) n some = refl

-- it is no zero, unless the number is 0
record First (n : ℕ) (text : List ℕ) : Type 0 where
  some : 1 ≤ length text
  high : 1 ≤ n → get_or text 0 0 ≡ 0x30 → ⊥

first_digit : (n : ℕ) → First n (number_text n)
first_digit =
    by_digits First (λ n h. record { some = omega arith; high = λ l e. omega arith })
    (λ n text h f. record {
      some = omega (arith, length-append text (ones_of n ∷ []), f.some);
      high = λ l e. f.high (omega arith) (sym (first_kept text n f.some) ∙ e);
    })

pub number_plain : NumberPlain
number_plain zero = inl (ap length (number_one 0 (omega arith)))
number_plain (suc n) = inr ((first_digit (suc n)).high (omega arith))
