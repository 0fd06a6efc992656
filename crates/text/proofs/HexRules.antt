-- Bytes are read exactly if a text is hex digits, or `-`. Assumes nothing.
use Prim.Native.Nat.{ℕ, zero, suc, ◌+◌, ◌-◌, ◌*◌, ◌%◌, ◌≤◌, ◌<◌}
use mathlib.Core.Path.{◌≡◌, refl, ap, ◌∙◌}
use mathlib.Core.Bool.{true, false≢true}
use mathlib.Core.List.{List, [], ◌∷◌}
use mathlib.Core.Logic.{◌↔◌, ◌⊎◌, inl, inr, ⊎_elim}
use native.Mathlib.Omega.{arith}
use lib.Dec.{eqb, ltb, leb}
use lib.ListN.{length, get_or}
use borrow.Author.Tests.{le-ltb, le-leb, lt-leb, ne_eqb, ltb-false, leb-true, eqb-true, eqb-false}
use Rattle.std.specs.Prelude.{Option, Some, is_some}
use Rattle.wire.proofs.Choice.{chosen, both}
use Rattle.text.specs.Hex.{digit_of, are_digits, byte_of, is_data, data_of}
use Rattle.text.specs.Theorems.{HexDigit, HexText, DataExactly, HexTable, HexSays, TextSays, decimal, upper, lower, no_more, one_more, BytesSaid}

-- a digit's value, up to 9, from A on and from a on
pub digit_low : (b : ℕ) → 0x30 ≤ b → b ≤ 0x39 → digit_of b ≡ Some (b - 0x30)
unfolding digit_of
digit_low b h l = rw (le-ltb b 0x30 h, le-leb b 0x39 l)

pub digit_upper : (b : ℕ) → 0x41 ≤ b → b ≤ 0x46 → digit_of b ≡ Some (b - 0x41 + 10)
unfolding digit_of
digit_upper b h l = rw (le-ltb b 0x30 (omega arith), lt-leb b 0x39 (omega arith), le-ltb b 0x41 h, le-leb b 0x46 l)

pub digit_lower : (b : ℕ) → 0x61 ≤ b → b ≤ 0x66 → digit_of b ≡ Some (b - 0x61 + 10)
unfolding digit_of
digit_lower b h l =
    rw (le-ltb b 0x30 (omega arith), lt-leb b 0x39 (omega arith), le-ltb b 0x41 (omega arith), lt-leb b 0x46 (omega arith), le-ltb b 0x61 h, le-leb b 0x66 l)

-- a byte with a value is a digit
digit_is : (b : ℕ) → is_some (digit_of b) ≡ true → HexDigit b
unfolding digit_of
digit_is b =
    chosen (λ (o : Option ℕ). is_some o ≡ true → HexDigit b) (ltb b 0x30) _ _ (λ e t. absurd (false≢true t))
    (λ from_0. chosen (λ (o : Option ℕ). is_some o ≡ true → HexDigit b) (leb b 0x39) _ _ (λ to_9 t. inl (ltb-false b 0x30 from_0, leb-true b 0x39 to_9))
    (λ over_9. chosen (λ (o : Option ℕ). is_some o ≡ true → HexDigit b) (ltb b 0x41) _ _ (λ e t. absurd (false≢true t))
    (λ from_a. chosen (λ (o : Option ℕ). is_some o ≡ true → HexDigit b) (leb b 0x46) _ _ (λ to_f t. inr (inl (ltb-false b 0x41 from_a, leb-true b 0x46 to_f)))
    (λ over_f. chosen (λ (o : Option ℕ). is_some o ≡ true → HexDigit b) (ltb b 0x61) _ _ (λ e t. absurd (false≢true t))
    (λ from_a. chosen (λ (o : Option ℕ). is_some o ≡ true → HexDigit b) (leb b 0x66) _ _ (λ to_f t. inr (inr (ltb-false b 0x61 from_a, leb-true b 0x66 to_f))) (λ e t. absurd (false≢true t)))))))

is_digit_lem : (b : ℕ) → HexDigit b → is_some (digit_of b) ≡ true
is_digit_lem b =
    ⊎_elim (λ d. ap is_some (digit_low b d.0 d.1)) (⊎_elim (λ d. ap is_some (digit_upper b d.0 d.1)) (λ d. ap is_some (digit_lower b d.0 d.1)))

abbrev HexDigits : List ℕ → Type 0
HexDigits text = (i : ℕ) → i < length text → HexDigit (get_or text i 0)

first_digit : (b : ℕ) (bs : List ℕ) → HexDigit b → HexDigits bs → HexDigits (b ∷ bs)
first_digit b bs d ds zero h = d
first_digit b bs d ds (suc i) h = ds i (omega arith)

digits_are : (text : List ℕ) → (are_digits text ≡ true) ↔ HexDigits text
unfolding are_digits
digits_are [] = (λ e i h. absurd (omega arith), λ ds. refl)
digits_are (b ∷ bs) =
    let rest = digits_are bs in (
      λ e. let two = (both (is_some (digit_of b)) (are_digits bs)).0 e in first_digit b bs (digit_is b two.0) (rest.0 two.1),
      λ ds. rw (is_digit_lem b (ds 0 (omega arith))) (rest.1 (λ i h. ds (suc i) (omega arith))),
    )

-- a text of one byte
single : (text : List ℕ) → length text ≡ 1 → get_or text 0 0 ≡ 0x2D → text ≡ 0x2D ∷ []
single [] n e = absurd (omega arith)
single (b ∷ []) n e = ap (λ (k : ℕ). k ∷ []) e
single (b ∷ c ∷ rest) n e = absurd (omega arith)

data_is : (text : List ℕ) → is_data text ≡ true → (text ≡ 0x2D ∷ []) ⊎ HexText text
unfolding is_data
data_is text =
    chosen (λ t. t ≡ true → (text ≡ 0x2D ∷ []) ⊎ HexText text) (eqb (length text) 0) _ _ (λ e t. absurd (false≢true t))
    (λ some. chosen (λ t. t ≡ true → (text ≡ 0x2D ∷ []) ⊎ HexText text) (eqb (length text) 1) _ _
    (λ one t. inl (single text (eqb-true (length text) 1 one) (eqb-true (get_or text 0 0) 0x2D t)))
    (λ more. chosen (λ t. t ≡ true → (text ≡ 0x2D ∷ []) ⊎ HexText text) (eqb (length text % 2) 1) _ _ (λ e t. absurd (false≢true t))
    (λ even t.
    let any = eqb-false (length text) 0 some in
    let half = eqb-false (length text % 2) 1 even in
    inr (record { some = omega arith; even = omega arith; digits = (digits_are text).0 t }))))

is_data_lem : (text : List ℕ) → HexText text → is_data text ≡ true
unfolding is_data
is_data_lem text h =
    let some = h.some in
    let even = h.even in
    rw (ne_eqb (length text) 0 (λ e. omega arith), ne_eqb (length text) 1 (λ e. omega arith), ne_eqb (length text % 2) 1 (λ e. omega arith)) ((digits_are text).1 h.digits)

no_data : (text : List ℕ) → text ≡ 0x2D ∷ [] → is_data text ≡ true
unfolding is_data
no_data text e = ap is_data e

pub data_exactly : DataExactly
data_exactly text = (data_is text, ⊎_elim (no_data text) (is_data_lem text))

pub hex_table : HexTable
unfolding data_of byte_of digit_of
hex_table = record { upper = refl; lower = refl }

-- a digit that says a value has it
value_of : (x a : ℕ) → HexSays x a → digit_of x ≡ Some a
value_of _ _ (decimal d h) = digit_low (0x30 + d) (omega arith) (omega arith) ∙ ap Some (omega arith)
value_of _ _ (upper d h) = digit_upper (0x41 + d) (omega arith) (omega arith) ∙ ap Some (omega arith)
value_of _ _ (lower d h) = digit_lower (0x61 + d) (omega arith) (omega arith) ∙ ap Some (omega arith)

byte_of_lem : (x y a b : ℕ) → HexSays x a → HexSays y b → byte_of x y ≡ a * 16 + b
unfolding byte_of
byte_of_lem x y a b p q = rw (value_of x a p, value_of y b q)

bytes_of : (text bs : List ℕ) → TextSays text bs → data_of text ≡ bs
unfolding data_of
bytes_of _ _ no_more = refl
bytes_of _ _ (one_more x y a b text bs p q r) = rw (byte_of_lem x y a b p q, bytes_of text bs r)

pub bytes_said : BytesSaid
unfolding data_of
bytes_said = record { said = bytes_of; none = refl }
