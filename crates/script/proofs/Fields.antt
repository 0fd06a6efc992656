-- What the fields of a line say: taken apart at a space and put together again, numbers, and bytes. Assumes nothing.
use Prim.Native.Nat.{ℕ, zero, suc, ◌+◌, ◌-◌, ◌*◌, ◌%◌, ◌≤◌, ◌<◌}
use mathlib.Core.Path.{◌≡◌, refl, sym, ap, subst, ◌∙◌}
use mathlib.Core.Bool.{Bool, true, false}
use mathlib.Core.List.{List, [], ◌∷◌, ◌++◌}
use mathlib.Core.Logic.{inl, inr, ⊎_elim}
use native.Mathlib.Omega.{arith}
use lib.Dec.{eqb, ltb}
use lib.ListN.{length, take, drop, get_or, length-take}
use borrow.Author.Tests.{eqb-true, ltb-false, le-ltb}
use Rattle.std.specs.Prelude.{Option, Some, None}
use Rattle.std.proofs.lemmas.Option.{none-some, same_Some}
use Rattle.wire.proofs.Choice.{chosen}
use Rattle.text.specs.Find.{index_of, index_after}
use Rattle.wire.specs.Bytes.{Bytes as AreBytes}
use Rattle.text.specs.Field.{field_of, behind_of, letter_of}
use Rattle.text.specs.Number.{number_of}
use Rattle.text.specs.Hex.{is_data, data_of}
use Rattle.text.specs.Theorems.{NoSpace, Says, HexDigit, HexText, HexSays, TextSays, decimal, upper, lower, no_more, one_more}
use Rattle.text.proofs.FieldRules.{fields_exactly, letter_exactly}
use Rattle.text.proofs.NumberRules.{number_exactly}
use Rattle.text.proofs.HexRules.{data_exactly, bytes_said}
use Rattle.script.specs.Command.{read_then, within, number_in}
use Rattle.script.specs.Lines.{NumberIn, DataIn, no_data, some_data}

-- ---- fields

-- a text with something behind its first space is its first field, the space, and that
at_space : (b : ℕ) (bs : List ℕ) (t : Bool) → eqb b 0x20 ≡ t → (1 ≤ length (drop (index_of 0x20 bs + 1) bs) → take (index_of 0x20 bs) bs ++ (0x20 ∷ drop (index_of 0x20 bs + 1) bs) ≡ bs)
    → 1 ≤ length (drop (index_after t (index_of 0x20 bs) + 1) (b ∷ bs))
    → take (index_after t (index_of 0x20 bs)) (b ∷ bs) ++ (0x20 ∷ drop (index_after t (index_of 0x20 bs) + 1) (b ∷ bs)) ≡ b ∷ bs
unfolding index_after
at_space b bs true e rest h = ap (λ (k : ℕ). k ∷ bs) (sym (eqb-true b 0x20 e))
at_space b bs false e rest h =
    let next : suc (index_of 0x20 bs) + 1 ≡ suc (index_of 0x20 bs + 1) = omega arith in
    rw next (ap (λ (l : List ℕ). b ∷ l) (rest (rw next at h)))

whole : (text : List ℕ) → 1 ≤ length (behind_of text) → field_of text ++ (0x20 ∷ behind_of text) ≡ text
unfolding field_of behind_of index_of
whole [] h = absurd (omega arith)
whole (b ∷ bs) h = at_space b bs (eqb b 0x20) refl (whole bs) h

-- the same, with what stands behind the space named
pub text_is : (text rest : List ℕ) → behind_of text ≡ rest → 1 ≤ length (behind_of text) → text ≡ field_of text ++ (0x20 ∷ rest)
text_is text rest e h = sym (whole text h) ∙ ap (λ (l : List ℕ). field_of text ++ (0x20 ∷ l)) e

-- a field is no longer than its text
field_length : (text : List ℕ) → length (field_of text) ≤ length text
unfolding field_of
field_length text = omega (arith, length-take (index_of 0x20 text) text)

-- a letter, and decimal digits, are fields
pub letter_free : (b : ℕ) → (b ≡ 0x20 → ⊥) → NoSpace (b ∷ [])
letter_free b h zero l e = h e
letter_free b h (suc i) l e = omega arith

pub number_free : {text : List ℕ} {n : ℕ} → Says text n → NoSpace text
number_free s i h e = let d = (s.digits i h).0 in omega arith

-- a field, and what stands behind it
pub record Parted (field rest : List ℕ) : Type 0 where
  pub first : field_of (field ++ (0x20 ∷ rest)) ≡ field
  pub behind : behind_of (field ++ (0x20 ∷ rest)) ≡ rest

pub parted : (field rest : List ℕ) → NoSpace field → Parted field rest
parted field rest free = let f = (fields_exactly field rest free).first in record { first = f.0; behind = f.1 }

-- a field that is a letter
pub letter_is : (text : List ℕ) (x b : ℕ) → letter_of text ≡ Some x → eqb x b ≡ true → text ≡ b ∷ []
letter_is text x b letter e = (letter_exactly text b).0 (letter ∙ ap Some (eqb-true x b e))

-- it has one byte in it
pub letter_some : {letter : ℕ} (text : List ℕ) → field_of text ≡ letter ∷ [] → 1 ≤ length text
letter_some text e = let one = ap length e in omega (arith, field_length text)

-- a line of one byte whose first field is a letter is that letter
one_at : (t : Bool) (x b : ℕ) → take (index_after t 0) (x ∷ []) ≡ b ∷ [] → x ∷ [] ≡ b ∷ []
unfolding index_after
one_at true x b e = absurd (omega (arith, ap length e))
one_at false x b e = e

pub one_byte : (line : List ℕ) (b : ℕ) → field_of line ≡ b ∷ [] → length line ≡ 1 → line ≡ b ∷ []
unfolding field_of index_of
one_byte [] b e n = absurd (omega arith)
one_byte (x ∷ []) b e n = one_at (eqb x 0x20) x b e
one_byte (x ∷ y ∷ rest) b e n = absurd (omega arith)

-- ---- numbers and bytes

pub number_said : {most n : ℕ} {text : List ℕ} → most ≤ 100000 → NumberIn most text n → number_in most text ≡ Some n
number_said {most} {n} {text} h w =
    let l = w.within in
    let read : number_of text ≡ Some n = ((number_exactly text).said n).1 (omega arith, w.says) in
    rw (read, le-ltb most n l)

-- a number is at least one digit
pub number_some : {most n : ℕ} {text : List ℕ} → NumberIn most text n → 1 ≤ length text
number_some w = w.says.some

pub number_read : {most n : ℕ} (text : List ℕ) → number_in most text ≡ Some n → NumberIn most text n
number_read {most} {n} text e = by (number_of text) refl e
  where
    by : (o : Option ℕ) → number_of text ≡ o → read_then o (within most) ≡ Some n → NumberIn most text n
    by None is = λ e. absurd (none-some _ e)
    by (Some m) is =
        chosen (λ (o : Option ℕ). o ≡ Some n → NumberIn most text n) (ltb most m) _ _ (λ many e. absurd (none-some _ e))
        (λ few e.
        let same : m ≡ n = same_Some _ _ e in
        let l = ltb-false most m few in
        record { says = (((number_exactly text).said n).0 (is ∙ ap Some same)).1; within = omega arith })

-- a digit that says a value is a digit, and one says its value
said_digit : {x a : ℕ} → HexSays x a → HexDigit x
said_digit (decimal d h) = inl (omega arith, omega arith)
said_digit (upper d h) = inr (inl (omega arith, omega arith))
said_digit (lower d h) = inr (inr (omega arith, omega arith))

record Digit (x : ℕ) : Type 0 where
  value : ℕ
  says : HexSays x value

-- a digit from the first of its kind on
digit_from : {x : ℕ} (k v : ℕ) → k ≤ x → ((d : ℕ) → x ≡ k + d → HexSays (k + d) (v + d)) → Digit x
digit_from {x} k v h f =
    let at : x ≡ k + (x - k) = omega arith in record { value = v + (x - k); says = subst (λ (y : ℕ). HexSays y (v + (x - k))) (sym at) (f (x - k) at) }

digit_said : (x : ℕ) → HexDigit x → Digit x
digit_said x =
    ⊎_elim (λ h. record { value = x - 0x30; says = subst (λ (y : ℕ). HexSays y (x - 0x30)) (omega (arith, h.0)) (decimal (x - 0x30) (omega (arith, h.1))) })
    (⊎_elim (λ h. digit_from 0x41 10 h.0 (λ d e. upper d (omega (arith, h.1)))) (λ h. digit_from 0x61 10 h.0 (λ d e. lower d (omega (arith, h.1)))))

-- a text that says bytes is hex digits, two for each
pub said_length : {text bs : List ℕ} → TextSays text bs → length text ≡ 2 * length bs
said_length no_more = refl
said_length (one_more x y a b text bs p q r) = omega (arith, said_length r)

said_digits : {text bs : List ℕ} → TextSays text bs → (i : ℕ) → i < length text → HexDigit (get_or text i 0)
said_digits no_more i h = absurd (omega arith)
said_digits (one_more x y a b text bs p q r) zero h = said_digit p
said_digits (one_more x y a b text bs p q r) (suc zero) h = said_digit q
said_digits (one_more x y a b text bs p q r) (suc (suc i)) h = said_digits r i (omega arith)

pub data_is : {text bs : List ℕ} → DataIn text bs → is_data text ≡ true
data_is no_data = (data_exactly (0x2D ∷ [])).1 (inl refl)
data_is (some_data text bs some s) =
    let size = said_length s in (data_exactly text).1 (inr (record { some = omega arith; even = omega arith; digits = said_digits s }))

pub data_said : {text bs : List ℕ} → DataIn text bs → data_of text ≡ bs
data_said no_data = bytes_said.none
data_said (some_data text bs some s) = bytes_said.said text bs s

pub data_some : {text bs : List ℕ} → DataIn text bs → 1 ≤ length text
data_some no_data = omega arith
data_some (some_data text bs some s) = let size = said_length s in omega arith

-- and hex digits, two for each byte, say some
record SaysBytes (text : List ℕ) : Type 0 where
  bytes : List ℕ
  says : TextSays text bytes

hex_said : (text : List ℕ) → length text % 2 ≡ 0 → ((i : ℕ) → i < length text → HexDigit (get_or text i 0)) → SaysBytes text
hex_said [] even ds = record { bytes = []; says = no_more }
hex_said (x ∷ []) even ds = absurd (omega arith)
hex_said (x ∷ y ∷ text) even ds =
    let first = digit_said x (ds 0 (omega arith)) in
    let second = digit_said y (ds 1 (omega arith)) in
    let rest = hex_said text (omega arith) (λ i h. ds (suc (suc i)) (omega arith)) in
    record { bytes = (first.value * 16 + second.value) ∷ rest.bytes; says = one_more x y first.value second.value text rest.bytes first.says second.says rest.says }

pub data_read : (text : List ℕ) → is_data text ≡ true → DataIn text (data_of text)
unfolding data_of
data_read text e = ⊎_elim (λ none. rw none no_data) some ((data_exactly text).0 e)
  where
    some : HexText text → DataIn text (data_of text)
    some h =
        let s = hex_said text h.even h.digits in
        let size = said_length s.says in
        let bytes = bytes_said.said text s.bytes s.says in
        rw bytes (some_data text s.bytes (omega (arith, h.some)) s.says)

-- a text whose first field says a number has something in it
pub field_some : {most n : ℕ} (text : List ℕ) → NumberIn most (field_of text) n → 1 ≤ length text
field_some text w = let some = number_some w in omega (arith, field_length text)

-- a byte that is said is one
value_most : {x a : ℕ} → HexSays x a → a < 16
value_most (decimal d h) = omega arith
value_most (upper d h) = omega arith
value_most (lower d h) = omega arith

text_bytes : {text bs : List ℕ} → TextSays text bs → (i : ℕ) → get_or bs i 0 < 256
text_bytes no_more i = omega arith
text_bytes (one_more x y a b text bs p q r) zero = omega (arith, value_most p, value_most q)
text_bytes (one_more x y a b text bs p q r) (suc i) = text_bytes r i

pub data_bytes : {text bs : List ℕ} → DataIn text bs → AreBytes bs
data_bytes no_data = record { at = λ i. omega arith }
data_bytes (some_data text bs some s) = record { at = text_bytes s }
