-- What is proved of the definitions of this crate, over all inputs: they say what 01 says. Each proof is in `proofs/`.
use Rattle.std.specs.Prelude.{ℕ, ◌+◌, ◌-◌, ◌*◌, ◌%◌, ◌^◌, ◌≤◌, ◌<◌, ◌≡◌, true, List, [], ◌∷◌, ◌++◌, ◌↔◌, ◌⊎◌, length, get_or, Option, Some, None}
use Rattle.text.specs.Find.{index_of}
use Rattle.text.specs.Field.{field_of, behind_of, letter_of}
use Rattle.text.specs.Number.{number_of}
use Rattle.text.specs.Hex.{is_data, data_of}

-- ---- where a byte stands

-- a text without the byte b
abbrev pub Lacks : ℕ → List ℕ → Type 0
Lacks b text = (i : ℕ) → i < length text → get_or text i 0 ≡ b → ⊥

-- in such a text b is said to stand at the end; with a b and more behind it, b stands where the text ends, whatever follows
abbrev pub IndexExactly : Type 0
IndexExactly = (b : ℕ) (text more : List ℕ) → Lacks b text → (index_of b text ≡ length text) × (index_of b (text ++ (b ∷ more)) ≡ length text)

-- ---- fields

-- a text without a space
abbrev pub NoSpace : List ℕ → Type 0
NoSpace text = (i : ℕ) → i < length text → get_or text i 0 ≡ 0x20 → ⊥

-- such a text is one field, with nothing behind it; with a space and more behind it, it is the first field, and behind it is just that
pub record FirstField (text more : List ℕ) : Type 0 where
  pub alone : (field_of text ≡ text) × (behind_of text ≡ [])
  pub first : (field_of (text ++ (0x20 ∷ more)) ≡ text) × (behind_of (text ++ (0x20 ∷ more)) ≡ more)

abbrev pub FieldsExactly : Type 0
FieldsExactly = (text more : List ℕ) → NoSpace text → FirstField text more

-- a field is a letter exactly if it is that one byte
abbrev pub LetterExactly : Type 0
LetterExactly = (text : List ℕ) (b : ℕ) → (letter_of text ≡ Some b) ↔ (text ≡ b ∷ [])

-- ---- numbers

-- what decimal digits are worth: each its own value, times ten for every digit behind it
unfoldable pub value_of : List ℕ → ℕ
value_of [] = 0
value_of (b ∷ bs) = (b - 0x30) * 10 ^ length bs + value_of bs

-- a text that is decimal digits, at least one, and says n
pub record Says (text : List ℕ) (n : ℕ) : Type 0 where
  pub some : 1 ≤ length text
  pub digits : (i : ℕ) → i < length text → (0x30 ≤ get_or text i 0) × (get_or text i 0 ≤ 0x39)
  pub value : value_of text ≡ n

-- a number exactly if the text says it and it is up to 100,000; of any other text none
pub record NumberRead (text : List ℕ) (read : Option ℕ) : Type 0 where
  pub said : (n : ℕ) → (read ≡ Some n) ↔ ((n ≤ 100000) × Says text n)
  pub otherwise : ((n : ℕ) → n ≤ 100000 → Says text n → ⊥) → read ≡ None

abbrev pub NumberExactly : Type 0
NumberExactly = (text : List ℕ) → NumberRead text (number_of text)

-- ---- bytes

-- 0 to 9, A to F, a to f
abbrev pub HexDigit : ℕ → Type 0
HexDigit b = ((0x30 ≤ b) × (b ≤ 0x39)) ⊎ (((0x41 ≤ b) × (b ≤ 0x46)) ⊎ ((0x61 ≤ b) × (b ≤ 0x66)))

-- a text that is hex digits, two for a byte, and at least one byte
pub record HexText (text : List ℕ) : Type 0 where
  pub some : 1 ≤ length text
  pub even : length text % 2 ≡ 0
  pub digits : (i : ℕ) → i < length text → HexDigit (get_or text i 0)

-- "bytes hex, `-` no data"
abbrev pub DataExactly : Type 0
DataExactly = (text : List ℕ) → (is_data text ≡ true) ↔ ((text ≡ 0x2D ∷ []) ⊎ HexText text)

-- each digit of each case: `0123456789ABCDEF` and `abcdef`, as bytes
pub record HexTable : Type 0 where
  pub upper : data_of (0x30 ∷ 0x31 ∷ 0x32 ∷ 0x33 ∷ 0x34 ∷ 0x35 ∷ 0x36 ∷ 0x37 ∷ 0x38 ∷ 0x39 ∷ 0x41 ∷ 0x42 ∷ 0x43 ∷ 0x44 ∷ 0x45 ∷ 0x46 ∷ []) ≡ 0x01 ∷ 0x23 ∷ 0x45 ∷ 0x67 ∷ 0x89 ∷ 0xAB ∷ 0xCD ∷ 0xEF ∷ []
  pub lower : data_of (0x61 ∷ 0x62 ∷ 0x63 ∷ 0x64 ∷ 0x65 ∷ 0x66 ∷ []) ≡ 0xAB ∷ 0xCD ∷ 0xEF ∷ []

-- the value of a hex digit of either case
pub data HexSays : ℕ → ℕ → Type 0 where
  decimal : (d : ℕ) → d < 10 → HexSays (0x30 + d) d
  upper : (d : ℕ) → d < 6 → HexSays (0x41 + d) (10 + d)
  lower : (d : ℕ) → d < 6 → HexSays (0x61 + d) (10 + d)

-- a text that says bytes, two digits for each, the higher first
pub data TextSays : List ℕ → List ℕ → Type 0 where
  no_more : TextSays [] []
  one_more : (x y a b : ℕ) (text bs : List ℕ) → HexSays x a → HexSays y b → TextSays text bs → TextSays (x ∷ y ∷ text) ((a * 16 + b) ∷ bs)

-- the bytes that are read are those that the text says; `-` says none
pub record BytesSaid : Type 0 where
  pub said : (text bs : List ℕ) → TextSays text bs → data_of text ≡ bs
  pub none : data_of (0x2D ∷ []) ≡ []
