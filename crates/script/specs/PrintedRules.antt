-- What is proved of the printed lines, over all inputs. Each proof is in `proofs/PrintedRules.antt`.
use Rattle.std.specs.Prelude.{ℕ, ◌+◌, ◌*◌, ◌≤◌, ◌<◌, ◌≡◌, true, List, [], ◌∷◌, ◌++◌, ◌⊎◌, length, get_or}
use Rattle.wire.specs.Bytes.{Bytes}
use Rattle.text.specs.Hex.{data_of, is_data}
use Rattle.script.specs.Hex.{hex_of}
use Rattle.script.specs.Printed.{number_text, data_text, text_of}
use Rattle.script.specs.declared.Printed.{Printed}
use Rattle.script.specs.declared.Printed.TheVariants.{Answer, Verdict, Dropped, Unreadable}

-- what is printed in hex reads back as the same bytes
abbrev pub HexReads : Type 0
HexReads = (bs : List ℕ) → Bytes bs → (data_of (hex_of bs) ≡ bs) × ((length bs ≡ 0 → ⊥) → is_data (hex_of bs) ≡ true)

-- and so does what is printed for any bytes, `-` for none among it
abbrev pub DataReads : Type 0
DataReads = (bs : List ℕ) → Bytes bs → (data_of (data_text bs) ≡ bs) × (is_data (data_text bs) ≡ true)

-- the digits as they are printed: 0 to 9, A to F (docs/READINGS.md, 27: "printed in upper case")
pub data UpperDigit : ℕ → ℕ → Type 0 where
  decimal : (d : ℕ) → d < 10 → UpperDigit (0x30 + d) d
  letter : (d : ℕ) → d < 6 → UpperDigit (0x41 + d) (10 + d)

-- two of them for each byte, the higher first
pub data UpperHex : List ℕ → List ℕ → Type 0 where
  no_more : UpperHex [] []
  one_more :
      (x y a b : ℕ) (text bs : List ℕ) → UpperDigit x a → UpperDigit y b → UpperHex text bs → UpperHex (x ∷ y ∷ text) ((a * 16 + b) ∷ bs)

-- "bytes out in hex": whichever bytes they are
abbrev pub HexUpper : Type 0
HexUpper = (bs : List ℕ) → Bytes bs → UpperHex (hex_of bs) bs

-- "bytes out in hex or `-`": the field of an answer, whichever bytes they are
pub data DataPrinted : List ℕ → List ℕ → Type 0 where
  dash : DataPrinted (0x2D ∷ []) []
  digits : (text bs : List ℕ) → 1 ≤ length bs → UpperHex text bs → DataPrinted text bs

abbrev pub DataUpper : Type 0
DataUpper = (bs : List ℕ) → Bytes bs → DataPrinted (data_text bs) bs

-- a text that ends with a newline, and has none before
pub record OneLine (text : List ℕ) : Type 0 where
  pub body : List ℕ
  pub whole : text ≡ body ++ (0x0A ∷ [])
  pub plain : (i : ℕ) → i < length body → get_or body i 0 ≡ 0x0A → ⊥

-- every line that is printed is one line
abbrev pub LineEnds : Type 0
LineEnds = (line : Printed) (bytes : List ℕ) → OneLine (text_of line bytes)

-- each line by its fields: "refusal number or 0, bytes out in hex or `-`, note"; "V, place, verdict"; `K n` (02, request 2); "`?`"
pub record Fielded (bytes : List ℕ) : Type 0 where
  pub answer : (number note : ℕ) → text_of (Answer number note) bytes ≡ number_text number ++ (0x20 ∷ (data_text bytes ++ (0x20 ∷ (number_text note ++ (0x0A ∷ [])))))
  pub verdict : (place given : ℕ) → text_of (Verdict place given) bytes ≡ 0x56 ∷ 0x20 ∷ (number_text place ++ (0x20 ∷ (number_text given ++ (0x0A ∷ []))))
  pub dropped : (count : ℕ) → text_of (Dropped count) bytes ≡ 0x4B ∷ 0x20 ∷ (number_text count ++ (0x0A ∷ []))
  pub unreadable : text_of Unreadable bytes ≡ 0x3F ∷ 0x0A ∷ []

abbrev pub LinesExactly : Type 0
LinesExactly = (bytes : List ℕ) → Fielded bytes

-- a number is printed without zeros before it
abbrev pub NumberPlain : Type 0
NumberPlain = (n : ℕ) → (length (number_text n) ≡ 1) ⊎ (get_or (number_text n) 0 0 ≡ 0x30 → ⊥)
