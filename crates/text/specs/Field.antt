-- The fields of a line: one space between two, none at the ends (docs/READINGS.md, 27). Of a line with more spaces one field is empty,
-- and an empty field says no letter, no number and no bytes.
use Rattle.std.specs.Prelude.{ℕ, ◌+◌, cond, List, eqb, length, take, drop, get_or, Option, Some, None}
use Rattle.text.specs.Find.{index_of}

abbrev pub space : ℕ
space = 0x20

-- what stands before the first space of a text, or all of it
unfoldable pub field_of : List ℕ → List ℕ
field_of text = take (index_of space text) text

-- what stands behind the first space of a text; nothing, where it has none
unfoldable pub behind_of : List ℕ → List ℕ
behind_of text = drop (index_of space text + 1) text

-- the byte of a field that is one byte; any other field is no letter
unfoldable pub letter_of : List ℕ → Option ℕ
letter_of text = cond (eqb (length text) 1) (Some (get_or text 0 0)) None
