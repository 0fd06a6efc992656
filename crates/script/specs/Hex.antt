-- Bytes in hex, as they are printed: in upper case (docs/READINGS.md, 27). How they are read is crate `text`.
use Rattle.std.specs.Prelude.{ℕ, ◌+◌, ◌/◌, ◌%◌, cond, List, [], ◌∷◌, ◌++◌, ltb}

-- a digit, in upper case
unfoldable pub glyph_of : ℕ → ℕ
glyph_of d = cond (ltb d 10) (48 + d) (55 + d)

-- the two digits of a byte
abbrev pub two_of : ℕ → List ℕ
two_of b = glyph_of (b / 16) ∷ glyph_of (b % 16) ∷ []

-- bytes in hex
unfoldable pub hex_of : List ℕ → List ℕ
hex_of [] = []
hex_of (b ∷ bs) = two_of b ++ hex_of bs
