-- Bytes as hex digits (01: "bytes hex, `-` no data").
use Rattle.std.specs.Prelude.{ℕ, ◌+◌, ◌-◌, ◌*◌, ◌%◌, Bool, true, false, cond, ◌&&◌, List, [], ◌∷◌, eqb, leb, ltb, length, get_or, Option, Some, None, is_some, unwrap_or}

-- the value of a digit, of either case; any other byte has none
unfoldable pub digit_of : ℕ → Option ℕ
digit_of b =
    cond (ltb b 0x30) None
    (cond (leb b 0x39) (Some (b - 0x30))
    (cond (ltb b 0x41) None
    (cond (leb b 0x46) (Some (b - 0x41 + 10))
    (cond (ltb b 0x61) None
    (cond (leb b 0x66) (Some (b - 0x61 + 10)) None)))))

unfoldable pub are_digits : List ℕ → Bool
are_digits [] = true
are_digits (b ∷ bs) = is_some (digit_of b) && are_digits bs

-- whether a field says bytes: `-`, or digits, two for a byte
unfoldable pub is_data : List ℕ → Bool
is_data text =
    cond (eqb (length text) 0) false
    (cond (eqb (length text) 1) (eqb (get_or text 0 0) 0x2D)
    (cond (eqb (length text % 2) 1) false (are_digits text)))

-- the byte that two digits say; what is no digit counts as 0
unfoldable pub byte_of : ℕ → ℕ → ℕ
byte_of x y = unwrap_or (digit_of x) 0 * 16 + unwrap_or (digit_of y) 0

-- the bytes that a field says, two digits each; a digit that has no second says none, and neither does `-`
unfoldable pub data_of : List ℕ → List ℕ
data_of [] = []
data_of (x ∷ []) = []
data_of (x ∷ y ∷ rest) = byte_of x y ∷ data_of rest
