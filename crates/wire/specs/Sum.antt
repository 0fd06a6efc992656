-- The checksum (E4 5.7; 01, "Block and header").
use Rattle.std.specs.Prelude.{ℕ, ◌+◌, ◌%◌, List, [], ◌∷◌}

-- "the numeric sum of the unsigned binary values of all the bytes"
unfoldable pub plain_sum : List ℕ → ℕ
plain_sum [] = 0
plain_sum (b ∷ bs) = b + plain_sum bs

-- the 16-bit sum
unfoldable pub checksum_of : List ℕ → ℕ
checksum_of bs = plain_sum bs % 65536

-- the 16-bit sum after one byte more
unfoldable pub sum_with : ℕ → ℕ → ℕ
sum_with s b = (s + b) % 65536
