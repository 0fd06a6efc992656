-- The laws of `specs/Sum.antt`. Assumes nothing.
use Rattle.std.proofs.Common.{◌≡◌, ℕ, suc, ◌+◌, ◌*◌, ◌%◌, ◌<◌, ◌≤◌, List, [], ◌∷◌, ◌++◌, length, get_or, take, refl, add-one, arith, take-suc}
use Rattle.wire.specs.Bytes.{Bytes}
use Rattle.wire.specs.Sum.{plain_sum, checksum_of, sum_with}
use Rattle.wire.specs.Theorems.{SumAdds, SumNeverWraps, SumByByte}

pub sum_append : (a b : List ℕ) → plain_sum (a ++ b) ≡ plain_sum a + plain_sum b
unfolding plain_sum
sum_append [] b = omega arith
sum_append (x ∷ a) b = omega (arith, sum_append a b)

-- the bytes up to the next one
pub sum_next : (l : List ℕ) (i : ℕ) → i < length l → checksum_of (take (i + 1) l) ≡ sum_with (checksum_of (take i l)) (get_or l i 0)
unfolding plain_sum checksum_of sum_with
sum_next l i h = rw (add-one, take-suc l i 0 h) (omega (arith, sum_append (take i l) (get_or l i 0 ∷ [])))

-- a byte is at most 255
pub sum_most : (l : List ℕ) → Bytes l → plain_sum l ≤ 255 * length l
unfolding plain_sum
sum_most [] b = omega arith
sum_most (x ∷ l) b = omega (arith, sum_most l (record { at = λ i. b.at (suc i) }), b.at 0)

-- the sum of bytes and more bytes
pub sum_join : (a b : List ℕ) → (checksum_of a + checksum_of b) % 65536 ≡ checksum_of (a ++ b)
unfolding checksum_of
sum_join a b = omega (arith, sum_append a b)

pub sum_never_wraps : SumNeverWraps
unfolding checksum_of
sum_never_wraps bs b h = let most = sum_most bs b in (omega arith, omega arith)

pub sum_by_byte : SumByByte
unfolding plain_sum checksum_of sum_with
sum_by_byte = (refl, λ bs b. omega (arith, sum_append bs (b ∷ [])))

pub sum_adds : SumAdds
unfolding sum_with
sum_adds s b = refl
