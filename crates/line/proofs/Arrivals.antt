-- A block that comes in, byte by byte: what the line keeps of it is what came. Assumes nothing.
use Prim.Native.Nat.{ℕ, ◌+◌, ◌≤◌, ◌<◌}
use mathlib.Core.Path.{◌≡◌, refl, sym, ap, subst, ◌∙◌}
use mathlib.Core.Logic.{◌≢◌}
use mathlib.Core.List.{List, [], ◌∷◌, ◌++◌, append_assoc}
use native.Mathlib.Omega.{arith}
use native.Mathlib.Numerals.{add-one}
use lib.ListN.{length, take, drop, set, length-append}
use lib.Seq.{take-suc-set, take_at, drop_at, length-take-le}
use Rattle.wire.specs.Bytes.{halves_of, pair_of}
use Rattle.wire.specs.Sum.{checksum_of}
use Rattle.wire.proofs.Numbers.{number_and_back, two_bytes_and_back}
use Rattle.wire.proofs.Sums.{sum_by_byte}
use Rattle.line.specs.Line.{opened, with_byte, with_high}
use Rattle.line.specs.Theorems.{IsBlock}
use Rattle.line.specs.declared.phase.Arrival.{Arrival}
use Rattle.line.specs.declared.phase.Fault.{Fault}
use Rattle.line.specs.declared.phase.Fault.TheVariants.{Length, Sum}

-- one byte more
pub snoc : (bs : List ℕ) (b : ℕ) → length (bs ++ (b ∷ [])) ≡ length bs + 1
snoc bs b = length-append bs (b ∷ [])

-- what came after the length byte: some of the N bytes; or all, and the high byte of the sum
pub data Taken (a : Arrival) (rs xs : List ℕ) : Type 0 where
  some : a.got ≤ a.length → xs ≡ take a.got rs → a.sum ≡ checksum_of xs → Taken a rs xs
  all : a.got ≡ a.length + 1 → xs ≡ take a.length rs ++ (a.high ∷ []) → a.sum ≡ checksum_of (take a.length rs) → Taken a rs xs

-- a body is coming in: the bytes since our EOT are its length and what came after it
pub record Coming (a : Arrival) (rs bs : List ℕ) : Type 0 where
  pub after : List ℕ
  pub came : bs ≡ a.length ∷ after
  pub taken : Taken a rs after

pub coming_opened : (b : ℕ) (rs : List ℕ) → Coming (opened b) rs (b ∷ [])
unfolding checksum_of
coming_opened b rs = record { after = []; came = refl; taken = some (omega arith) refl (sym sum_by_byte.0) }

-- one of the N bytes
more : (a : Arrival) (b : ℕ) (rs xs : List ℕ) → a.got < a.length → a.got < length rs → Taken a rs xs → Taken (with_byte a b) (set rs a.got b) (xs ++ (b ∷ []))
more a b rs xs less fits (some le is adds) =
    some (omega arith) (rw (is, add-one, take-suc-set rs a.got b fits)) (rw (adds, sum_by_byte.1 xs b))
more a b rs xs less fits (all is _ _) = absurd (omega arith)

pub coming_byte : (a : Arrival) (b : ℕ) (rs bs : List ℕ) → a.got < a.length → a.got < length rs → Coming a rs bs → Coming (with_byte a b) (set rs a.got b) (bs ++ (b ∷ []))
coming_byte a b rs bs less fits k =
    record { after = k.after ++ (b ∷ []); came = rw k.came; taken = more a b rs k.after less fits k.taken }

-- the high byte of the sum
high : (a : Arrival) (b : ℕ) (rs xs : List ℕ) → a.got ≡ a.length → Taken a rs xs → Taken (with_high a b) rs (xs ++ (b ∷ []))
high a b rs xs e (some le is adds) = all (omega arith) (rw (is, e)) (rw (adds, is, e))
high a b rs xs e (all is _ _) = absurd (omega arith)

pub coming_high : (a : Arrival) (b : ℕ) (rs bs : List ℕ) → a.got ≡ a.length → Coming a rs bs → Coming (with_high a b) rs (bs ++ (b ∷ []))
coming_high a b rs bs e k =
    record { after = k.after ++ (b ∷ []); came = rw k.came; taken = high a b rs k.after e k.taken }

-- the low byte: with equal sums a block has come
low : (a : Arrival) (b : ℕ) (rs xs : List ℕ) → a.length ≤ a.got → (a.got ≡ a.length → ⊥) → b < 256 → pair_of a.high b ≡ a.sum → Taken a rs xs → a.length ∷ (xs ++ (b ∷ [])) ≡ a.length ∷ (take a.length rs ++ halves_of (checksum_of (take a.length rs)))
low a b rs xs ge ne fits e (some le is adds) = absurd (ne (omega arith))
low a b rs xs ge ne fits e (all eq is adds) =
    rw (is, append_assoc, ← adds, ← e, two_bytes_and_back a.high b fits)

pub coming_low : (a : Arrival) (b : ℕ) (rs bs : List ℕ) → 10 ≤ a.length → a.length ≤ 254 → length rs ≡ 256 → a.length ≤ a.got → (a.got ≡ a.length → ⊥) → b < 256 → pair_of a.high b ≡ a.sum → Coming a rs bs → IsBlock a.length (take a.length rs) (bs ++ (b ∷ []))
coming_low a b rs bs ten most room ge ne fits e k =
    record {
      not_short = ten;
      not_long = most;
      counted = length-take-le a.length rs (omega arith);
      came = rw k.came (low a b rs k.after ge ne fits e k.taken);
    }

-- ---- the other way: where a block has come, the sums are equal

-- what a block's bytes after the length byte are
after_length : (n m : ℕ) (body xs bs : List ℕ) → bs ≡ m ∷ xs → IsBlock n body bs → (n ≡ m) × (xs ≡ body ++ halves_of (checksum_of body))
after_length n m body xs bs e w =
    let f : m ∷ xs ≡ n ∷ (body ++ halves_of (checksum_of body)) = sym e ∙ w.came in
    (cc, cc)

pub after_count : (n m : ℕ) (body xs bs : List ℕ) → bs ≡ m ∷ xs → IsBlock n body bs → length xs ≡ m + 2
after_count n m body xs bs e w =
    let f = after_length n m body xs bs e w in
    let l : length xs ≡ length body + 2 = rw f.1 (length-append body _) in
    omega (arith, f.0, w.counted)

-- the last byte of a block makes equal sums
last : (a : Arrival) (b : ℕ) (rs xs body : List ℕ) → length rs ≡ 256 → a.length ≤ 254 → length body ≡ a.length → xs ++ (b ∷ []) ≡ body ++ halves_of (checksum_of body) → Taken a rs xs → (a.got ≡ a.length + 1) × (pair_of a.high b ≡ a.sum)
last a b rs xs body room most size e (some le is adds) =
    let l : length (xs ++ (b ∷ [])) ≡ length body + 2 = rw e (length-append body _) in
    let m : length xs ≡ a.got = rw is (length-take-le a.got rs (omega arith)) in
    absurd (omega (arith, snoc xs b))
last a b rs xs body room most size e (all eq is adds) =
    let n = a.length in
    let front : length (take n rs) ≡ n = length-take-le n rs (omega arith) in
    let f : take n rs ++ (a.high ∷ b ∷ []) ≡ body ++ halves_of (checksum_of body) = sym (append_assoc (take n rs) _ _) ∙ (sym (ap (λ l. l ++ (b ∷ [])) is) ∙ e) in
    let same : take n rs ≡ body = sym (take_at (take n rs) _ n front) ∙ (ap (take n) f ∙ take_at body _ n size) in
    let sum : halves_of (checksum_of body) ≡ a.high ∷ b ∷ [] = sym (sym (drop_at (take n rs) _ n front) ∙ (ap (drop n) f ∙ drop_at body _ n size)) in
    (eq, number_and_back (checksum_of body) a.high b sum ∙ (ap checksum_of (sym same) ∙ sym adds))

pub coming_last : (a : Arrival) (b n : ℕ) (rs bs body : List ℕ) → length rs ≡ 256 → a.length ≤ 254 → Coming a rs bs → IsBlock n body (bs ++ (b ∷ [])) → (n ≡ a.length) × (a.got ≡ a.length + 1) × (pair_of a.high b ≡ a.sum)
coming_last a b n rs bs body room most k w =
    let f = after_length n a.length body (k.after ++ (b ∷ [])) (bs ++ (b ∷ [])) (rw k.came) w in
    let g = last a b rs k.after body room most (w.counted ∙ f.0) f.1 k.taken in
    (f.0, g.0, g.1)

-- ---- a block that is not taken

-- the bytes since our EOT begin with a length that is none, or are all of a block and a sum that is not its own
pub data Refused (bs : List ℕ) : Fault → Type 0 where
  bad_length : (x : ℕ) (xs : List ℕ) → bs ≡ x ∷ xs → (10 ≤ x → x ≤ 254 → ⊥) → Refused bs Length
  bad_sum : (n : ℕ) (body : List ℕ) (high low : ℕ) (rest : List ℕ) → bs ≡ n ∷ (body ++ (high ∷ low ∷ rest)) → 10 ≤ n → n ≤ 254 → length body ≡ n
      → pair_of high low ≢ checksum_of body → Refused bs (Sum (pair_of high low) (checksum_of body))

pub refused_more : (bs : List ℕ) (b : ℕ) (f : Fault) → Refused bs f → Refused (bs ++ (b ∷ [])) f
refused_more bs b _ (bad_length x xs e out) = bad_length x (xs ++ (b ∷ [])) (rw e) out
refused_more bs b _ (bad_sum n body high low rest e ten most size other) =
    bad_sum n body high low (rest ++ (b ∷ [])) (rw e (ap (λ xs. n ∷ xs) (append_assoc body (high ∷ low ∷ rest) (b ∷ [])))) ten most size other

-- no byte more makes a block of it
pub refused_last : (bs : List ℕ) (b n : ℕ) (body : List ℕ) (f : Fault) → Refused bs f → IsBlock n body (bs ++ (b ∷ [])) → ⊥
refused_last bs b n body _ (bad_length x xs e out) w =
    let f = after_length n x body (xs ++ (b ∷ [])) (bs ++ (b ∷ [])) (rw e) w in
    out (omega (arith, f.0, w.not_short)) (omega (arith, f.0, w.not_long))
refused_last bs b n body _ (bad_sum m front high low rest e ten most size other) w =
    let xs = front ++ (high ∷ low ∷ rest) in
    omega (arith, after_count n m body (xs ++ (b ∷ [])) (bs ++ (b ∷ [])) (rw e) w, snoc xs b, length-append front (high ∷ low ∷ rest))

-- all N + 2 bytes have come, and their sums differ
wrong : (a : Arrival) (b : ℕ) (rs bs xs : List ℕ) → 10 ≤ a.length → a.length ≤ 254 → length rs ≡ 256 → a.length ≤ a.got → (a.got ≡ a.length → ⊥)
    → pair_of a.high b ≢ a.sum → bs ≡ a.length ∷ xs → Taken a rs xs → Refused (bs ++ (b ∷ [])) (Sum (pair_of a.high b) a.sum)
wrong a b rs bs xs ten most room ge ne other e (some le is adds) = absurd (ne (omega arith))
wrong a b rs bs xs ten most room ge ne other e (all eq is adds) =
    subst (λ s. Refused (bs ++ (b ∷ [])) (Sum (pair_of a.high b) s)) (sym adds)
    (bad_sum a.length (take a.length rs) a.high b [] (rw (e, is) (ap (λ ys. a.length ∷ ys) (append_assoc (take a.length rs) _ _))) ten most
    (length-take-le a.length rs (omega arith)) (λ z. other (z ∙ sym adds)))

pub coming_wrong : (a : Arrival) (b : ℕ) (rs bs : List ℕ) → 10 ≤ a.length → a.length ≤ 254 → length rs ≡ 256 → a.length ≤ a.got → (a.got ≡ a.length → ⊥)
    → pair_of a.high b ≢ a.sum → Coming a rs bs → Refused (bs ++ (b ∷ [])) (Sum (pair_of a.high b) a.sum)
coming_wrong a b rs bs ten most room ge ne other k = wrong a b rs bs k.after ten most room ge ne other k.came k.taken

-- before that, fewer have come
pub coming_short : (a : Arrival) (rs bs : List ℕ) → a.length ≤ 254 → length rs ≡ 256 → (k : Coming a rs bs) → length k.after < a.length + 2
coming_short a rs bs most room k = by k.taken
  where
    by : Taken a rs k.after → length k.after < a.length + 2
    by (some le is adds) = omega (arith, ap length is ∙ length-take-le a.got rs (omega arith))
    by (all eq is adds) = omega (arith, ap length is ∙ snoc (take a.length rs) a.high, length-take-le a.length rs (omega arith))
