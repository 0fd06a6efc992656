-- A header's fields and its ten bytes are each the other's, and what another block number leaves. Assumes nothing.
use Prim.Native.Nat.{ℕ, ◌+◌, ◌*◌, ◌/◌, ◌%◌, ◌<◌}
use mathlib.Core.Path.{◌≡◌, refl, sym, ◌∙◌}
use mathlib.Core.Bool.{Bool, true, false}
use mathlib.Core.List.{List, [], ◌∷◌}
use native.Mathlib.Omega.{arith}
use lib.Dec.{leb}
use lib.ListN.{length, take, get_or}
use lib.Seq.{take_all, take-suc, get_or-take}
use borrow.Author.Tests.{le-leb, lt-leb, leb-true, leb-false}
use Rattle.wire.proofs.Choice.{either}
use Rattle.wire.specs.Bytes.{pair_of, quad_of, quarters_of}
use Rattle.wire.proofs.Numbers.{quad_back, four_bytes_and_back}
use Rattle.header.specs.Header.{top_bit, first_ten, header_bytes, header_of}
use Rattle.header.specs.declared.header.Header.{Header}
use Rattle.header.specs.Theorems.{TenBytesAndBack, TenBytesInRange, HeaderAndBack, NoBitsAbove, NumberedKeeps, FirstTen, HeaderOfTen, bit, HeaderLaidOut}

-- a bit above seven others is read back
bit_back : (b : Bool) (x : ℕ) → leb 128 (top_bit b + x % 128) ≡ b
bit_back true x = le-leb 128 (128 + x % 128) (omega arith)
bit_back false x = lt-leb 128 (0 + x % 128) (omega arith)

-- and leaves those seven as they are
top_apart : (b : Bool) → top_bit b % 128 ≡ 0
top_apart true = refl
top_apart false = refl

pub header_and_back : HeaderAndBack
unfolding header_of header_bytes
header_and_back h i = λ k. record {
  r = r k;
  device = device k;
  w = w k;
  stream = stream k;
  function = h.function;
  e = e k;
  number = number k;
  system = quad_back h.system i.system k;
}
  where
    back : Header
    back = header_of (header_bytes h)

    r : back.r ≡ h.r
    r = bit_back h.r _

    w : back.w ≡ h.w
    w = bit_back h.w _

    e : back.e ≡ h.e
    e = bit_back h.e _

    device : back.device ≡ h.device
    device = omega (arith, i.device, top_apart h.r, top_apart h.w, top_apart h.e)

    stream : back.stream ≡ h.stream
    stream = omega (arith, i.stream, top_apart h.r, top_apart h.w, top_apart h.e)

    number : back.number ≡ h.number
    number = omega (arith, i.number, top_apart h.r, top_apart h.w, top_apart h.e)

-- a byte's upper bit, with the other seven, is the byte
byte_back : (x : ℕ) → x < 256 → top_bit (leb 128 x) + x % 128 ≡ x
byte_back x h =
    either (leb 128 x) (λ t. top_bit t + x % 128 ≡ x) (λ e. omega (arith, leb-true 128 x e)) (λ e. omega (arith, leb-false 128 x e))

-- ten bytes are their first ten
ten_are : (b : List ℕ) → length b ≡ 10 → take 10 b ≡ first_ten b
ten_are b e = rw (
  take-suc b 9 0 (omega arith),
  take-suc b 8 0 (omega arith),
  take-suc b 7 0 (omega arith),
  take-suc b 6 0 (omega arith),
  take-suc b 5 0 (omega arith),
  take-suc b 4 0 (omega arith),
  take-suc b 3 0 (omega arith),
  take-suc b 2 0 (omega arith),
  take-suc b 1 0 (omega arith),
  take-suc b 0 0 (omega arith),
)

pub ten_bytes_and_back : TenBytesAndBack
unfolding header_of header_bytes
ten_bytes_and_back b e f = bytes ∙ sym (ten_are b e) ∙ take_all 10 b (omega arith)
  where
    at : ℕ → ℕ
    at i = get_or b i 0

    -- a bit and the upper seven bits of a number, and its lower byte
    upper : (i j : ℕ) → top_bit (leb 128 (at i)) + pair_of (at i % 128) (at j) / 256 % 128 ≡ at i
    upper i j = omega (arith, f.at j, byte_back (at i) (f.at i))

    lower : (x i : ℕ) → pair_of x (at i) % 256 ≡ at i
    lower x i = omega (arith, f.at i)

    system : quarters_of (quad_of (at 6) (at 7) (at 8) (at 9)) ≡ at 6 ∷ at 7 ∷ at 8 ∷ at 9 ∷ []
    system = four_bytes_and_back (at 6) (at 7) (at 8) (at 9) (f.at 6) (f.at 7) (f.at 8) (f.at 9)

    bytes : header_bytes (header_of b) ≡ first_ten b
    bytes = λ k.
        upper 0 1 k ∷ lower (at 0 % 128) 1 k
        ∷ stream k ∷ at 3
        ∷ upper 4 5 k ∷ lower (at 4 % 128) 5 k
        ∷ system k
      where
        stream : top_bit (leb 128 (at 2)) + at 2 % 128 % 128 ≡ at 2
        stream = omega (arith, byte_back (at 2) (f.at 2))

pub ten_bytes_in_range : TenBytesInRange
unfolding header_of
ten_bytes_in_range b f = record {
  device = omega (arith, f.at 1);
  stream = omega arith;
  function = f.at 3;
  number = omega (arith, f.at 5);
  system = omega (arith, f.at 6, f.at 7, f.at 8, f.at 9);
}

pub numbered_keeps : NumberedKeeps
numbered_keeps h k last = (refl, refl, record { r = refl; device = refl; w = refl; stream = refl; function = refl; system = refl })

pub first_ten_lem : FirstTen
first_ten_lem b e = sym (rw (
  take-suc b 9 0 (omega arith),
  take-suc b 8 0 (omega arith),
  take-suc b 7 0 (omega arith),
  take-suc b 6 0 (omega arith),
  take-suc b 5 0 (omega arith),
  take-suc b 4 0 (omega arith),
  take-suc b 3 0 (omega arith),
  take-suc b 2 0 (omega arith),
  take-suc b 1 0 (omega arith),
  take-suc b 0 0 (omega arith),
))

pub header_of_ten : HeaderOfTen
unfolding header_of
header_of_ten b = sym (rw (
  get_or-take 10 b 0 0 (omega arith),
  get_or-take 10 b 1 0 (omega arith),
  get_or-take 10 b 2 0 (omega arith),
  get_or-take 10 b 3 0 (omega arith),
  get_or-take 10 b 4 0 (omega arith),
  get_or-take 10 b 5 0 (omega arith),
  get_or-take 10 b 6 0 (omega arith),
  get_or-take 10 b 7 0 (omega arith),
  get_or-take 10 b 8 0 (omega arith),
  get_or-take 10 b 9 0 (omega arith),
))

top_is : (b : Bool) → top_bit b ≡ bit b * 128
top_is true = refl
top_is false = refl

pub header_laid_out : HeaderLaidOut
unfolding header_bytes
header_laid_out h i = record {
  device = omega (arith, i.device, top_is h.r);
  stream = omega (arith, i.stream, top_is h.w);
  function = refl;
  number = omega (arith, i.number, top_is h.e);
  system = omega (arith, quad_back h.system i.system);
}

-- a number's upper byte of seven bits, and its lower byte, are those of its lower 15 bits
upper_bits : (x : ℕ) → x / 256 % 128 ≡ x % 32768 / 256 % 128
upper_bits x = omega arith

lower_bits : (x : ℕ) → x % 256 ≡ x % 32768 % 256
lower_bits x = omega arith

seven_bits : (x : ℕ) → x % 128 ≡ x % 128 % 128
seven_bits x = omega arith

-- and its four bytes those of its lower 32
first_byte : (x : ℕ) → x / 16777216 % 256 ≡ x % 4294967296 / 16777216 % 256
first_byte x = omega arith

second_byte : (x : ℕ) → x / 65536 % 256 ≡ x % 4294967296 / 65536 % 256
second_byte x = omega arith

third_byte : (x : ℕ) → x / 256 % 256 ≡ x % 4294967296 / 256 % 256
third_byte x = omega arith

fourth_byte : (x : ℕ) → x % 256 ≡ x % 4294967296 % 256
fourth_byte x = omega arith

pub no_bits_above : NoBitsAbove
unfolding header_bytes
no_bits_above h = λ i.
    (top_bit h.r + upper_bits h.device i) ∷ lower_bits h.device i
    ∷ (top_bit h.w + seven_bits h.stream i) ∷ h.function
    ∷ (top_bit h.e + upper_bits h.number i) ∷ lower_bits h.number i
    ∷ first_byte h.system i ∷ second_byte h.system i ∷ third_byte h.system i ∷ fourth_byte h.system i ∷ []
