-- Every order within its limits is written by a line and read back, and no other is (`specs/Lines.antt`). Assumes nothing.
use Prim.Native.Nat.{ℕ, zero, suc, ◌+◌, ◌*◌, ◌/◌, ◌%◌, ◌≤◌, ◌<◌}
use mathlib.Core.Path.{◌≡◌, ◌∙◌}
use mathlib.Core.Bool.{Bool, true, false}
use mathlib.Core.List.{List, [], ◌∷◌}
use native.Mathlib.Omega.{arith}
use lib.ListN.{get_or}
use Rattle.text.specs.Theorems.{value_of}
use Rattle.script.specs.Lines.{Order, starts, opens, replies, frees_own, frees_incoming, hears, waits, drains, shows, counts, NumberIn, bit, LineIs, start_line, open_line, reply_line, own_line, incoming_line, bytes_line, ticks_line, drained_line, verdict_line, dropped_line, Within, six_digits, written, OrdersWritten}
use Rattle.script.proofs.PrintedRules.{data_written}
use Rattle.script.proofs.Fields.{data_bytes}
use Rattle.script.proofs.Lines.{said}

-- what six digits are worth, and a number by its last one
six_worth : (a b c d e f : ℕ)
    → value_of ((0x30 + a) ∷ (0x30 + b) ∷ (0x30 + c) ∷ (0x30 + d) ∷ (0x30 + e) ∷ (0x30 + f) ∷ []) ≡ ((((a * 10 + b) * 10 + c) * 10 + d) * 10 + e) * 10 + f
unfolding value_of
six_worth a b c d e f = omega arith

last_digit : (n : ℕ) → n / 10 * 10 + n % 10 ≡ n
last_digit n = omega arith

first_digit : (n : ℕ) → n ≤ 100000 → n / 10 / 10 / 10 / 10 / 10 % 10 ≡ n / 10 / 10 / 10 / 10 / 10
first_digit n h = omega arith

-- six digits say the number
six_said : (most n : ℕ) → most ≤ 100000 → n ≤ most → NumberIn most (six_digits n) n
six_said most n h l =
    let value : value_of (six_digits n) ≡ n =
    six_worth _ _ _ _ _ _
    ∙ rw (first_digit n (omega arith), last_digit (n / 10 / 10 / 10 / 10), last_digit (n / 10 / 10 / 10), last_digit (n / 10 / 10), last_digit (n / 10), last_digit n) in
    record { says = record { some = omega arith; digits = decimals; value = value }; within = l }
  where
    decimals : (i : ℕ) → i < 6 → (0x30 ≤ get_or (six_digits n) i 0) × (get_or (six_digits n) i 0 ≤ 0x39)
    decimals zero e = (omega arith, omega arith)
    decimals (suc zero) e = (omega arith, omega arith)
    decimals (suc (suc zero)) e = (omega arith, omega arith)
    decimals (suc (suc (suc zero))) e = (omega arith, omega arith)
    decimals (suc (suc (suc (suc zero)))) e = (omega arith, omega arith)
    decimals (suc (suc (suc (suc (suc zero))))) e = (omega arith, omega arith)
    decimals (suc (suc (suc (suc (suc (suc i)))))) e = absurd (omega arith)

-- W is 0 or 1
bit_most : (w : Bool) → bit w ≤ 1
bit_most true = omega arith
bit_most false = omega arith

is_written : (o : Order) → Within o → LineIs (written o) o
is_written (starts s) w =
    start_line s _ _ _ _ _ _ _ _ (six_said 65535 _ (omega arith) w.t1) (six_said 65535 _ (omega arith) w.t2) (six_said 65535 _ (omega arith) w.t3)
    (six_said 65535 _ (omega arith) w.t4) (six_said 65535 _ (omega arith) w.rty) (six_said 65535 _ (omega arith) w.device) (six_said 65535 _ (omega arith) w.duplicates)
    (six_said 65535 _ (omega arith) w.last)
is_written (opens q bs) w =
    open_line q _ _ _ _ _ bs (six_said 65535 _ (omega arith) w.0.source) (six_said 1 _ (omega arith) (bit_most q.w)) (six_said 255 _ (omega arith) w.0.stream)
    (six_said 255 _ (omega arith) w.0.function) (data_written bs w.1)
is_written (replies p f bs) w = reply_line p f _ _ _ bs (six_said 255 p (omega arith) w.0) (six_said 255 f (omega arith) w.1) (data_written bs w.2)
is_written (frees_own p) w = own_line p _ (six_said 255 p (omega arith) w)
is_written (frees_incoming p) w = incoming_line p _ (six_said 255 p (omega arith) w)
is_written (hears bs) w = bytes_line _ bs (data_written bs w)
is_written (waits n) w = ticks_line n _ (six_said 100000 n (omega arith) w)
is_written drains w = drained_line
is_written (shows p) w = verdict_line p _ (six_said 255 p (omega arith) w)
is_written counts w = dropped_line

is_within : (line : List ℕ) (o : Order) → LineIs line o → Within o
is_within _ _ (start_line s t1 t2 t3 t4 rty device duplicates last a b c d e f g h) = record {
  t1 = a.within;
  t2 = b.within;
  t3 = c.within;
  t4 = d.within;
  rty = e.within;
  device = f.within;
  duplicates = g.within;
  last = h.within;
}
is_within _ _ (open_line q source w stream function field bs a b c d e) =
    (record { source = a.within; stream = c.within; function = d.within }, data_bytes e)
is_within _ _ (reply_line p f place function field bs a b e) = (a.within, b.within, data_bytes e)
is_within _ _ (own_line p place a) = a.within
is_within _ _ (incoming_line p place a) = a.within
is_within _ _ (bytes_line field bs e) = data_bytes e
is_within _ _ (ticks_line n count a) = a.within
is_within _ _ drained_line = tt
is_within _ _ (verdict_line p place a) = a.within
is_within _ _ dropped_line = tt

pub orders_written : OrdersWritten
orders_written = record { back = λ o w short lent. said (written o) lent o (is_written o w) short; within = is_within }
