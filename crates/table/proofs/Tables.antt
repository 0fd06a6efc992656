-- The tables of places are tables: what is put there, what is outside, and a tick. Assumes nothing.
use Prim.Native.Nat.{ℕ}
use mathlib.Core.Path.{◌≡◌, ◌∙◌}
use mathlib.Core.List.{List, map}
use native.Mathlib.Omega.{arith}
use lib.ListN.{length, get_or, set, length-map, length-set, get_or-eq_default}
use lib.Seq.{set_out, get_or-set_same, get_or-set_other}
use Rattle.place.specs.Own.{fresh_own, own_tick}
use Rattle.place.specs.Incoming.{fresh_incoming, incoming_tick}
use Rattle.table.specs.Theorems.{IsTable, TicksEach, OwnTable, IncomingTable}
use Rattle.table.proofs.Fours.{map_at}

-- a list of four, read with a default and set in place, is one
is_table : {A : Type 0} (fresh : A) (l : List A) → length l ≡ 4 → IsTable fresh (λ (k : List A). λ (p : ℕ). get_or k p fresh) set l
is_table fresh l four = record {
  there = λ p a h. get_or-set_same l p a fresh (omega arith);
  elsewhere = λ p q a other. get_or-set_other l p q a fresh other;
  still_four = λ p a. length-set l p a ∙ four;
  as_free = λ p h. get_or-eq_default l fresh (omega arith);
  unchanged = λ p a h. set_out l p a (omega arith);
}

-- and a map over it ticks each
ticks_each : {A : Type 0} (fresh : A) (tick : A → A) (l : List A) → length l ≡ 4 → TicksEach (λ (k : List A). λ (p : ℕ). get_or k p fresh) tick l (map tick l)
ticks_each fresh tick l four = record {
  each = λ p h. map_at tick l p fresh fresh (omega arith);
  still_four = length-map l tick ∙ four;
}

pub own_table : OwnTable
own_table os c four = (is_table fresh_own os four, ticks_each fresh_own (own_tick c) os four)

pub incoming_table : IncomingTable
incoming_table is c four = (is_table fresh_incoming is four, ticks_each fresh_incoming (incoming_tick c) is four)
