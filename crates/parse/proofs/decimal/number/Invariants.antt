use Prim.Native.Nat.{◌≤◌}
use mathlib.Core.Path.{◌≡◌}
use lib.ListN.{drop}
use Rattle.text.specs.Number.{with_digits}
use Rattle.parse.proofs.decimal.number.Given as goal

abbrev pub invariant-loop-byte : goal.invariant-loop-byte
invariant-loop-byte l = (l.value ≤ 100000) × (with_digits l.value (drop l.byte-index l.text) ≡ with_digits 0 l.text)
