use Prim.Native.Nat.{◌+◌, ◌≤◌}
use mathlib.Core.Path.{◌≡◌}
use lib.ListN.{length}
use Rattle.wire.specs.Lent.{splice}
use Rattle.script.specs.Printed.{number_text}
use Rattle.scribe.proofs.printed.put_number.Given as goal

-- the digits of what is left, put where they belong, make it whole
abbrev pub invariant-loop-left : goal.invariant-loop-left
invariant-loop-left l = (l.i ≡ l.at + length (number_text l.left)) × (l.i ≤ l.initial.i) × (length l.out ≡ length l.initial.out) × (splice l.out l.at (number_text l.left) ≡ splice l.initial.out l.at (number_text l.n))

abbrev pub decreases-loop-left : goal.decreases-loop-left
decreases-loop-left l = l.left
