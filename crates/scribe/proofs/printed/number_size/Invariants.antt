use Prim.Native.Nat.{◌+◌}
use mathlib.Core.Path.{◌≡◌}
use lib.ListN.{length}
use Rattle.script.specs.Printed.{number_text}
use Rattle.scribe.proofs.printed.number_size.Given as goal

-- the digits counted, and those of what is left
abbrev pub invariant-loop-left : goal.invariant-loop-left
invariant-loop-left l = l.size + length (number_text l.left) ≡ length (number_text l.n) + 2

abbrev pub decreases-loop-left : goal.decreases-loop-left
decreases-loop-left l = l.left
