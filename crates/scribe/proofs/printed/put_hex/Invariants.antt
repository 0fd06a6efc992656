use Prim.Native.Nat.{◌-◌, ◌≤◌}
use mathlib.Core.Path.{◌≡◌}
use lib.ListN.{length, take}
use Rattle.wire.specs.Lent.{splice}
use Rattle.script.specs.Hex.{hex_of}
use Rattle.scribe.proofs.printed.put_hex.Given as goal

-- the digits of the bytes passed are put
abbrev pub invariant-loop-i : goal.invariant-loop-i
invariant-loop-i l = (l.i ≤ length l.bytes) × (l.out ≡ splice l.initial.out l.at (hex_of (take l.i l.bytes)))

abbrev pub decreases-loop-i : goal.decreases-loop-i
decreases-loop-i l = length l.bytes - l.i
