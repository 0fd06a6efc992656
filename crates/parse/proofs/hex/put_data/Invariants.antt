use mathlib.Core.Path.{◌≡◌}
use lib.ListN.{length}
use lib.Seq.{paste}
use Rattle.text.specs.Hex.{data_of}
use Rattle.parse.proofs.hex.put_data.Given as goal

abbrev pub invariant-loop-i : goal.invariant-loop-i
invariant-loop-i l = (l.bytes ≡ paste l.initial.bytes 0 (data_of l.text) l.i) × (length l.bytes ≡ length l.initial.bytes)
