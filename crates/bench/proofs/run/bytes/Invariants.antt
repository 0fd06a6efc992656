use mathlib.Core.Path.{◌≡◌}
use Prim.Native.Nat.{◌≤◌}
use lib.ListN.{length, drop}
use Rattle.talk.specs.Run.{running, bytes_run}
use Rattle.bench.proofs.run.bytes.Given as goal

abbrev pub invariant-loop-b : goal.invariant-loop-b
invariant-loop-b l = (bytes_run (running l.ran l.room l.out) (drop l.b-index l.bytes) ≡ bytes_run (running l.initial.ran l.initial.room l.initial.out) l.bytes) × (l.ran.count ≤ length l.out) × (length l.room ≡ length l.initial.room)
