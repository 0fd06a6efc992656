use mathlib.Core.Path.{◌≡◌}
use Prim.Native.Nat.{◌-◌, ◌≤◌}
use lib.ListN.{length}
use Rattle.talk.specs.Run.{running, ticks_run}
use Rattle.bench.proofs.run.ticks.Given as goal

abbrev pub invariant-loop-done : goal.invariant-loop-done
invariant-loop-done l = (ticks_run (running l.ran l.room l.out) (l.count - l.done) ≡ ticks_run (running l.initial.ran l.initial.room l.initial.out) l.count) × (l.ran.count ≤ length l.out) × (length l.room ≡ length l.initial.room)
