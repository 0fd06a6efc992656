use mathlib.Core.Path.{◌≡◌}
use Rattle.exchange.specs.Tick.{late_at}
use Rattle.clerk.proofs.Places.{over}
use Rattle.clerk.proofs.time.late_over.Given as goal

-- what the places passed have added
abbrev pub invariant-loop-place : goal.invariant-loop-place
invariant-loop-place l = l.outbox ≡ over (λ b p. late_at l.terms l.before l.after l.latest p b) l.fn.outbox l.place
