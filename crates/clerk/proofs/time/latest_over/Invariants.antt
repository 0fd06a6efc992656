use mathlib.Core.Path.{◌≡◌}
use Rattle.table.specs.Own.{own_at}
use Rattle.exchange.specs.Exchange.{latest_after}
use Rattle.clerk.proofs.Places.{over}
use Rattle.clerk.proofs.time.latest_over.Given as goal

-- the latest of the places passed
abbrev pub invariant-loop-place : goal.invariant-loop-place
invariant-loop-place l = l.latest ≡ over (λ n p. latest_after n (own_at l.before p) (own_at l.after p)) l.fn.latest l.place
