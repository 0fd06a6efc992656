-- `send::freeing` meets its contract.
use borrow.Author.Tests.{eq-eqb}
use Rattle.clerk.proofs.Short.{none_starts}
use Rattle.clerk.proofs.send.freeing.Goals as goal

pub returns-then-changed-eq0 : goal.returns-then-changed-eq0
returns-then-changed-eq0 c = none_starts c.args.before c.args.changed (eq-eqb _ _ c.if-changed-eq0.true)
