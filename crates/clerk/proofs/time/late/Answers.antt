-- `time::late` meets its contract.
use mathlib.Core.Path.{sym, ap, ◌∙◌}
use Rattle.clerk.specs.Short.{is_marked}
use Rattle.clerk.proofs.Short.{none_late}
use Rattle.clerk.proofs.time.late.Goals as goal

pub returns : goal.returns
returns c = none_late c.args.terms c.args.before c.args.after c.args.latest c.args.outbox (sym (ap is_marked c.requires) ∙ sym c.is_marked.ensures ∙ c.if-is_marked.false)
