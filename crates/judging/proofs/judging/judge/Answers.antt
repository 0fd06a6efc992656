-- `judging::judge` meets its contract.
use mathlib.Core.Path.{sym, ◌∙◌}
use Rattle.judging.proofs.Silent.{silently}
use Rattle.judging.proofs.judging.judge.Goals as goal

pub returns : goal.returns
returns c = silently c.args.terms c.args.exchange.sending c.args.header (sym c.causes.ensures ∙ c.if-causes.false) (sym c.is_over.ensures ∙ c.if-is_over.false) c.rules-judged.ensures
