-- `command::ticks` meets its contract.
use Rattle.std.proofs.Common.{rules}
use Rattle.script.specs.Command.{ticks_by}
use Rattle.scribe.proofs.Commanding.{any_count}
use Rattle.scribe.proofs.command.ticks.Goals as goal

pub returns : goal.returns
unfolding ticks_by
returns c = search (rules, any_count c.args.text.now)
