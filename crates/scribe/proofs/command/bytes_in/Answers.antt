-- `command::bytes_in` meets its contract.
use Rattle.std.proofs.Common.{rules}
use Rattle.script.specs.Command.{bytes_by}
use Rattle.script.specs.declared.Command.TheVariants.{Bytes}
use Rattle.scribe.proofs.Commanding.{told_by}
use Rattle.scribe.proofs.command.bytes_in.Goals as goal

pub returns-in_err-data : goal.returns-in_err-data
unfolding bytes_by
returns-in_err-data c = told_by (λ n. Bytes n) _ c.data.result _ _ (search rules) (c.data.ensures (λ n. Bytes n))

pub returns : goal.returns
unfolding bytes_by
returns c = told_by (λ n. Bytes n) _ c.data.result _ _ (search rules) (c.data.ensures (λ n. Bytes n))
