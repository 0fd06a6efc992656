-- `command::data` meets its contract.
use Rattle.std.proofs.Common.{◌≡◌, length, sym, ◌∙◌, rules}
use Rattle.scribe.proofs.Commanding.{data_put}
use Rattle.scribe.proofs.command.data.Goals as goal

pub returns-then-is_data : goal.returns-then-is_data
returns-then-is_data c = λ command.
    let full : length c.args.bytes.now ≡ 512 = search rules in
    let put = data_put c.args.text.now c.args.bytes.now _ _ c.requires full c.put_data.ensures in
    simp (sym c.is_data.ensures ∙ c.if-is_data.true, put.0, put.1)
