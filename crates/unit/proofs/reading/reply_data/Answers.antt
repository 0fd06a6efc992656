-- `reading::reply_data` meets its contract.
use mathlib.Core.Path.{◌≡◌, ◌∙◌}
use borrow.Author.Rules.{rules}
use Rattle.unit.proofs.Readings.{reply_size, reply_kept}
use Rattle.unit.proofs.reading.reply_data.Goals as goal

pub returns : goal.returns
returns c =
    let length : c.map_or-length.result ≡ reply_size c.own.result = search rules in
    reply_kept c.args.room.now c.args.place c.bytes_of.ensures (c.from.ensures ∙ length) c.own.ensures
