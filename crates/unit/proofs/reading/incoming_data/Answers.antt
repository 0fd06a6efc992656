-- `reading::incoming_data` meets its contract.
use mathlib.Core.Path.{◌≡◌, ◌∙◌}
use borrow.Author.Rules.{rules}
use Rattle.unit.proofs.Readings.{message_size, message_kept}
use Rattle.unit.proofs.reading.incoming_data.Goals as goal

pub returns : goal.returns
returns c =
    let length : c.map_or-length.result ≡ message_size c.incoming.result = search rules in
    message_kept c.args.room.now c.args.place c.bytes_of.ensures (c.from.ensures ∙ length) c.incoming.ensures
