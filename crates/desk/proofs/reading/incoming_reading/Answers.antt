-- `reading::incoming_reading` meets its contract.
use mathlib.Core.Path.{sym, ◌∙◌}
use Rattle.exchange.specs.Reading.{incoming_reading}
use Rattle.desk.proofs.reading.incoming_reading.Goals as goal

pub returns-then-is_free : goal.returns-then-is_free
unfolding incoming_reading
returns-then-is_free c = simp (sym (rw c.incoming_place-incoming.ensures at c.is_free.ensures) ∙ c.if-is_free.true)

pub returns : goal.returns
unfolding incoming_reading
returns c = simp (sym (rw c.incoming_place-incoming.ensures at c.is_free.ensures) ∙ c.if-is_free.false, c.is_open.ensures, c.length.ensures, c.primary.ensures, c.incoming_place-incoming.ensures, c.reply_stage.ensures)
