-- `reading::own_reading` meets its contract.
use mathlib.Core.Path.{sym, ◌∙◌}
use Rattle.exchange.specs.Reading.{own_reading}
use Rattle.desk.proofs.reading.own_reading.Goals as goal

pub returns-then-is_free : goal.returns-then-is_free
unfolding own_reading
returns-then-is_free c = simp (sym (rw c.own_place-own.ensures at c.is_free.ensures) ∙ c.if-is_free.true)

pub returns : goal.returns
unfolding own_reading
returns c = simp (sym (rw c.own_place-own.ensures at c.is_free.ensures) ∙ c.if-is_free.false, c.standing.ensures, c.primary.ensures, c.own_place-own.ensures, c.reply.ensures)
