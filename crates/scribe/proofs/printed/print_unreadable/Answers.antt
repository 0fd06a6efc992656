-- `printed::print_unreadable` meets its contract.
use mathlib.Core.Path.{ap, ◌∙◌}
use Rattle.wire.specs.Lent.{filled}
use Rattle.wire.proofs.Lent.{put_fits, in_room, no_room}
use Rattle.script.proofs.Printing.{put_first}
use Rattle.scribe.proofs.printed.print_unreadable.Goals as goal

pub returns-then-text-lt2 : goal.returns-then-text-lt2
returns-then-text-lt2 c = no_room _ _ c.if-text-lt2.true

pub returns : goal.returns
returns c =
    let fits = c.if-text-lt2.false in
    ap (filled 2) (c.put.ensures ∙ put_fits _ 0 _ fits ∙ put_first _ _) ∙ in_room _ _ fits
