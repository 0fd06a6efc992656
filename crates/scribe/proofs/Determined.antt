-- The contract of each public function asks nothing and determines the result and every byte of the memory that was lent to be written.
-- Assumes nothing.
use mathlib.Core.Path.{sym, ◌∙◌}
use Rattle.wire.specs.Determined.{Determined}
use Rattle.wire.specs.Lent.{filled}
use Rattle.script.specs.Command.{told}
use Rattle.scribe.proofs.command.read_line.Reads as read_line_reads
use Rattle.scribe.proofs.command.read_line.Kinds as read_line_kinds
use Rattle.scribe.proofs.printed.print_line.Reads as print_line_reads
use Rattle.scribe.proofs.printed.print_line.Kinds as print_line_kinds

pub read_line_determined : Determined 2 read_line_kinds.ps read_line_kinds.r read_line_reads.Asked read_line_reads.Post (λ κs r s. told r s.1.0.now)
read_line_determined κs a = (tt, λ x y s t p q. p ∙ sym q)

pub print_line_determined : Determined 2 print_line_kinds.ps print_line_kinds.r print_line_reads.Asked print_line_reads.Post (λ κs r s. filled r s.1.1.0.now)
print_line_determined κs a = (tt, λ x y s t p q. p ∙ sym q)
