-- The contract of each public function asks nothing and determines the result, and of `byte` the received bytes. Assumes nothing.
use mathlib.Core.Path.{sym, ◌∙◌}
use Rattle.wire.specs.Determined.{Determined}
use Rattle.line.specs.Line.{heard}
use Rattle.line.proofs.line.Line.fresh.Reads as fresh_reads
use Rattle.line.proofs.line.Line.fresh.Kinds as fresh_kinds
use Rattle.line.proofs.line.Line.byte.Reads as byte_reads
use Rattle.line.proofs.line.Line.byte.Kinds as byte_kinds
use Rattle.line.proofs.line.Line.tick.Reads as tick_reads
use Rattle.line.proofs.line.Line.tick.Kinds as tick_kinds
use Rattle.line.proofs.line.Line.drained.Reads as drained_reads
use Rattle.line.proofs.line.Line.drained.Kinds as drained_kinds
use Rattle.line.proofs.line.Line.ask.Reads as ask_reads
use Rattle.line.proofs.line.Line.ask.Kinds as ask_kinds
use Rattle.line.proofs.line.Line.settle.Reads as settle_reads
use Rattle.line.proofs.line.Line.settle.Kinds as settle_kinds
use Rattle.line.proofs.line.Line.in_range.Reads as line_in_range_reads
use Rattle.line.proofs.line.Line.in_range.Kinds as line_in_range_kinds
use Rattle.line.proofs.line.Line.withdraw.Reads as withdraw_reads
use Rattle.line.proofs.line.Line.withdraw.Kinds as withdraw_kinds
use Rattle.line.proofs.step.Remark.note.Reads as note_reads
use Rattle.line.proofs.step.Remark.note.Kinds as note_kinds

pub fresh_determined : Determined 0 fresh_kinds.ps fresh_kinds.r fresh_reads.Asked fresh_reads.Post (λ κs r s. r)
fresh_determined κs a = (tt, λ x y s t p q. p ∙ sym q)

pub byte_determined : Determined 1 byte_kinds.ps byte_kinds.r byte_reads.Asked byte_reads.Post (λ κs r s. heard r s.1.1.1.0.now)
byte_determined κs a = (tt, λ x y s t p q. p ∙ sym q)

pub tick_determined : Determined 0 tick_kinds.ps tick_kinds.r tick_reads.Asked tick_reads.Post (λ κs r s. r)
tick_determined κs a = (tt, λ x y s t p q. p ∙ sym q)

pub drained_determined : Determined 0 drained_kinds.ps drained_kinds.r drained_reads.Asked drained_reads.Post (λ κs r s. r)
drained_determined κs a = (tt, λ x y s t p q. p ∙ sym q)

pub ask_determined : Determined 0 ask_kinds.ps ask_kinds.r ask_reads.Asked ask_reads.Post (λ κs r s. r)
ask_determined κs a = (tt, λ x y s t p q. p ∙ sym q)

pub withdraw_determined : Determined 0 withdraw_kinds.ps withdraw_kinds.r withdraw_reads.Asked withdraw_reads.Post (λ κs r s. r)
withdraw_determined κs a = (tt, λ x y s t p q. p ∙ sym q)

pub settle_determined : Determined 0 settle_kinds.ps settle_kinds.r settle_reads.Asked settle_reads.Post (λ κs r s. r)
settle_determined κs a = (tt, λ x y s t p q. p ∙ sym q)

pub line_in_range_determined : Determined 0 line_in_range_kinds.ps line_in_range_kinds.r line_in_range_reads.Asked line_in_range_reads.Post (λ κs r s. r)
line_in_range_determined κs a = (tt, λ x y s t p q. p ∙ sym q)

pub note_determined : Determined 0 note_kinds.ps note_kinds.r note_reads.Asked note_reads.Post (λ κs r s. r)
note_determined κs a = (tt, λ x y s t p q. p ∙ sym q)
