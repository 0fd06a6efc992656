-- The contract of each public function asks nothing and determines the result and every byte of the memory that was lent to be written.
-- Assumes nothing.
use mathlib.Core.Path.{sym, ◌∙◌}
use Rattle.wire.specs.Determined.{Determined}
use Rattle.wire.specs.Lent.{filled}
use Rattle.parse.proofs.decimal.number.Reads as number_reads
use Rattle.parse.proofs.decimal.number.Kinds as number_kinds
use Rattle.parse.proofs.fields.field.Reads as field_reads
use Rattle.parse.proofs.fields.field.Kinds as field_kinds
use Rattle.parse.proofs.fields.behind.Reads as behind_reads
use Rattle.parse.proofs.fields.behind.Kinds as behind_kinds
use Rattle.parse.proofs.fields.letter.Reads as letter_reads
use Rattle.parse.proofs.fields.letter.Kinds as letter_kinds
use Rattle.parse.proofs.hex.is_data.Reads as is_data_reads
use Rattle.parse.proofs.hex.is_data.Kinds as is_data_kinds
use Rattle.parse.proofs.hex.put_data.Reads as put_data_reads
use Rattle.parse.proofs.hex.put_data.Kinds as put_data_kinds

pub number_determined : Determined 1 number_kinds.ps number_kinds.r number_reads.Asked number_reads.Post (λ κs r s. r)
number_determined κs a = (tt, λ x y s t p q. p ∙ sym q)

pub field_determined : Determined 1 field_kinds.ps field_kinds.r field_reads.Asked field_reads.Post (λ κs r s. r.now)
field_determined κs a = (tt, λ x y s t p q. p ∙ sym q)

pub behind_determined : Determined 1 behind_kinds.ps behind_kinds.r behind_reads.Asked behind_reads.Post (λ κs r s. r.now)
behind_determined κs a = (tt, λ x y s t p q. p ∙ sym q)

pub letter_determined : Determined 1 letter_kinds.ps letter_kinds.r letter_reads.Asked letter_reads.Post (λ κs r s. r)
letter_determined κs a = (tt, λ x y s t p q. p ∙ sym q)

pub is_data_determined : Determined 1 is_data_kinds.ps is_data_kinds.r is_data_reads.Asked is_data_reads.Post (λ κs r s. r)
is_data_determined κs a = (tt, λ x y s t p q. p ∙ sym q)

pub put_data_determined : Determined 2 put_data_kinds.ps put_data_kinds.r put_data_reads.Asked put_data_reads.Post (λ κs r s. filled r s.1.0.now)
put_data_determined κs a = (tt, λ x y s t p q. p ∙ sym q)
