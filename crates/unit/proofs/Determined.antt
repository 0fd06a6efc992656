-- The contract of each public function asks nothing and determines the result, and of those that are lent memory every byte of it.
-- Assumes nothing.
use mathlib.Core.Path.{sym, ◌∙◌}
use Rattle.wire.specs.Determined.{Determined}
use Rattle.link.specs.Run.{left}
use Rattle.unit.proofs.state.start.Reads as start_reads
use Rattle.unit.proofs.state.start.Kinds as start_kinds
use Rattle.unit.proofs.call.byte.Reads as byte_reads
use Rattle.unit.proofs.call.byte.Kinds as byte_kinds
use Rattle.unit.proofs.call.tick.Reads as tick_reads
use Rattle.unit.proofs.call.tick.Kinds as tick_kinds
use Rattle.unit.proofs.call.drained.Reads as drained_reads
use Rattle.unit.proofs.call.drained.Kinds as drained_kinds
use Rattle.unit.proofs.request.open.Reads as open_reads
use Rattle.unit.proofs.request.open.Kinds as open_kinds
use Rattle.unit.proofs.request.reply.Reads as reply_reads
use Rattle.unit.proofs.request.reply.Kinds as reply_kinds
use Rattle.unit.proofs.request.release_own.Reads as release_own_reads
use Rattle.unit.proofs.request.release_own.Kinds as release_own_kinds
use Rattle.unit.proofs.request.release_incoming.Reads as release_incoming_reads
use Rattle.unit.proofs.request.release_incoming.Kinds as release_incoming_kinds
use Rattle.unit.proofs.reading.own.Reads as own_reads
use Rattle.unit.proofs.reading.own.Kinds as own_kinds
use Rattle.unit.proofs.reading.incoming.Reads as incoming_reads
use Rattle.unit.proofs.reading.incoming.Kinds as incoming_kinds
use Rattle.unit.proofs.reading.reply_data.Reads as reply_data_reads
use Rattle.unit.proofs.reading.reply_data.Kinds as reply_data_kinds
use Rattle.unit.proofs.reading.incoming_data.Reads as incoming_data_reads
use Rattle.unit.proofs.reading.incoming_data.Kinds as incoming_data_kinds
use Rattle.unit.proofs.reading.is_sending.Reads as is_sending_reads
use Rattle.unit.proofs.reading.is_sending.Kinds as is_sending_kinds
use Rattle.unit.proofs.reading.sending.Reads as sending_reads
use Rattle.unit.proofs.reading.sending.Kinds as sending_kinds
use Rattle.unit.proofs.reading.dropped.Reads as dropped_reads
use Rattle.unit.proofs.reading.dropped.Kinds as dropped_kinds
use Rattle.unit.proofs.reading.last_number.Reads as last_number_reads
use Rattle.unit.proofs.reading.last_number.Kinds as last_number_kinds
use Rattle.unit.proofs.answer.refusal_number.Reads as refusal_number_reads
use Rattle.unit.proofs.answer.refusal_number.Kinds as refusal_number_kinds
use Rattle.unit.proofs.answer.outcome_number.Reads as outcome_number_reads
use Rattle.unit.proofs.answer.outcome_number.Kinds as outcome_number_kinds
use Rattle.unit.proofs.answer.note_number.Reads as note_number_reads
use Rattle.unit.proofs.answer.note_number.Kinds as note_number_kinds

pub start_determined : Determined 0 start_kinds.ps start_kinds.r start_reads.Asked start_reads.Post (λ κs r s. r)
start_determined κs a = (tt, λ x y s t p q. p ∙ sym q)

pub byte_determined : Determined 2 byte_kinds.ps byte_kinds.r byte_reads.Asked byte_reads.Post (λ κs r s. left r s.1.1.0.now s.1.1.1.0.now)
byte_determined κs a = (tt, λ x y s t p q. p ∙ sym q)

pub tick_determined : Determined 2 tick_kinds.ps tick_kinds.r tick_reads.Asked tick_reads.Post (λ κs r s. left r s.1.0.now s.1.1.0.now)
tick_determined κs a = (tt, λ x y s t p q. p ∙ sym q)

pub drained_determined : Determined 2 drained_kinds.ps drained_kinds.r drained_reads.Asked drained_reads.Post (λ κs r s. left r s.1.0.now s.1.1.0.now)
drained_determined κs a = (tt, λ x y s t p q. p ∙ sym q)

pub open_determined : Determined 3 open_kinds.ps open_kinds.r open_reads.Asked open_reads.Post (λ κs r s. left r s.1.1.1.0.now s.1.1.1.1.0.now)
open_determined κs a = (tt, λ x y s t p q. p ∙ sym q)

pub reply_determined : Determined 3 reply_kinds.ps reply_kinds.r reply_reads.Asked reply_reads.Post (λ κs r s. left r s.1.1.1.1.0.now s.1.1.1.1.1.0.now)
reply_determined κs a = (tt, λ x y s t p q. p ∙ sym q)

pub release_own_determined : Determined 0 release_own_kinds.ps release_own_kinds.r release_own_reads.Asked release_own_reads.Post (λ κs r s. r)
release_own_determined κs a = (tt, λ x y s t p q. p ∙ sym q)

pub release_incoming_determined : Determined 0 release_incoming_kinds.ps release_incoming_kinds.r release_incoming_reads.Asked release_incoming_reads.Post (λ κs r s. r)
release_incoming_determined κs a = (tt, λ x y s t p q. p ∙ sym q)

pub own_determined : Determined 0 own_kinds.ps own_kinds.r own_reads.Asked own_reads.Post (λ κs r s. r)
own_determined κs a = (tt, λ x y s t p q. p ∙ sym q)

pub incoming_determined : Determined 0 incoming_kinds.ps incoming_kinds.r incoming_reads.Asked incoming_reads.Post (λ κs r s. r)
incoming_determined κs a = (tt, λ x y s t p q. p ∙ sym q)

pub reply_data_determined : Determined 1 reply_data_kinds.ps reply_data_kinds.r reply_data_reads.Asked reply_data_reads.Post (λ κs r s. r.now)
reply_data_determined κs a = (tt, λ x y s t p q. p ∙ sym q)

pub incoming_data_determined : Determined 1 incoming_data_kinds.ps incoming_data_kinds.r incoming_data_reads.Asked incoming_data_reads.Post (λ κs r s. r.now)
incoming_data_determined κs a = (tt, λ x y s t p q. p ∙ sym q)

pub is_sending_determined : Determined 0 is_sending_kinds.ps is_sending_kinds.r is_sending_reads.Asked is_sending_reads.Post (λ κs r s. r)
is_sending_determined κs a = (tt, λ x y s t p q. p ∙ sym q)

pub sending_determined : Determined 0 sending_kinds.ps sending_kinds.r sending_reads.Asked sending_reads.Post (λ κs r s. r)
sending_determined κs a = (tt, λ x y s t p q. p ∙ sym q)

pub dropped_determined : Determined 0 dropped_kinds.ps dropped_kinds.r dropped_reads.Asked dropped_reads.Post (λ κs r s. r)
dropped_determined κs a = (tt, λ x y s t p q. p ∙ sym q)

pub last_number_determined : Determined 0 last_number_kinds.ps last_number_kinds.r last_number_reads.Asked last_number_reads.Post (λ κs r s. r)
last_number_determined κs a = (tt, λ x y s t p q. p ∙ sym q)

pub refusal_number_determined : Determined 0 refusal_number_kinds.ps refusal_number_kinds.r refusal_number_reads.Asked refusal_number_reads.Post (λ κs r s. r)
refusal_number_determined κs a = (tt, λ x y s t p q. p ∙ sym q)

pub outcome_number_determined : Determined 0 outcome_number_kinds.ps outcome_number_kinds.r outcome_number_reads.Asked outcome_number_reads.Post (λ κs r s. r)
outcome_number_determined κs a = (tt, λ x y s t p q. p ∙ sym q)

pub note_number_determined : Determined 0 note_number_kinds.ps note_number_kinds.r note_number_reads.Asked note_number_reads.Post (λ κs r s. r)
note_number_determined κs a = (tt, λ x y s t p q. p ∙ sym q)
