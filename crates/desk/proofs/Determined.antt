-- The contract of each public function asks nothing and determines the result. Assumes nothing.
use mathlib.Core.Path.{sym, ◌∙◌}
use Rattle.wire.specs.Determined.{Determined}
use Rattle.desk.proofs.state.fresh.Reads as fresh_reads
use Rattle.desk.proofs.state.fresh.Kinds as fresh_kinds
use Rattle.desk.proofs.state.got_verdict.Reads as got_verdict_reads
use Rattle.desk.proofs.state.got_verdict.Kinds as got_verdict_kinds
use Rattle.desk.proofs.state.latest_after.Reads as latest_after_reads
use Rattle.desk.proofs.state.latest_after.Kinds as latest_after_kinds
use Rattle.desk.proofs.state.put_own.Reads as put_own_reads
use Rattle.desk.proofs.state.put_own.Kinds as put_own_kinds
use Rattle.desk.proofs.state.put_incoming.Reads as put_incoming_reads
use Rattle.desk.proofs.state.put_incoming.Kinds as put_incoming_kinds
use Rattle.desk.proofs.state.with_sending.Reads as with_sending_reads
use Rattle.desk.proofs.state.with_sending.Kinds as with_sending_kinds
use Rattle.desk.proofs.state.put_replied.Reads as put_replied_reads
use Rattle.desk.proofs.state.put_replied.Kinds as put_replied_kinds
use Rattle.desk.proofs.state.with_saved.Reads as with_saved_reads
use Rattle.desk.proofs.state.with_saved.Kinds as with_saved_kinds
use Rattle.desk.proofs.state.own_place.Reads as own_place_reads
use Rattle.desk.proofs.state.own_place.Kinds as own_place_kinds
use Rattle.desk.proofs.state.incoming_place.Reads as incoming_place_reads
use Rattle.desk.proofs.state.incoming_place.Kinds as incoming_place_kinds
use Rattle.desk.proofs.flags.no_flags.Reads as no_flags_reads
use Rattle.desk.proofs.flags.no_flags.Kinds as no_flags_kinds
use Rattle.desk.proofs.flags.verdict_flag.Reads as verdict_flag_reads
use Rattle.desk.proofs.flags.verdict_flag.Kinds as verdict_flag_kinds
use Rattle.desk.proofs.flags.incoming_flags.Reads as incoming_flags_reads
use Rattle.desk.proofs.flags.incoming_flags.Kinds as incoming_flags_kinds
use Rattle.desk.proofs.note.note_number.Reads as note_number_reads
use Rattle.desk.proofs.note.note_number.Kinds as note_number_kinds
use Rattle.desk.proofs.note.note_of.Reads as note_of_reads
use Rattle.desk.proofs.note.note_of.Kinds as note_of_kinds
use Rattle.desk.proofs.range.in_range.Reads as in_range_reads
use Rattle.desk.proofs.range.in_range.Kinds as in_range_kinds
use Rattle.desk.proofs.reading.own_reading.Reads as own_reading_reads
use Rattle.desk.proofs.reading.own_reading.Kinds as own_reading_kinds
use Rattle.desk.proofs.reading.incoming_reading.Reads as incoming_reading_reads
use Rattle.desk.proofs.reading.incoming_reading.Kinds as incoming_reading_kinds
use Rattle.desk.proofs.reporting.is_message.Reads as is_message_reads
use Rattle.desk.proofs.reporting.is_message.Kinds as is_message_kinds
use Rattle.desk.proofs.reporting.same_message.Reads as same_message_reads
use Rattle.desk.proofs.reporting.same_message.Kinds as same_message_kinds
use Rattle.desk.proofs.reporting.outbox.Reads as outbox_reads
use Rattle.desk.proofs.reporting.outbox.Kinds as outbox_kinds
use Rattle.desk.proofs.reporting.with_outbox.Reads as with_outbox_reads
use Rattle.desk.proofs.reporting.with_outbox.Kinds as with_outbox_kinds
use Rattle.desk.proofs.reporting.caused.Reads as caused_reads
use Rattle.desk.proofs.reporting.caused.Kinds as caused_kinds
use Rattle.desk.proofs.reporting.is_over.Reads as is_over_reads
use Rattle.desk.proofs.reporting.is_over.Kinds as is_over_kinds
use Rattle.desk.proofs.reporting.freed_in.Reads as freed_in_reads
use Rattle.desk.proofs.reporting.freed_in.Kinds as freed_in_kinds

pub fresh_determined : Determined 0 fresh_kinds.ps fresh_kinds.r fresh_reads.Asked fresh_reads.Post (λ κs r s. r)
fresh_determined κs a = (tt, λ x y s t p q. p ∙ sym q)

pub got_verdict_determined : Determined 0 got_verdict_kinds.ps got_verdict_kinds.r got_verdict_reads.Asked got_verdict_reads.Post (λ κs r s. r)
got_verdict_determined κs a = (tt, λ x y s t p q. p ∙ sym q)

pub latest_after_determined : Determined 0 latest_after_kinds.ps latest_after_kinds.r latest_after_reads.Asked latest_after_reads.Post (λ κs r s. r)
latest_after_determined κs a = (tt, λ x y s t p q. p ∙ sym q)

pub put_own_determined : Determined 0 put_own_kinds.ps put_own_kinds.r put_own_reads.Asked put_own_reads.Post (λ κs r s. r)
put_own_determined κs a = (tt, λ x y s t p q. p ∙ sym q)

pub put_incoming_determined : Determined 0 put_incoming_kinds.ps put_incoming_kinds.r put_incoming_reads.Asked put_incoming_reads.Post (λ κs r s. r)
put_incoming_determined κs a = (tt, λ x y s t p q. p ∙ sym q)

pub with_sending_determined : Determined 0 with_sending_kinds.ps with_sending_kinds.r with_sending_reads.Asked with_sending_reads.Post (λ κs r s. r)
with_sending_determined κs a = (tt, λ x y s t p q. p ∙ sym q)

pub put_replied_determined : Determined 0 put_replied_kinds.ps put_replied_kinds.r put_replied_reads.Asked put_replied_reads.Post (λ κs r s. r)
put_replied_determined κs a = (tt, λ x y s t p q. p ∙ sym q)

pub with_saved_determined : Determined 0 with_saved_kinds.ps with_saved_kinds.r with_saved_reads.Asked with_saved_reads.Post (λ κs r s. r)
with_saved_determined κs a = (tt, λ x y s t p q. p ∙ sym q)

pub own_place_determined : Determined 0 own_place_kinds.ps own_place_kinds.r own_place_reads.Asked own_place_reads.Post (λ κs r s. r)
own_place_determined κs a = (tt, λ x y s t p q. p ∙ sym q)

pub incoming_place_determined : Determined 0 incoming_place_kinds.ps incoming_place_kinds.r incoming_place_reads.Asked incoming_place_reads.Post (λ κs r s. r)
incoming_place_determined κs a = (tt, λ x y s t p q. p ∙ sym q)

pub no_flags_determined : Determined 0 no_flags_kinds.ps no_flags_kinds.r no_flags_reads.Asked no_flags_reads.Post (λ κs r s. r)
no_flags_determined κs a = (tt, λ x y s t p q. p ∙ sym q)

pub verdict_flag_determined : Determined 0 verdict_flag_kinds.ps verdict_flag_kinds.r verdict_flag_reads.Asked verdict_flag_reads.Post (λ κs r s. r)
verdict_flag_determined κs a = (tt, λ x y s t p q. p ∙ sym q)

pub incoming_flags_determined : Determined 0 incoming_flags_kinds.ps incoming_flags_kinds.r incoming_flags_reads.Asked incoming_flags_reads.Post (λ κs r s. r)
incoming_flags_determined κs a = (tt, λ x y s t p q. p ∙ sym q)

pub note_number_determined : Determined 0 note_number_kinds.ps note_number_kinds.r note_number_reads.Asked note_number_reads.Post (λ κs r s. r)
note_number_determined κs a = (tt, λ x y s t p q. p ∙ sym q)

pub note_of_determined : Determined 0 note_of_kinds.ps note_of_kinds.r note_of_reads.Asked note_of_reads.Post (λ κs r s. r)
note_of_determined κs a = (tt, λ x y s t p q. p ∙ sym q)

pub in_range_determined : Determined 0 in_range_kinds.ps in_range_kinds.r in_range_reads.Asked in_range_reads.Post (λ κs r s. r)
in_range_determined κs a = (tt, λ x y s t p q. p ∙ sym q)

pub own_reading_determined : Determined 0 own_reading_kinds.ps own_reading_kinds.r own_reading_reads.Asked own_reading_reads.Post (λ κs r s. r)
own_reading_determined κs a = (tt, λ x y s t p q. p ∙ sym q)

pub incoming_reading_determined : Determined 0 incoming_reading_kinds.ps incoming_reading_kinds.r incoming_reading_reads.Asked incoming_reading_reads.Post (λ κs r s. r)
incoming_reading_determined κs a = (tt, λ x y s t p q. p ∙ sym q)

pub is_message_determined : Determined 0 is_message_kinds.ps is_message_kinds.r is_message_reads.Asked is_message_reads.Post (λ κs r s. r)
is_message_determined κs a = (tt, λ x y s t p q. p ∙ sym q)

pub same_message_determined : Determined 0 same_message_kinds.ps same_message_kinds.r same_message_reads.Asked same_message_reads.Post (λ κs r s. r)
same_message_determined κs a = (tt, λ x y s t p q. p ∙ sym q)

pub outbox_determined : Determined 0 outbox_kinds.ps outbox_kinds.r outbox_reads.Asked outbox_reads.Post (λ κs r s. r)
outbox_determined κs a = (tt, λ x y s t p q. p ∙ sym q)

pub with_outbox_determined : Determined 0 with_outbox_kinds.ps with_outbox_kinds.r with_outbox_reads.Asked with_outbox_reads.Post (λ κs r s. r)
with_outbox_determined κs a = (tt, λ x y s t p q. p ∙ sym q)

pub caused_determined : Determined 0 caused_kinds.ps caused_kinds.r caused_reads.Asked caused_reads.Post (λ κs r s. r)
caused_determined κs a = (tt, λ x y s t p q. p ∙ sym q)

pub is_over_determined : Determined 0 is_over_kinds.ps is_over_kinds.r is_over_reads.Asked is_over_reads.Post (λ κs r s. r)
is_over_determined κs a = (tt, λ x y s t p q. p ∙ sym q)

pub freed_in_determined : Determined 0 freed_in_kinds.ps freed_in_kinds.r freed_in_reads.Asked freed_in_reads.Post (λ κs r s. r)
freed_in_determined κs a = (tt, λ x y s t p q. p ∙ sym q)
