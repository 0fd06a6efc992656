-- The contract of each public function asks nothing and determines the result. Assumes nothing.
use mathlib.Core.Path.{sym, ◌∙◌}
use Rattle.wire.specs.Determined.{Determined}
use Rattle.life.proofs.fate.begins_primary.Reads as begins_primary_reads
use Rattle.life.proofs.fate.begins_primary.Kinds as begins_primary_kinds
use Rattle.life.proofs.fate.fate_of.Reads as fate_of_reads
use Rattle.life.proofs.fate.fate_of.Kinds as fate_of_kinds
use Rattle.life.proofs.verdict.verdict_number.Reads as verdict_number_reads
use Rattle.life.proofs.verdict.verdict_number.Kinds as verdict_number_kinds
use Rattle.life.proofs.own.fresh.Reads as own_fresh_reads
use Rattle.life.proofs.own.fresh.Kinds as own_fresh_kinds
use Rattle.life.proofs.own.primary.Reads as own_primary_reads
use Rattle.life.proofs.own.primary.Kinds as own_primary_kinds
use Rattle.life.proofs.own.standing.Reads as own_standing_reads
use Rattle.life.proofs.own.standing.Kinds as own_standing_kinds
use Rattle.life.proofs.own.reply.Reads as own_reply_reads
use Rattle.life.proofs.own.reply.Kinds as own_reply_kinds
use Rattle.life.proofs.own.claimed.Reads as own_claimed_reads
use Rattle.life.proofs.own.claimed.Kinds as own_claimed_kinds
use Rattle.life.proofs.own.put_out.Reads as own_put_out_reads
use Rattle.life.proofs.own.put_out.Kinds as own_put_out_kinds
use Rattle.life.proofs.own.sent.Reads as own_sent_reads
use Rattle.life.proofs.own.sent.Kinds as own_sent_kinds
use Rattle.life.proofs.own.failed.Reads as own_failed_reads
use Rattle.life.proofs.own.failed.Kinds as own_failed_kinds
use Rattle.life.proofs.own.tick.Reads as own_tick_reads
use Rattle.life.proofs.own.tick.Kinds as own_tick_kinds
use Rattle.life.proofs.own.takes.Reads as own_takes_reads
use Rattle.life.proofs.own.takes.Kinds as own_takes_kinds
use Rattle.life.proofs.own.offered.Reads as own_offered_reads
use Rattle.life.proofs.own.offered.Kinds as own_offered_kinds
use Rattle.life.proofs.own.released.Reads as own_released_reads
use Rattle.life.proofs.own.released.Kinds as own_released_kinds
use Rattle.life.proofs.range.own_in_range.Reads as own_in_range_reads
use Rattle.life.proofs.range.own_in_range.Kinds as own_in_range_kinds
use Rattle.life.proofs.incoming.fresh.Reads as incoming_fresh_reads
use Rattle.life.proofs.incoming.fresh.Kinds as incoming_fresh_kinds
use Rattle.life.proofs.incoming.primary.Reads as incoming_primary_reads
use Rattle.life.proofs.incoming.primary.Kinds as incoming_primary_kinds
use Rattle.life.proofs.incoming.length.Reads as incoming_length_reads
use Rattle.life.proofs.incoming.length.Kinds as incoming_length_kinds
use Rattle.life.proofs.incoming.begun.Reads as incoming_begun_reads
use Rattle.life.proofs.incoming.begun.Kinds as incoming_begun_kinds
use Rattle.life.proofs.incoming.tick.Reads as incoming_tick_reads
use Rattle.life.proofs.incoming.tick.Kinds as incoming_tick_kinds
use Rattle.life.proofs.incoming.takes.Reads as incoming_takes_reads
use Rattle.life.proofs.incoming.takes.Kinds as incoming_takes_kinds
use Rattle.life.proofs.incoming.offered.Reads as incoming_offered_reads
use Rattle.life.proofs.incoming.offered.Kinds as incoming_offered_kinds
use Rattle.life.proofs.incoming.answered.Reads as incoming_answered_reads
use Rattle.life.proofs.incoming.answered.Kinds as incoming_answered_kinds
use Rattle.life.proofs.incoming.sent.Reads as incoming_sent_reads
use Rattle.life.proofs.incoming.sent.Kinds as incoming_sent_kinds
use Rattle.life.proofs.incoming.failed.Reads as incoming_failed_reads
use Rattle.life.proofs.incoming.failed.Kinds as incoming_failed_kinds
use Rattle.life.proofs.incoming.released.Reads as incoming_released_reads
use Rattle.life.proofs.incoming.released.Kinds as incoming_released_kinds
use Rattle.life.proofs.range.incoming_in_range.Reads as incoming_in_range_reads
use Rattle.life.proofs.range.incoming_in_range.Kinds as incoming_in_range_kinds
use Rattle.life.proofs.own.is_free.Reads as own_is_free_reads
use Rattle.life.proofs.own.is_free.Kinds as own_is_free_kinds
use Rattle.life.proofs.own.has_verdict.Reads as own_has_verdict_reads
use Rattle.life.proofs.own.has_verdict.Kinds as own_has_verdict_kinds
use Rattle.life.proofs.incoming.is_free.Reads as incoming_is_free_reads
use Rattle.life.proofs.incoming.is_free.Kinds as incoming_is_free_kinds
use Rattle.life.proofs.incoming.is_open.Reads as incoming_is_open_reads
use Rattle.life.proofs.incoming.is_open.Kinds as incoming_is_open_kinds
use Rattle.life.proofs.incoming.is_complete.Reads as incoming_is_complete_reads
use Rattle.life.proofs.incoming.is_complete.Kinds as incoming_is_complete_kinds
use Rattle.life.proofs.incoming.is_replied.Reads as incoming_is_replied_reads
use Rattle.life.proofs.incoming.is_replied.Kinds as incoming_is_replied_kinds

pub begins_primary_determined : Determined 0 begins_primary_kinds.ps begins_primary_kinds.r begins_primary_reads.Asked begins_primary_reads.Post (λ κs r s. r)
begins_primary_determined κs a = (tt, λ x y s t p q. p ∙ sym q)

pub fate_of_determined : Determined 0 fate_of_kinds.ps fate_of_kinds.r fate_of_reads.Asked fate_of_reads.Post (λ κs r s. r)
fate_of_determined κs a = (tt, λ x y s t p q. p ∙ sym q)

pub verdict_number_determined : Determined 0 verdict_number_kinds.ps verdict_number_kinds.r verdict_number_reads.Asked verdict_number_reads.Post (λ κs r s. r)
verdict_number_determined κs a = (tt, λ x y s t p q. p ∙ sym q)

pub own_fresh_determined : Determined 0 own_fresh_kinds.ps own_fresh_kinds.r own_fresh_reads.Asked own_fresh_reads.Post (λ κs r s. r)
own_fresh_determined κs a = (tt, λ x y s t p q. p ∙ sym q)

pub own_primary_determined : Determined 0 own_primary_kinds.ps own_primary_kinds.r own_primary_reads.Asked own_primary_reads.Post (λ κs r s. r)
own_primary_determined κs a = (tt, λ x y s t p q. p ∙ sym q)

pub own_standing_determined : Determined 0 own_standing_kinds.ps own_standing_kinds.r own_standing_reads.Asked own_standing_reads.Post (λ κs r s. r)
own_standing_determined κs a = (tt, λ x y s t p q. p ∙ sym q)

pub own_reply_determined : Determined 0 own_reply_kinds.ps own_reply_kinds.r own_reply_reads.Asked own_reply_reads.Post (λ κs r s. r)
own_reply_determined κs a = (tt, λ x y s t p q. p ∙ sym q)

pub own_claimed_determined : Determined 0 own_claimed_kinds.ps own_claimed_kinds.r own_claimed_reads.Asked own_claimed_reads.Post (λ κs r s. r)
own_claimed_determined κs a = (tt, λ x y s t p q. p ∙ sym q)

pub own_put_out_determined : Determined 0 own_put_out_kinds.ps own_put_out_kinds.r own_put_out_reads.Asked own_put_out_reads.Post (λ κs r s. r)
own_put_out_determined κs a = (tt, λ x y s t p q. p ∙ sym q)

pub own_sent_determined : Determined 0 own_sent_kinds.ps own_sent_kinds.r own_sent_reads.Asked own_sent_reads.Post (λ κs r s. r)
own_sent_determined κs a = (tt, λ x y s t p q. p ∙ sym q)

pub own_failed_determined : Determined 0 own_failed_kinds.ps own_failed_kinds.r own_failed_reads.Asked own_failed_reads.Post (λ κs r s. r)
own_failed_determined κs a = (tt, λ x y s t p q. p ∙ sym q)

pub own_tick_determined : Determined 0 own_tick_kinds.ps own_tick_kinds.r own_tick_reads.Asked own_tick_reads.Post (λ κs r s. r)
own_tick_determined κs a = (tt, λ x y s t p q. p ∙ sym q)

pub own_takes_determined : Determined 0 own_takes_kinds.ps own_takes_kinds.r own_takes_reads.Asked own_takes_reads.Post (λ κs r s. r)
own_takes_determined κs a = (tt, λ x y s t p q. p ∙ sym q)

pub own_offered_determined : Determined 0 own_offered_kinds.ps own_offered_kinds.r own_offered_reads.Asked own_offered_reads.Post (λ κs r s. r)
own_offered_determined κs a = (tt, λ x y s t p q. p ∙ sym q)

pub own_released_determined : Determined 0 own_released_kinds.ps own_released_kinds.r own_released_reads.Asked own_released_reads.Post (λ κs r s. r)
own_released_determined κs a = (tt, λ x y s t p q. p ∙ sym q)

pub own_in_range_determined : Determined 0 own_in_range_kinds.ps own_in_range_kinds.r own_in_range_reads.Asked own_in_range_reads.Post (λ κs r s. r)
own_in_range_determined κs a = (tt, λ x y s t p q. p ∙ sym q)

pub incoming_fresh_determined : Determined 0 incoming_fresh_kinds.ps incoming_fresh_kinds.r incoming_fresh_reads.Asked incoming_fresh_reads.Post (λ κs r s. r)
incoming_fresh_determined κs a = (tt, λ x y s t p q. p ∙ sym q)

pub incoming_primary_determined : Determined 0 incoming_primary_kinds.ps incoming_primary_kinds.r incoming_primary_reads.Asked incoming_primary_reads.Post (λ κs r s. r)
incoming_primary_determined κs a = (tt, λ x y s t p q. p ∙ sym q)

pub incoming_length_determined : Determined 0 incoming_length_kinds.ps incoming_length_kinds.r incoming_length_reads.Asked incoming_length_reads.Post (λ κs r s. r)
incoming_length_determined κs a = (tt, λ x y s t p q. p ∙ sym q)

pub incoming_begun_determined : Determined 0 incoming_begun_kinds.ps incoming_begun_kinds.r incoming_begun_reads.Asked incoming_begun_reads.Post (λ κs r s. r)
incoming_begun_determined κs a = (tt, λ x y s t p q. p ∙ sym q)

pub incoming_tick_determined : Determined 0 incoming_tick_kinds.ps incoming_tick_kinds.r incoming_tick_reads.Asked incoming_tick_reads.Post (λ κs r s. r)
incoming_tick_determined κs a = (tt, λ x y s t p q. p ∙ sym q)

pub incoming_takes_determined : Determined 0 incoming_takes_kinds.ps incoming_takes_kinds.r incoming_takes_reads.Asked incoming_takes_reads.Post (λ κs r s. r)
incoming_takes_determined κs a = (tt, λ x y s t p q. p ∙ sym q)

pub incoming_offered_determined : Determined 0 incoming_offered_kinds.ps incoming_offered_kinds.r incoming_offered_reads.Asked incoming_offered_reads.Post (λ κs r s. r)
incoming_offered_determined κs a = (tt, λ x y s t p q. p ∙ sym q)

pub incoming_answered_determined : Determined 0 incoming_answered_kinds.ps incoming_answered_kinds.r incoming_answered_reads.Asked incoming_answered_reads.Post (λ κs r s. r)
incoming_answered_determined κs a = (tt, λ x y s t p q. p ∙ sym q)

pub incoming_sent_determined : Determined 0 incoming_sent_kinds.ps incoming_sent_kinds.r incoming_sent_reads.Asked incoming_sent_reads.Post (λ κs r s. r)
incoming_sent_determined κs a = (tt, λ x y s t p q. p ∙ sym q)

pub incoming_failed_determined : Determined 0 incoming_failed_kinds.ps incoming_failed_kinds.r incoming_failed_reads.Asked incoming_failed_reads.Post (λ κs r s. r)
incoming_failed_determined κs a = (tt, λ x y s t p q. p ∙ sym q)

pub incoming_released_determined : Determined 0 incoming_released_kinds.ps incoming_released_kinds.r incoming_released_reads.Asked incoming_released_reads.Post (λ κs r s. r)
incoming_released_determined κs a = (tt, λ x y s t p q. p ∙ sym q)

pub incoming_in_range_determined : Determined 0 incoming_in_range_kinds.ps incoming_in_range_kinds.r incoming_in_range_reads.Asked incoming_in_range_reads.Post (λ κs r s. r)
incoming_in_range_determined κs a = (tt, λ x y s t p q. p ∙ sym q)

pub own_is_free_determined : Determined 0 own_is_free_kinds.ps own_is_free_kinds.r own_is_free_reads.Asked own_is_free_reads.Post (λ κs r s. r)
own_is_free_determined κs a = (tt, λ x y s t p q. p ∙ sym q)

pub own_has_verdict_determined : Determined 0 own_has_verdict_kinds.ps own_has_verdict_kinds.r own_has_verdict_reads.Asked own_has_verdict_reads.Post (λ κs r s. r)
own_has_verdict_determined κs a = (tt, λ x y s t p q. p ∙ sym q)

pub incoming_is_free_determined : Determined 0 incoming_is_free_kinds.ps incoming_is_free_kinds.r incoming_is_free_reads.Asked incoming_is_free_reads.Post (λ κs r s. r)
incoming_is_free_determined κs a = (tt, λ x y s t p q. p ∙ sym q)

pub incoming_is_open_determined : Determined 0 incoming_is_open_kinds.ps incoming_is_open_kinds.r incoming_is_open_reads.Asked incoming_is_open_reads.Post (λ κs r s. r)
incoming_is_open_determined κs a = (tt, λ x y s t p q. p ∙ sym q)

pub incoming_is_complete_determined : Determined 0 incoming_is_complete_kinds.ps incoming_is_complete_kinds.r incoming_is_complete_reads.Asked incoming_is_complete_reads.Post (λ κs r s. r)
incoming_is_complete_determined κs a = (tt, λ x y s t p q. p ∙ sym q)

pub incoming_is_replied_determined : Determined 0 incoming_is_replied_kinds.ps incoming_is_replied_kinds.r incoming_is_replied_reads.Asked incoming_is_replied_reads.Post (λ κs r s. r)
incoming_is_replied_determined κs a = (tt, λ x y s t p q. p ∙ sym q)
