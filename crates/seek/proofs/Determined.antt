-- The contract of each public function asks nothing and determines the result. Assumes nothing.
use Rattle.std.proofs.Common.{sym, ◌∙◌}
use Rattle.wire.specs.Determined.{Determined}
use Rattle.seek.proofs.own.own_at.Reads as own_at_reads
use Rattle.seek.proofs.own.own_at.Kinds as own_at_kinds
use Rattle.seek.proofs.own.own_put.Reads as own_put_reads
use Rattle.seek.proofs.own.own_put.Kinds as own_put_kinds
use Rattle.seek.proofs.own.free_own.Reads as free_own_reads
use Rattle.seek.proofs.own.free_own.Kinds as free_own_kinds
use Rattle.seek.proofs.own.reply_for.Reads as reply_for_reads
use Rattle.seek.proofs.own.reply_for.Kinds as reply_for_kinds
use Rattle.seek.proofs.own.tick_own.Reads as tick_own_reads
use Rattle.seek.proofs.own.tick_own.Kinds as tick_own_kinds
use Rattle.seek.proofs.incoming.incoming_at.Reads as incoming_at_reads
use Rattle.seek.proofs.incoming.incoming_at.Kinds as incoming_at_kinds
use Rattle.seek.proofs.incoming.incoming_put.Reads as incoming_put_reads
use Rattle.seek.proofs.incoming.incoming_put.Kinds as incoming_put_kinds
use Rattle.seek.proofs.incoming.free_incoming.Reads as free_incoming_reads
use Rattle.seek.proofs.incoming.free_incoming.Kinds as free_incoming_kinds
use Rattle.seek.proofs.incoming.message_for.Reads as message_for_reads
use Rattle.seek.proofs.incoming.message_for.Kinds as message_for_kinds
use Rattle.seek.proofs.incoming.open_alike.Reads as open_alike_reads
use Rattle.seek.proofs.incoming.open_alike.Kinds as open_alike_kinds
use Rattle.seek.proofs.incoming.tick_incoming.Reads as tick_incoming_reads
use Rattle.seek.proofs.incoming.tick_incoming.Kinds as tick_incoming_kinds
use Rattle.seek.proofs.number.number_of.Reads as number_of_reads
use Rattle.seek.proofs.number.number_of.Kinds as number_of_kinds
use Rattle.seek.proofs.number.next_number.Reads as next_number_reads
use Rattle.seek.proofs.number.next_number.Kinds as next_number_kinds

pub own_at_determined : Determined 0 own_at_kinds.ps own_at_kinds.r own_at_reads.Asked own_at_reads.Post (λ κs r s. r)
own_at_determined κs a = (tt, λ x y s t p q. p ∙ sym q)

pub own_put_determined : Determined 0 own_put_kinds.ps own_put_kinds.r own_put_reads.Asked own_put_reads.Post (λ κs r s. r)
own_put_determined κs a = (tt, λ x y s t p q. p ∙ sym q)

pub free_own_determined : Determined 0 free_own_kinds.ps free_own_kinds.r free_own_reads.Asked free_own_reads.Post (λ κs r s. r)
free_own_determined κs a = (tt, λ x y s t p q. p ∙ sym q)

pub reply_for_determined : Determined 0 reply_for_kinds.ps reply_for_kinds.r reply_for_reads.Asked reply_for_reads.Post (λ κs r s. r)
reply_for_determined κs a = (tt, λ x y s t p q. p ∙ sym q)

pub tick_own_determined : Determined 0 tick_own_kinds.ps tick_own_kinds.r tick_own_reads.Asked tick_own_reads.Post (λ κs r s. r)
tick_own_determined κs a = (tt, λ x y s t p q. p ∙ sym q)

pub incoming_at_determined : Determined 0 incoming_at_kinds.ps incoming_at_kinds.r incoming_at_reads.Asked incoming_at_reads.Post (λ κs r s. r)
incoming_at_determined κs a = (tt, λ x y s t p q. p ∙ sym q)

pub incoming_put_determined : Determined 0 incoming_put_kinds.ps incoming_put_kinds.r incoming_put_reads.Asked incoming_put_reads.Post (λ κs r s. r)
incoming_put_determined κs a = (tt, λ x y s t p q. p ∙ sym q)

pub free_incoming_determined : Determined 0 free_incoming_kinds.ps free_incoming_kinds.r free_incoming_reads.Asked free_incoming_reads.Post (λ κs r s. r)
free_incoming_determined κs a = (tt, λ x y s t p q. p ∙ sym q)

pub message_for_determined : Determined 0 message_for_kinds.ps message_for_kinds.r message_for_reads.Asked message_for_reads.Post (λ κs r s. r)
message_for_determined κs a = (tt, λ x y s t p q. p ∙ sym q)

pub open_alike_determined : Determined 0 open_alike_kinds.ps open_alike_kinds.r open_alike_reads.Asked open_alike_reads.Post (λ κs r s. r)
open_alike_determined κs a = (tt, λ x y s t p q. p ∙ sym q)

pub tick_incoming_determined : Determined 0 tick_incoming_kinds.ps tick_incoming_kinds.r tick_incoming_reads.Asked tick_incoming_reads.Post (λ κs r s. r)
tick_incoming_determined κs a = (tt, λ x y s t p q. p ∙ sym q)

pub number_of_determined : Determined 0 number_of_kinds.ps number_of_kinds.r number_of_reads.Asked number_of_reads.Post (λ κs r s. r)
number_of_determined κs a = (tt, λ x y s t p q. p ∙ sym q)

pub next_number_determined : Determined 0 next_number_kinds.ps next_number_kinds.r next_number_reads.Asked next_number_reads.Post (λ κs r s. r)
next_number_determined κs a = (tt, λ x y s t p q. p ∙ sym q)
