-- The contract of each public function asks nothing and determines the result, and of those that are lent the room every byte of it.
-- Assumes nothing.
use mathlib.Core.Path.{sym, ◌∙◌}
use Rattle.wire.specs.Determined.{Determined}
use Rattle.exchange.specs.Request.{requesting}
use Rattle.clerk.proofs.time.tick.Reads as tick_reads
use Rattle.clerk.proofs.time.tick.Kinds as tick_kinds
use Rattle.clerk.proofs.time.is_still.Reads as is_still_reads
use Rattle.clerk.proofs.time.is_still.Kinds as is_still_kinds
use Rattle.clerk.proofs.send.put_out.Reads as put_out_reads
use Rattle.clerk.proofs.send.put_out.Kinds as put_out_kinds
use Rattle.clerk.proofs.send.sent.Reads as sent_reads
use Rattle.clerk.proofs.send.sent.Kinds as sent_kinds
use Rattle.clerk.proofs.send.failed.Reads as failed_reads
use Rattle.clerk.proofs.send.failed.Kinds as failed_kinds
use Rattle.clerk.proofs.send.outgoing.Reads as outgoing_reads
use Rattle.clerk.proofs.send.outgoing.Kinds as outgoing_kinds
use Rattle.clerk.proofs.request.open.Reads as open_reads
use Rattle.clerk.proofs.request.open.Kinds as open_kinds
use Rattle.clerk.proofs.request.reply.Reads as reply_reads
use Rattle.clerk.proofs.request.reply.Kinds as reply_kinds
use Rattle.clerk.proofs.request.release_own.Reads as release_own_reads
use Rattle.clerk.proofs.request.release_own.Kinds as release_own_kinds
use Rattle.clerk.proofs.request.release_incoming.Reads as release_incoming_reads
use Rattle.clerk.proofs.request.release_incoming.Kinds as release_incoming_kinds
use Rattle.clerk.proofs.request.refusal_number.Reads as refusal_number_reads
use Rattle.clerk.proofs.request.refusal_number.Kinds as refusal_number_kinds
use Rattle.clerk.proofs.request.is_sending.Reads as is_sending_reads
use Rattle.clerk.proofs.request.is_sending.Kinds as is_sending_kinds

pub tick_determined : Determined 0 tick_kinds.ps tick_kinds.r tick_reads.Asked tick_reads.Post (λ κs r s. r)
tick_determined κs a = (tt, λ x y s t p q. p ∙ sym q)

pub is_still_determined : Determined 0 is_still_kinds.ps is_still_kinds.r is_still_reads.Asked is_still_reads.Post (λ κs r s. r)
is_still_determined κs a = (tt, λ x y s t p q. p ∙ sym q)

pub put_out_determined : Determined 0 put_out_kinds.ps put_out_kinds.r put_out_reads.Asked put_out_reads.Post (λ κs r s. r)
put_out_determined κs a = (tt, λ x y s t p q. p ∙ sym q)

pub sent_determined : Determined 0 sent_kinds.ps sent_kinds.r sent_reads.Asked sent_reads.Post (λ κs r s. r)
sent_determined κs a = (tt, λ x y s t p q. p ∙ sym q)

pub failed_determined : Determined 0 failed_kinds.ps failed_kinds.r failed_reads.Asked failed_reads.Post (λ κs r s. r)
failed_determined κs a = (tt, λ x y s t p q. p ∙ sym q)

pub outgoing_determined : Determined 0 outgoing_kinds.ps outgoing_kinds.r outgoing_reads.Asked outgoing_reads.Post (λ κs r s. r)
outgoing_determined κs a = (tt, λ x y s t p q. p ∙ sym q)

pub open_determined : Determined 2 open_kinds.ps open_kinds.r open_reads.Asked open_reads.Post (λ κs r s. requesting r s.1.1.1.1.0.now)
open_determined κs a = (tt, λ x y s t p q. p ∙ sym q)

pub reply_determined : Determined 2 reply_kinds.ps reply_kinds.r reply_reads.Asked reply_reads.Post (λ κs r s. requesting r s.1.1.1.1.0.now)
reply_determined κs a = (tt, λ x y s t p q. p ∙ sym q)

pub release_own_determined : Determined 0 release_own_kinds.ps release_own_kinds.r release_own_reads.Asked release_own_reads.Post (λ κs r s. r)
release_own_determined κs a = (tt, λ x y s t p q. p ∙ sym q)

pub release_incoming_determined : Determined 0 release_incoming_kinds.ps release_incoming_kinds.r release_incoming_reads.Asked release_incoming_reads.Post (λ κs r s. r)
release_incoming_determined κs a = (tt, λ x y s t p q. p ∙ sym q)

pub refusal_number_determined : Determined 0 refusal_number_kinds.ps refusal_number_kinds.r refusal_number_reads.Asked refusal_number_reads.Post (λ κs r s. r)
refusal_number_determined κs a = (tt, λ x y s t p q. p ∙ sym q)

pub is_sending_determined : Determined 0 is_sending_kinds.ps is_sending_kinds.r is_sending_reads.Asked is_sending_reads.Post (λ κs r s. r)
is_sending_determined κs a = (tt, λ x y s t p q. p ∙ sym q)
