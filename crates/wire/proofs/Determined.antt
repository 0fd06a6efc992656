-- The contract of each public function asks nothing and determines the result and every byte of the memory that was lent to be
-- written. Assumes nothing.
use Rattle.std.proofs.Common.{sym, ◌∙◌}
use Rattle.wire.specs.Determined.{Determined}
use Rattle.wire.proofs.memory.put.Reads as put_reads
use Rattle.wire.proofs.memory.put.Kinds as put_kinds
use Rattle.wire.proofs.number.pair.Reads as pair_reads
use Rattle.wire.proofs.number.pair.Kinds as pair_kinds
use Rattle.wire.proofs.number.halves.Reads as halves_reads
use Rattle.wire.proofs.number.halves.Kinds as halves_kinds
use Rattle.wire.proofs.number.quad.Reads as quad_reads
use Rattle.wire.proofs.number.quad.Kinds as quad_kinds
use Rattle.wire.proofs.number.quarters.Reads as quarters_reads
use Rattle.wire.proofs.number.quarters.Kinds as quarters_kinds
use Rattle.wire.proofs.sum.sum_with.Reads as sum_with_reads
use Rattle.wire.proofs.sum.sum_with.Kinds as sum_with_kinds
use Rattle.wire.proofs.sum.checksum.Reads as checksum_reads
use Rattle.wire.proofs.sum.checksum.Kinds as checksum_kinds

pub pair_determined : Determined 0 pair_kinds.ps pair_kinds.r pair_reads.Asked pair_reads.Post (λ κs r s. r)
pair_determined κs a = (tt, λ x y s t p q. p ∙ sym q)

pub halves_determined : Determined 0 halves_kinds.ps halves_kinds.r halves_reads.Asked halves_reads.Post (λ κs r s. r)
halves_determined κs a = (tt, λ x y s t p q. p ∙ sym q)

pub quad_determined : Determined 0 quad_kinds.ps quad_kinds.r quad_reads.Asked quad_reads.Post (λ κs r s. r)
quad_determined κs a = (tt, λ x y s t p q. p ∙ sym q)

pub quarters_determined : Determined 0 quarters_kinds.ps quarters_kinds.r quarters_reads.Asked quarters_reads.Post (λ κs r s. r)
quarters_determined κs a = (tt, λ x y s t p q. p ∙ sym q)

pub sum_with_determined : Determined 0 sum_with_kinds.ps sum_with_kinds.r sum_with_reads.Asked sum_with_reads.Post (λ κs r s. r)
sum_with_determined κs a = (tt, λ x y s t p q. p ∙ sym q)

pub checksum_determined : Determined 1 checksum_kinds.ps checksum_kinds.r checksum_reads.Asked checksum_reads.Post (λ κs r s. r)
checksum_determined κs a = (tt, λ x y s t p q. p ∙ sym q)

pub put_determined : Determined 2 put_kinds.ps put_kinds.r put_reads.Asked put_reads.Post (λ κs r s. s.0.now)
put_determined κs a = (tt, λ x y s t p q. p ∙ sym q)
