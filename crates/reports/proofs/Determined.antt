-- The contract of each public function asks nothing and determines the result. Assumes nothing.
use mathlib.Core.Path.{sym, ◌∙◌}
use Rattle.wire.specs.Determined.{Determined}
use Rattle.reports.proofs.none.Reads as none_reads
use Rattle.reports.proofs.none.Kinds as none_kinds
use Rattle.reports.proofs.added.Reads as added_reads
use Rattle.reports.proofs.added.Kinds as added_kinds
use Rattle.reports.proofs.oldest.Reads as oldest_reads
use Rattle.reports.proofs.oldest.Kinds as oldest_kinds
use Rattle.reports.proofs.without_oldest.Reads as without_oldest_reads
use Rattle.reports.proofs.without_oldest.Kinds as without_oldest_kinds
use Rattle.reports.proofs.showing.Reads as showing_reads
use Rattle.reports.proofs.showing.Kinds as showing_kinds
use Rattle.reports.proofs.in_range.Reads as in_range_reads
use Rattle.reports.proofs.in_range.Kinds as in_range_kinds

pub none_determined : Determined 0 none_kinds.ps none_kinds.r none_reads.Asked none_reads.Post (λ κs r s. r)
none_determined κs a = (tt, λ x y s t p q. p ∙ sym q)

pub added_determined : Determined 0 added_kinds.ps added_kinds.r added_reads.Asked added_reads.Post (λ κs r s. r)
added_determined κs a = (tt, λ x y s t p q. p ∙ sym q)

pub oldest_determined : Determined 0 oldest_kinds.ps oldest_kinds.r oldest_reads.Asked oldest_reads.Post (λ κs r s. r)
oldest_determined κs a = (tt, λ x y s t p q. p ∙ sym q)

pub without_oldest_determined : Determined 0 without_oldest_kinds.ps without_oldest_kinds.r without_oldest_reads.Asked without_oldest_reads.Post (λ κs r s. r)
without_oldest_determined κs a = (tt, λ x y s t p q. p ∙ sym q)

pub showing_determined : Determined 0 showing_kinds.ps showing_kinds.r showing_reads.Asked showing_reads.Post (λ κs r s. r)
showing_determined κs a = (tt, λ x y s t p q. p ∙ sym q)

pub in_range_determined : Determined 0 in_range_kinds.ps in_range_kinds.r in_range_reads.Asked in_range_reads.Post (λ κs r s. r)
in_range_determined κs a = (tt, λ x y s t p q. p ∙ sym q)
