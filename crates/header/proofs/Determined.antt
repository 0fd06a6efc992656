-- The contract of each public function asks nothing and determines the result. Assumes nothing.
use mathlib.Core.Path.{sym, ◌∙◌}
use Rattle.wire.specs.Determined.{Determined}
use Rattle.header.proofs.header.Header.bytes.Reads as bytes_reads
use Rattle.header.proofs.header.Header.bytes.Kinds as bytes_kinds
use Rattle.header.proofs.header.Header.from_bytes.Reads as from_bytes_reads
use Rattle.header.proofs.header.Header.from_bytes.Kinds as from_bytes_kinds
use Rattle.header.proofs.header.Header.numbered.Reads as numbered_reads
use Rattle.header.proofs.header.Header.numbered.Kinds as numbered_kinds

pub bytes_determined : Determined 0 bytes_kinds.ps bytes_kinds.r bytes_reads.Asked bytes_reads.Post (λ κs r s. r)
bytes_determined κs a = (tt, λ x y s t p q. p ∙ sym q)

pub from_bytes_determined : Determined 0 from_bytes_kinds.ps from_bytes_kinds.r from_bytes_reads.Asked from_bytes_reads.Post (λ κs r s. r)
from_bytes_determined κs a = (tt, λ x y s t p q. p ∙ sym q)

pub numbered_determined : Determined 0 numbered_kinds.ps numbered_kinds.r numbered_reads.Asked numbered_reads.Post (λ κs r s. r)
numbered_determined κs a = (tt, λ x y s t p q. p ∙ sym q)
