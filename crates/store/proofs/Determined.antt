-- The contract of each public function asks nothing, and determines every byte of the room after a keep, and every byte that is
-- read. Assumes nothing.
use mathlib.Core.Path.{sym, ◌∙◌}
use Rattle.wire.specs.Determined.{Determined}
use Rattle.store.proofs.keep.Reads as keep_reads
use Rattle.store.proofs.keep.Kinds as keep_kinds
use Rattle.store.proofs.bytes_of.Reads as bytes_of_reads
use Rattle.store.proofs.bytes_of.Kinds as bytes_of_kinds

pub keep_determined : Determined 2 keep_kinds.ps keep_kinds.r keep_reads.Asked keep_reads.Post (λ κs r s. s.0.now)
keep_determined κs a = (tt, λ x y s t p q. p ∙ sym q)

pub bytes_of_determined : Determined 1 bytes_of_kinds.ps bytes_of_kinds.r bytes_of_reads.Asked bytes_of_reads.Post (λ κs r s. r.now)
bytes_of_determined κs a = (tt, λ x y s t p q. p ∙ sym q)
