-- The contract of `judge` asks nothing and determines the result and every byte of the room. Assumes nothing.
use mathlib.Core.Path.{sym, ◌∙◌}
use Rattle.wire.specs.Determined.{Determined}
use Rattle.exchange.specs.Judge.{judging}
use Rattle.judging.proofs.judging.judge.Reads as judge_reads
use Rattle.judging.proofs.judging.judge.Kinds as judge_kinds

pub judge_determined : Determined 2 judge_kinds.ps judge_kinds.r judge_reads.Asked judge_reads.Post (λ κs r s. judging r s.1.1.1.1.0.now)
judge_determined κs a = (tt, λ x y s t p q. p ∙ sym q)
