-- `command` meets its contract.
use Prim.Native.Nat.{ℕ}
use mathlib.Core.Path.{ap, ◌∙◌}
use mathlib.Core.List.{List}
use native.Mathlib.Omega.{arith}
use Rattle.link.specs.Call.{open_call, reply_call}
use Rattle.link.specs.Run.{left}
use Rattle.script.specs.declared.Printed.TheVariants as printed
use Rattle.talk.specs.Run.{running, nothing_ran, bytes_run}
use Rattle.talk.specs.Answer.{done, shown_as}
use Rattle.bench.proofs.Joining.{few, by_call, by_run}
use Rattle.std.specs.Prelude.{Some}
use Rattle.exchange.specs.Request as request
use Rattle.link.specs.History as call
use Rattle.bench.proofs.answer.command.Goals as goal

pub joined-requires : goal.joined-requires
joined-requires c = (omega arith, few c.args.link c.args.room.now c.args.out.now (call.request (request.primary _ c.first.result.now)) _ c.open-answer.ensures)

pub joined-requires-in-Reply : goal.joined-requires-in-Reply
joined-requires-in-Reply c = (omega arith, few c.args.link c.args.room.now c.args.out.now (call.request (request.reply _ _ c.first-in-Reply.result.now)) _ c.reply-answer.ensures)

pub joined-requires-in-ReleaseOwn : goal.joined-requires-in-ReleaseOwn
joined-requires-in-ReleaseOwn c = (omega arith, few c.args.link c.args.room.now c.args.out.now (call.request (request.freeing_own _)) _ (ap (λ a. left a c.args.room.now c.args.out.now) c.release_own-answer.ensures))

pub joined-requires-in-ReleaseIncoming : goal.joined-requires-in-ReleaseIncoming
joined-requires-in-ReleaseIncoming c = (omega arith, few c.args.link c.args.room.now c.args.out.now (call.request (request.freeing_incoming _)) _ (ap (λ a. left a c.args.room.now c.args.out.now) c.release_incoming-answer.ensures))

pub joined-requires-in-Drained : goal.joined-requires-in-Drained
joined-requires-in-Drained c = (omega arith, few c.args.link c.args.room.now c.args.out.now call.drained _ c.drained-answer.ensures)

pub returns-in-Start : goal.returns-in-Start
returns-in-Start c = simp c.in-Start.is (ap (λ s. done s c.args.room.now c.args.out.now) c.start.ensures)

pub returns-in-Open : goal.returns-in-Open
returns-in-Open c = simp c.in-Open.is (by_call c.args.out.now _ _ _ _ _ _ c.ran.ensures c.joined.ensures (c.open-answer.ensures ∙ ap (λ (d : List ℕ). open_call c.args.link c.in-Open.primary d c.args.room.now c.args.out.now) c.first.ensures))

pub returns-in-Reply : goal.returns-in-Reply
returns-in-Reply c = simp c.in-Reply.is (by_call c.args.out.now _ _ _ _ _ _ c.ran-in-Reply.ensures c.joined-in-Reply.ensures ((rw c.from.ensures at c.reply-answer.ensures) ∙ ap (λ (d : List ℕ). reply_call c.args.link c.in-Reply.place c.in-Reply.function d c.args.room.now c.args.out.now) c.first-in-Reply.ensures))

pub returns-in-ReleaseOwn : goal.returns-in-ReleaseOwn
returns-in-ReleaseOwn c = simp c.in-ReleaseOwn.is (by_call c.args.out.now _ _ _ _ _ _ c.ran-in-ReleaseOwn.ensures c.joined-in-ReleaseOwn.ensures (ap (λ a. left a c.args.room.now c.args.out.now) (rw c.from-in-ReleaseOwn.ensures at c.release_own-answer.ensures)))

pub returns-in-ReleaseIncoming : goal.returns-in-ReleaseIncoming
returns-in-ReleaseIncoming c = simp c.in-ReleaseIncoming.is (by_call c.args.out.now _ _ _ _ _ _ c.ran-in-ReleaseIncoming.ensures c.joined-in-ReleaseIncoming.ensures (ap (λ a. left a c.args.room.now c.args.out.now) (rw c.from-in-ReleaseIncoming.ensures at c.release_incoming-answer.ensures)))

pub returns-in-Bytes : goal.returns-in-Bytes
returns-in-Bytes c = simp c.in-Bytes.is (by_run _ _ _ _ _ c.ran-in-Bytes.ensures (c.bytes.ensures ∙ ap (bytes_run (running (nothing_ran c.args.link) c.args.room.now c.args.out.now)) c.first-in-Bytes.ensures))

pub returns-in-Ticks : goal.returns-in-Ticks
returns-in-Ticks c = simp c.in-Ticks.is (by_run _ _ _ _ _ c.ran-in-Ticks.ensures c.ticks.ensures)

pub returns-in-Drained : goal.returns-in-Drained
returns-in-Drained c = simp c.in-Drained.is (by_call c.args.out.now _ _ _ _ _ _ c.ran-in-Drained.ensures c.joined-in-Drained.ensures c.drained-answer.ensures)

pub returns-in-Verdict : goal.returns-in-Verdict
returns-in-Verdict c = simp c.in-Verdict.is (ap (λ p. done (shown_as (Some c.args.link) p 0) c.args.room.now c.args.out.now) c.verdict.ensures)

pub returns-in-Dropped : goal.returns-in-Dropped
returns-in-Dropped c = simp c.in-Dropped.is (ap (λ n. done (shown_as (Some c.args.link) (printed.Dropped n) 0) c.args.room.now c.args.out.now) c.dropped.ensures)
