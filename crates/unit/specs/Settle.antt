-- The last step of every call: the line settles, and behind the code p of the line's step leaves the ENQ of a held block (01, "The line":
-- "its ENQ leaves in the call that made the line idle, after the ACK or NAK"). What is answered then, and the output.
use Rattle.std.specs.Prelude.{List, ℕ, length}
use Rattle.wire.specs.Lent.{on_front}
use Rattle.line.specs.Line.{settle_of}
use Rattle.line.specs.declared.step.Out.{Out}
use Rattle.exchange.specs.declared.Flags.{Flags}
use Rattle.link.specs.State.{with_line, answer_as}
use Rattle.link.specs.Run.{codes}
use Rattle.link.specs.declared.Outcome.{Outcome}
use Rattle.link.specs.declared.Note.{Note}
use Rattle.link.specs.declared.Answer.{Answer}
use Rattle.link.specs.declared.Link.{Link}

abbrev pub settled_as : Link → Out → Outcome → Note → Flags → Answer
settled_as u p k n f = answer_as (with_line u (settle_of u.line).line) (length (codes p (settle_of u.line).out)) k n f

abbrev pub settled_out : Link → Out → List ℕ → List ℕ
settled_out u p o = on_front (codes p (settle_of u.line).out) o
