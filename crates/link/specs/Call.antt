-- The calls of the unit: refusals 1 to 3, then what the call does (01, "Refusal numbers and notes").
use Rattle.std.specs.Prelude.{ℕ, Bool, true, false, cond, List, [], length, Result, Ok, Err}
use Rattle.line.specs.declared.step.Out.TheVariants as out
use Rattle.line.specs.declared.step.Told.TheVariants as told
use Rattle.exchange.specs.Flags.{no_flags}
use Rattle.exchange.specs.Request.{Requesting, Request, primary, reply, freeing_own, freeing_incoming, answer_of, lends}
use Rattle.exchange.specs.declared.Exchange.{Exchange}
use Rattle.exchange.specs.declared.Primary.{Primary}
use Rattle.exchange.specs.declared.Requested.{Requested}
use Rattle.link.specs.State.{with_exchange, answer_as, refused_as, link_in_range, gate_of}
use Rattle.link.specs.Run.{Left, left, untold, course, stepped, byte_stepped, byte_step, tick_step, drained_step}
use Rattle.link.specs.declared.Refusal.TheVariants as refusal
use Rattle.link.specs.declared.Outcome.TheVariants as outcome
use Rattle.link.specs.declared.Note.TheVariants as note
use Rattle.link.specs.declared.Answer.{Answer}
use Rattle.link.specs.declared.Link.{Link}
use Rattle.exchange.specs.Asked.{Asked}
use Rattle.link.specs.declared.Refusal.{Refusal}

-- a call goes through, or is refused and leaves all as it was
abbrev pub through : Result Unit Refusal → Link → List ℕ → List ℕ → Left → Left
through (Ok tt) u room o l = l
through (Err r) u room o l = left (refused_as u r) room o

abbrev pub gated : Link → List ℕ → List ℕ → Left → Left
gated u room o l = through (gate_of u (length room) (length o)) u room o l

-- ---- calls on the line

abbrev pub byte_call : Link → ℕ → List ℕ → List ℕ → Left
byte_call u b room o = gated u room o (byte_stepped u (byte_step u b) room o)

abbrev pub tick_call : Link → List ℕ → List ℕ → Left
tick_call u room o = gated u room o (stepped true u (tick_step u) room o)

abbrev pub drained_call : Link → List ℕ → List ℕ → Left
drained_call u room o = gated u room o (stepped false u (drained_step u) room o)

-- ---- requests: refusals 5 to 11 are the transactions'

-- a message that is accepted is to be sent: the same course, the line having made no step
abbrev pub requested_by : Asked → Link → Exchange → List ℕ → List ℕ → Left
requested_by (Ok p) u x room o = course u out.Nothing told.Nothing (untold x note.Nothing) (outcome.Taken p) room o
requested_by (Err r) u x room o = left (refused_as u (refusal.Request r)) room o

abbrev pub requested_as : Link → Requesting → List ℕ → Left
requested_as u a o = requested_by a.answer.asked u a.answer.exchange a.room o

abbrev pub lent_call : Link → Request → List ℕ → List ℕ → Left
lent_call u r room o = gated u room o (requested_as u (answer_of u.settings.terms u.exchange r room) o)

-- a release is lent no memory: the line has no part in it
abbrev pub frees_by : Asked → Link → Exchange → Answer
frees_by (Ok p) u x = answer_as (with_exchange u x) 0 (outcome.Taken p) note.Nothing no_flags
frees_by (Err r) u x = refused_as u (refusal.Request r)

abbrev pub frees : Link → Requested → Answer
frees u q = frees_by q.asked u q.exchange

-- 3, and then 9
unfoldable pub free_call : Link → Request → Answer
free_call u r = cond (link_in_range u) (frees u (answer_of u.settings.terms u.exchange r []).answer) (refused_as u refusal.State)

-- any request, by whether memory is lent to it
abbrev pub request_by : Bool → Link → Request → List ℕ → List ℕ → Left
request_by true u r room o = lent_call u r room o
request_by false u r room o = left (free_call u r) room o

abbrev pub request_call : Link → Request → List ℕ → List ℕ → Left
request_call u r room o = request_by (lends r) u r room o

-- each by the name that its function has: no more than that request (`RequestsAre`, specs/Refusals.antt)
abbrev pub open_call : Link → Primary → List ℕ → List ℕ → List ℕ → Left
open_call u q d room o = request_call u (primary q d) room o

abbrev pub reply_call : Link → ℕ → ℕ → List ℕ → List ℕ → List ℕ → Left
reply_call u p f d room o = request_call u (reply p f d) room o

abbrev pub release_own_call : Link → ℕ → Answer
release_own_call u p = (request_call u (freeing_own p) [] []).answer

abbrev pub release_incoming_call : Link → ℕ → Answer
release_incoming_call u p = (request_call u (freeing_incoming p) [] []).answer
