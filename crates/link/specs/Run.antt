-- A call that is not refused has one course (01, "The line", "Messages"): the device's step; the transactions are told; the courier; the
-- line settles.
use Rattle.std.specs.Prelude.{ℕ, Bool, true, false, cond, ◌||◌, List, [], ◌∷◌, ◌++◌, ltb, length, get_or, Option, None, Some}
use Rattle.wire.specs.Bytes.{part}
use Rattle.wire.specs.Lent.{on_front}
use Rattle.header.specs.Header.{first_ten}
use Rattle.settings.specs.declared.terms.Terms.{Terms}
use Rattle.cut.specs.Blocks.{block_count, cut_of}
use Rattle.cut.specs.declared.Cut.{Cut}
use Rattle.block.specs.Block.{block_of}
use Rattle.room.specs.Room.{bytes_in}
use Rattle.room.specs.declared.Message.TheVariants as message
use Rattle.line.specs.Codes.{bytes_out}
use Rattle.line.specs.Line.{Heard, heard, stays, byte_of, tick_of, drained_of, settle_of}
use Rattle.line.specs.declared.step.Out.{Out}
use Rattle.line.specs.declared.step.Out.TheVariants as out
use Rattle.line.specs.declared.step.Told.{Told}
use Rattle.line.specs.declared.step.Told.TheVariants as told
use Rattle.line.specs.declared.step.Remark.{Remark}
use Rattle.exchange.specs.Reports.{report_header, report_body}
use Rattle.exchange.specs.Flags.{no_flags}
use Rattle.exchange.specs.Send.{outgoing_of, put_out_of, sent_of, failed_of}
use Rattle.exchange.specs.Tick.{tick_of as ticks_of}
use Rattle.exchange.specs.Judge.{Judging, judge_of}
use Rattle.exchange.specs.declared.Flags.{Flags}
use Rattle.exchange.specs.declared.Exchange.{Exchange}
use Rattle.exchange.specs.declared.Outgoing.{Outgoing}
use Rattle.exchange.specs.declared.Outgoing.TheVariants as outgoing
use Rattle.exchange.specs.declared.Changed.{Changed}
use Rattle.exchange.specs.declared.Judged.{Judged}
use Rattle.link.specs.Answer.{note_by}
use Rattle.link.specs.State.{with_heard, with_exchange, answer_as}
use Rattle.link.specs.Courier.{courier_of}
use Rattle.link.specs.declared.Carried.{Carried}
use Rattle.link.specs.declared.Midway.{Midway}
use Rattle.link.specs.declared.Outcome.{Outcome}
use Rattle.link.specs.declared.Outcome.TheVariants as outcome
use Rattle.link.specs.declared.Note.{Note}
use Rattle.link.specs.declared.Note.TheVariants as note
use Rattle.link.specs.declared.Answer.{Answer}
use Rattle.link.specs.declared.Link.{Link}

-- ---- what a call leaves

-- its answer, and every byte of the lent room and of the lent output
pub record Left : Type 0 where
  pub answer : Answer
  pub room : List ℕ
  pub out : List ℕ

abbrev pub left : Answer → List ℕ → List ℕ → Left
left a room out = record { answer = a; room = room; out = out }

-- "A call writes only the output bytes it reports": these bytes leave, this is the unit then, and m and the room are what the
-- transactions made of the call
abbrev pub leaves : List ℕ → Link → Outcome → Midway → List ℕ → List ℕ → Left
leaves bs u k m room o = left (answer_as u (length bs) k m.note m.flags) room (on_front bs o)

-- ---- the transactions are told

-- whether a message has a block behind block k
abbrev pub next_in : Outgoing → ℕ → Bool
next_in outgoing.Nothing k = false
next_in (outgoing.Message h n) k = ltb k (block_count n)
next_in (outgoing.Report f n) k = false

abbrev pub has_next : Link → Bool
has_next u = next_in (outgoing_of u.exchange) u.block

abbrev pub midway : Exchange → Note → Flags → Midway
midway x t f = record { exchange = x; note = t; flags = f }

-- nothing is told that changes them
abbrev pub untold : Exchange → Note → Midway
untold x t = midway x t no_flags

-- how the message's sending ended
abbrev pub changed_to : Changed → Note → Midway
changed_to c t = midway c.exchange t c.flags

-- a block goes out: they are told so of the message's last one
unfoldable pub putting_out : Bool → Exchange → Exchange
putting_out more x = cond more x (put_out_of x)

-- a block was acknowledged: they are told so of the message's last one
unfoldable pub acknowledged : Bool → Exchange → Note → Midway
acknowledged more x t = cond more (untold x t) (changed_to (sent_of x) t)

-- the block of n bytes that went up: its ten header bytes, and its data
abbrev pub judging : Link → ℕ → List ℕ → Judging
judging u n room = judge_of u.settings.terms u.exchange (first_ten u.received) (part 10 n u.received) room

abbrev pub judged_as : Judged → Midway
judged_as j = midway j.exchange (note.Block j.note) j.flags

-- what they make of what they are told, and every byte of the room
pub record Telling : Type 0 where
  pub midway : Midway
  pub room : List ℕ

abbrev pub telling : Midway → List ℕ → Telling
telling m room = record { midway = m; room = room }

-- what the device tells; t is the note of what it remarks
abbrev pub tells : Told → Note → Link → List ℕ → Telling
tells told.Nothing t u room = telling (untold u.exchange t) room
tells told.PutOut t u room = telling (untold (putting_out (has_next u) u.exchange) t) room
tells told.Sent t u room = telling (acknowledged (has_next u) u.exchange t) room
tells told.Failed t u room = telling (changed_to (failed_of u.exchange) t) room
tells (told.Up n) t u room = telling (judged_as (judging u n room).answer) (judging u n room).room

abbrev pub either_marks : List Bool → List Bool → List Bool
either_marks xs ys =
    (get_or xs 0 false || get_or ys 0 false) ∷ (get_or xs 1 false || get_or ys 1 false) ∷ (get_or xs 2 false || get_or ys 2 false)
    ∷ (get_or xs 3 false || get_or ys 3 false) ∷ []

-- the flags of two steps in one call
abbrev pub both_flags : Flags → Flags → Flags
both_flags f g = record {
  verdicts = either_marks f.verdicts g.verdicts;
  completed = either_marks f.completed g.completed;
  dropped = either_marks f.dropped g.dropped;
}

-- "On a tick the line goes first, then own places 0 to 3, then incoming places 0 to 3"
abbrev pub ticked : Midway → Changed → Midway
ticked m c = midway c.exchange m.note (both_flags m.flags c.flags)

-- `ticks`: whether 0.1 s pass in the call
abbrev pub passing : Bool → Terms → Midway → Midway
passing false c m = m
passing true c m = ticked m (ticks_of c m.exchange)

-- ---- the courier, and the end of a call

abbrev pub carried_by : Link → Told → Exchange → List ℕ → Carried
carried_by u t x room = courier_of u.exchange.sending x.sending t u.line u.block room

-- two codes at most leave in a call, or none
abbrev pub codes : Out → Out → List ℕ
codes first second = bytes_out [] first ++ bytes_out [] second

-- the last step of a call: "its ENQ leaves in the call that made the line idle, after the ACK or NAK"
abbrev pub closed : Link → Carried → Exchange → Link
closed u c x = record { settings = u.settings; line = (settle_of c.line).line; received = u.received; exchange = x; block = c.block }

abbrev pub settled : Link → Out → Carried → Midway → Outcome → List ℕ → List ℕ → Left
settled u p c m k room o = leaves (codes p (settle_of c.line).out) (closed u c m.exchange) k m room o

-- from the transactions on: u is the unit as the device's step left it, which put p out and told t
abbrev pub course : Link → Out → Told → Midway → Outcome → List ℕ → List ℕ → Left
course u p t m k room o = settled u p (carried_by u t m.exchange room) m k room o

-- ---- the whole block

-- the bytes of a block that was cut from the message in the send area
abbrev pub bytes_by : Option Cut → List ℕ → List ℕ
bytes_by (Some c) room = block_of c.header (bytes_in room message.Send c.start c.length)
bytes_by None room = []

-- A report is one block, and no byte of it lies in the room: "the two bytes hex 21 0A, then the ten header bytes" that it shows (02,
-- request 2).
abbrev pub block_in : ℕ → List ℕ → Outgoing → ℕ → List ℕ → List ℕ
block_in device shown outgoing.Nothing k room = []
block_in device shown (outgoing.Message h n) k room = bytes_by (cut_of h n k) room
block_in device shown (outgoing.Report f n) k room = block_of (report_header device f n) (report_body shown)

-- the block of the message being sent that is on its way
abbrev pub block_bytes : Link → List ℕ → List ℕ
block_bytes u room = block_in u.settings.terms.device u.exchange.reports.shown (outgoing_of u.exchange) u.block room

-- "EOT puts out the whole block": nothing else leaves, is judged or settles in that call. r is what the transactions made of it.
abbrev pub block_out : Link → Telling → List ℕ → List ℕ → Left
block_out u r room o = leaves (block_bytes u room) (with_exchange u r.midway.exchange) outcome.Done r.midway r.room o

-- it excludes everything else in its call
abbrev pub unless_block : Out → Left → Left → Left
unless_block out.Nothing block l = l
unless_block (out.Code c) block l = l
unless_block out.Block block l = block

-- ---- a byte, a tick, drained: `ticks` is whether 0.1 s pass in the call

-- the unit once its line has made a step
abbrev pub hears : Link → Heard → Link
hears u h = with_heard u h.step.line h.received

-- what the transactions make of it
abbrev pub hearing : Told → Remark → Link → List ℕ → Telling
hearing t r u room = tells t (note_by r) u room

-- from what they made of it on
abbrev pub onward : Out → Bool → Told → Link → Telling → List ℕ → Left
onward p ticks t u r o = course u p t (passing ticks u.settings.terms r.midway) outcome.Done r.room o

abbrev pub stepped : Bool → Link → Heard → List ℕ → List ℕ → Left
stepped ticks u h room o = onward h.step.out ticks h.step.told (hears u h) (hearing h.step.told h.step.remark (hears u h) room) o

-- the whole block goes out at a byte alone
abbrev pub byte_onward : Out → Told → Link → Telling → List ℕ → List ℕ → Left
byte_onward p t u r room o = unless_block p (block_out u r room o) (onward p false t u r o)

abbrev pub byte_stepped : Link → Heard → List ℕ → List ℕ → Left
byte_stepped u h room o =
    byte_onward h.step.out h.step.told (hears u h) (hearing h.step.told h.step.remark (hears u h) room) room o

abbrev pub byte_step : Link → ℕ → Heard
byte_step u b = byte_of u.settings.limits u.line b u.received

abbrev pub tick_step : Link → Heard
tick_step u = heard (tick_of u.settings.limits u.line) u.received

abbrev pub drained_step : Link → Heard
drained_step u = heard (stays (drained_of u.line)) u.received
