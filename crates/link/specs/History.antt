-- Calls of the unit, in any order, refused ones among them, and what onlookers see of them. By these the line inside the unit goes
-- through calls of a line only, and the transactions through calls of the transactions only: which ones, is a function of the call.
use Rattle.std.specs.Prelude.{ℕ, ◌<◌, Bool, true, false, cond, List, [], ◌∷◌, ◌++◌}
use Rattle.wire.specs.Bytes.{part}
use Rattle.header.specs.Header.{first_ten}
use Rattle.settings.specs.declared.limits.Limits.{Limits}
use Rattle.settings.specs.declared.terms.Terms.{Terms}
use Rattle.line.specs.Line.{Heard, heard, stays}
use Rattle.line.specs.History as line
use Rattle.line.specs.declared.step.Out.{Out}
use Rattle.line.specs.declared.step.Out.TheVariants as out
use Rattle.line.specs.declared.step.Told.{Told}
use Rattle.line.specs.declared.step.Told.TheVariants as told
use Rattle.place.specs.OwnHistory as own
use Rattle.place.specs.IncomingHistory as incoming
use Rattle.exchange.specs.Reports.{same_message}
use Rattle.exchange.specs.Request.{Request, answer_of, lends, is_sending}
use Rattle.exchange.specs.History as exchange
use Rattle.exchange.specs.Watching.{own_sees, incoming_sees, watch}
use Rattle.exchange.specs.declared.Exchange.{Exchange}
use Rattle.link.specs.State.{fresh_link}
use Rattle.link.specs.Run.{Left, Telling, has_next, passing, hears, hearing}
use Rattle.link.specs.Call.{byte_call, tick_call, drained_call, request_call}
use Rattle.link.specs.declared.Settings.{Settings}
use Rattle.link.specs.declared.Outcome.{Outcome}
use Rattle.link.specs.declared.Outcome.TheVariants as outcome
use Rattle.link.specs.declared.Link.{Link}

-- ---- the calls

pub data Call : Type 0 where
  byte : (b : ℕ) → b < 256 → Call
  tick drained : Call
  request : Request → Call

-- what a call leaves, with this room and this output lent to it; a release is lent neither
abbrev pub called : Link → List ℕ → List ℕ → Call → Left
called u room o (byte b fits) = byte_call u b room o
called u room o tick = tick_call u room o
called u room o drained = drained_call u room o
called u room o (request r) = request_call u r room o

-- the room that is lent: as the last call left it, or another one
pub data Room : Type 0 where
  kept : Room
  other : List ℕ → Room

abbrev pub lent_room : Room → List ℕ → List ℕ
lent_room kept room = room
lent_room (other strange) room = strange

-- the room between calls: a call on another one leaves it as it was
abbrev pub room_after : Room → List ℕ → List ℕ → List ℕ
room_after kept room now = now
room_after (other strange) room now = room

-- a call as it is made: with what memory
pub record Made : Type 0 where
  pub call : Call
  pub room : Room
  pub out : List ℕ

-- ---- what a call tells the machines inside

-- nothing, if it is refused
abbrev pub unless_refused : {A : Type 0} → Outcome → List A → List A
unless_refused outcome.Done ks = ks
unless_refused (outcome.Taken p) ks = ks
unless_refused (outcome.Refused r) ks = []

-- a step of the unit's line, in the line's own words
abbrev pub line_step : Link → line.Call → Heard
line_step u k = line.called u.settings.limits u.line u.received k

-- the step that the line makes in a call, before the transactions are told: in a request it makes none. Statements go by it; that the
-- unit's calls do, is `StepIsLines` (specs/Device.antt).
abbrev pub step_in : Link → Call → Heard
step_in u (byte b fits) = line_step u (line.byte b fits)
step_in u tick = line_step u line.tick
step_in u drained = line_step u line.drained
step_in u (request r) = heard (stays u.line) u.received

-- what the device tells becomes a call of the transactions: of a message's blocks they are told that the last one is put out, and its end
abbrev pub told_on : Told → Bool → List ℕ → List exchange.Call
told_on told.Nothing next rs = []
told_on told.PutOut next rs = cond next [] (exchange.put_out ∷ [])
told_on told.Sent next rs = cond next [] (exchange.acknowledged ∷ [])
told_on told.Failed next rs = exchange.failed ∷ []
told_on (told.Up n) next rs = exchange.block (first_ten rs) (part 10 n rs) ∷ []

-- and behind it what the call is to them by itself
abbrev pub itself : Call → List exchange.Call
itself (byte b fits) = []
itself tick = exchange.tick ∷ []
itself drained = []
itself (request r) = exchange.request r ∷ []

-- All that the transactions hear of a call. They know no line: another device would tell them the same.
abbrev pub on_exchange : Link → Call → List exchange.Call
on_exchange u k = told_on (step_in u k).step.told (has_next u) (step_in u k).received ++ itself k

-- what they make of the device's step
abbrev pub heard_by : Link → Heard → List ℕ → Telling
heard_by u h room = hearing h.step.told h.step.remark (hears u h) room

-- what they are at the call's end
abbrev pub exchange_in : Link → List ℕ → Call → Exchange
exchange_in u room (byte b fits) = (heard_by u (step_in u (byte b fits)) room).midway.exchange
exchange_in u room tick = (passing true u.settings.terms (heard_by u (step_in u tick) room).midway).exchange
exchange_in u room drained = u.exchange
exchange_in u room (request r) = (answer_of u.settings.terms u.exchange r room).answer.exchange

-- the courier's calls of the line, as `courier_by` has them
abbrev pub going_on : Told → List line.Call
going_on told.Nothing = []
going_on told.PutOut = []
going_on told.Sent = line.ask ∷ []
going_on told.Failed = []
going_on (told.Up n) = []

abbrev pub couriers : Bool → Bool → Bool → Told → List line.Call
couriers same false false t = []
couriers same false true t = line.ask ∷ []
couriers same true false t = line.withdraw ∷ []
couriers true true true t = going_on t
couriers false true true t = line.ask ∷ []

-- the line settles behind the courier
abbrev pub settling : List line.Call → List line.Call
settling ks = ks ++ (line.settle ∷ [])

-- "EOT puts out the whole block": nothing else is done in that call
abbrev pub settles : Out → List line.Call → List line.Call
settles out.Nothing ks = settling ks
settles (out.Code c) ks = settling ks
settles out.Block ks = []

abbrev pub couriers_in : Link → List ℕ → Call → List line.Call
couriers_in u room k =
    couriers (same_message u.exchange.sending (exchange_in u room k).sending) (is_sending u.exchange) (is_sending (exchange_in u room k))
    (step_in u k).step.told

-- what a call is to the line: a release nothing
abbrev pub on_line : Link → List ℕ → Call → List line.Call
on_line u room (byte b fits) = line.byte b fits ∷ settles (step_in u (byte b fits)).step.out (couriers_in u room (byte b fits))
on_line u room tick = line.tick ∷ settling (couriers_in u room tick)
on_line u room drained = line.drained ∷ settling (couriers_in u room drained)
on_line u room (request r) = cond (lends r) (settling (couriers_in u room (request r))) []

-- the outcome of a call, and what it tells by it
abbrev pub came_to : Link → List ℕ → List ℕ → Call → Outcome
came_to u room o k = (called u room o k).answer.outcome

abbrev pub line_calls : Link → List ℕ → List ℕ → Call → List line.Call
line_calls u room o k = unless_refused (came_to u room o k) (on_line u room k)

abbrev pub exchange_calls : Link → List ℕ → List ℕ → Call → List exchange.Call
exchange_calls u room o k = unless_refused (came_to u room o k) (on_exchange u k)

-- ---- any calls from a start

-- The unit and the room between calls; what the onlooker of a line has seen; what the onlooker of the transactions has joined; and
-- what the onlookers of the places have seen.
pub record Track : Type 0 where
  pub link : Link
  pub room : List ℕ
  pub seen : line.Seen
  pub joined : exchange.Joined
  pub own : ℕ → own.Seen
  pub incoming : ℕ → incoming.Seen

-- the line's track, and the transactions', inside it
abbrev pub line_track : Track → line.Track
line_track t = record { line = t.link.line; received = t.link.received; seen = t.seen }

abbrev pub exchange_track : Track → List ℕ → exchange.Track
exchange_track t room = record { exchange = t.link.exchange; room = room; seen = t.joined }

abbrev pub limits_in : Track → Limits
limits_in t = t.link.settings.limits

abbrev pub terms_in : Track → Terms
terms_in t = t.link.settings.terms

-- what a call leaves, made on this track
abbrev pub answered : Track → Made → Left
answered t m = called t.link (lent_room m.room t.room) m.out m.call

abbrev pub on_line_in : Track → Made → List line.Call
on_line_in t m = line_calls t.link (lent_room m.room t.room) m.out m.call

abbrev pub on_exchange_in : Track → Made → List exchange.Call
on_exchange_in t m = exchange_calls t.link (lent_room m.room t.room) m.out m.call

abbrev pub next : Track → Made → Track
next t m = record {
  link = (answered t m).answer.link;
  room = room_after m.room t.room (answered t m).room;
  seen = (line.track (limits_in t) (line_track t) (on_line_in t m)).seen;
  joined = (exchange.track (terms_in t) (exchange_track t (lent_room m.room t.room)) (on_exchange_in t m)).seen;
  own = λ p. watch (terms_in t) (own_sees (terms_in t) p) (exchange_track t (lent_room m.room t.room)) (t.own p) (on_exchange_in t m);
  incoming = λ p. watch (terms_in t) (incoming_sees (terms_in t) p) (exchange_track t (lent_room m.room t.room)) (t.incoming p) (on_exchange_in t m);
}

unfoldable pub track : Track → List Made → Track
track t [] = t
track t (m ∷ ms) = track (next t m) ms

-- a unit as it starts, with any bytes in the room
abbrev pub at_start : Settings → ℕ → List ℕ → Track
at_start s last room = record {
  link = fresh_link s last;
  room = room;
  seen = line.nothing_seen;
  joined = exchange.nothing_joined;
  own = λ p. own.nothing_seen;
  incoming = λ p. incoming.nothing_seen;
}
