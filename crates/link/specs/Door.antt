-- An onlooker at the door of the unit (demand 3). It sees which calls are made and whether they are refused, the bytes that leave, whether a
-- message is being sent or held then, and which one. Of the unit's state it sees nothing.
use Rattle.std.specs.Prelude.{ℕ, ◌+◌, ◌≤◌, ◌<◌, ◌≡◌, Bool, true, false, cond, not, ◌&&◌, ◌||◌, List, [], ◌∷◌, ◌++◌, ◌⊎◌, eqb, length, take}
use Rattle.settings.specs.declared.limits.Limits.{Limits}
use Rattle.line.specs.Codes.{ENQ, EOT, ACK, NAK, bytes_out}
use Rattle.line.specs.History as line
use Rattle.line.specs.History.{Ours, none, enquired, leaving, left, Seen}
use Rattle.line.specs.Theorems.{send_limit, Counts, receive_limit, patience}
use Rattle.line.specs.declared.phase.Phase.{Phase}
use Rattle.line.specs.declared.phase.Phase.TheVariants.{Idle, WaitEot, Draining, WaitAck, WaitLength, Body, Silence}
use Rattle.line.specs.declared.line.Line.{Line}
use Rattle.place.specs.OwnHistory as own
use Rattle.place.specs.IncomingHistory as incoming
use Rattle.place.specs.declared.OwnStage.{OwnStage}
use Rattle.place.specs.declared.OwnStage.TheVariants as stage
use Rattle.place.specs.declared.IncomingStage.{IncomingStage}
use Rattle.place.specs.declared.IncomingStage.TheVariants as arrival
use Rattle.exchange.specs.Exchange.{own_place, incoming_place}
use Rattle.link.specs.Answer.{accepted}
use Rattle.link.specs.Run.{Left, block_bytes}
use Rattle.exchange.specs.Reports.{same_message}
use Rattle.link.specs.Reading.{sending_of, message_of}
use Rattle.link.specs.History.{Call, byte, tick, drained, request, called, Room, lent_room, Made, line_calls, Track, answered, next, at_start}
use Rattle.link.specs.Inside.{Reached}
use Rattle.link.specs.declared.Outcome.{Outcome}
use Rattle.link.specs.declared.Outcome.TheVariants as outcome
use Rattle.link.specs.declared.Link.{Link}

-- ---- what leaves in a call: nothing, one or two codes, or a whole block, which is longer

abbrev pub bytes_left : Left → List ℕ
bytes_left l = take l.answer.count l.out

-- code x alone
abbrev pub alone : ℕ → List ℕ → Bool
alone x [] = false
alone x (a ∷ []) = eqb a x
alone x (a ∷ b ∷ bs) = false

-- ENQ, alone or behind another code
abbrev pub ends_in_enq : List ℕ → Bool
ends_in_enq [] = false
ends_in_enq (a ∷ []) = eqb a ENQ
ends_in_enq (a ∷ b ∷ []) = eqb b ENQ
ends_in_enq (a ∷ b ∷ c ∷ bs) = false

-- ACK or NAK, alone or before another code
abbrev pub answers : ℕ → Bool
answers a = eqb a ACK || eqb a NAK

abbrev pub closes : List ℕ → Bool
closes [] = false
closes (a ∷ []) = answers a
closes (a ∷ b ∷ []) = answers a
closes (a ∷ b ∷ c ∷ bs) = false

abbrev pub is_block : List ℕ → Bool
is_block [] = false
is_block (a ∷ []) = false
is_block (a ∷ b ∷ []) = false
is_block (a ∷ b ∷ c ∷ bs) = true

-- what the calls of a line put out, one after the other, `block` being the bytes of a whole block
unfoldable pub line_bytes : Limits → Line → List ℕ → List ℕ → List line.Call → List ℕ
line_bytes c l rs block [] = []
line_bytes c l rs block (k ∷ ks) =
    bytes_out block (line.called c l rs k).step.out ++ line_bytes c (line.called c l rs k).step.line (line.called c l rs k).received block ks

-- ---- a block of ours

-- a call as the onlooker of a line takes it: a byte, a tick, drained, or another
abbrev pub kind : Call → line.Call
kind (byte b fits) = line.byte b fits
kind tick = line.tick
kind drained = line.drained
kind (request r) = line.ask

-- a block is under way
abbrev pub on_way : Ours → Bool
on_way none = false
on_way enquired = true
on_way leaving = true
on_way left = true

-- none is where no message is being sent
abbrev pub while : Bool → Ours → Ours
while sending none = none
while sending enquired = cond sending enquired none
while sending leaving = cond sending leaving none
while sending left = cond sending left none

-- ENQ is out; the whole block is out; EOT is out, as it gave way; else it is where it was, or over
abbrev pub ours_after : Ours → line.Call → List ℕ → Bool → Ours
ours_after o k bs sending = cond (ends_in_enq bs) enquired (cond (is_block bs) leaving (cond (alone EOT bs) none (while sending (line.drains o k))))

-- an ENQ is a block's first: none was under way, or the one before it is acknowledged in this call
abbrev pub is_first : Ours → line.Call → Bool
is_first none k = true
is_first enquired k = false
is_first leaving k = false
is_first left k = line.comes ACK k

-- or it is another message's: `other` is whether another one is being sent than before the call. Behind a failed send the first ENQ of a report
-- (02, request 2) would look like a retry else.
abbrev pub begins : Ours → line.Call → List ℕ → Bool → Bool
begins o k bs other = ends_in_enq bs && (is_first o k || other)

-- ---- what the onlooker keeps, as that of a line does (line's specs/History.antt)

pub record Watch : Type 0 where
  pub ours : Ours
  -- since a block's first ENQ: ticks spent waiting for EOT or ACK, and ENQs that left, the first among them
  pub waited : ℕ
  pub enqs : ℕ
  -- from our EOT to our ACK or NAK
  pub theirs : Bool
  -- since our EOT: ticks, and the bytes that came
  pub took : ℕ
  pub came : List ℕ
  -- ticks since the last of these bytes, or since our EOT if none has come
  pub silent : ℕ

abbrev pub nothing_watched : Watch
nothing_watched = record { ours = none; waited = 0; enqs = 0; theirs = false; took = 0; came = []; silent = 0 }

-- a call that is not refused
abbrev pub sees : Watch → line.Call → List ℕ → Bool → Bool → Watch
sees w k bs sending other = record {
  ours = ours_after w.ours k bs sending;
  waited = cond (begins w.ours k bs other) 0 (line.waits w.ours w.waited k);
  enqs = cond (begins w.ours k bs other) 1 (cond (ends_in_enq bs) (w.enqs + 1) w.enqs);
  theirs = cond (alone EOT bs) true (cond (closes bs) false w.theirs);
  took = cond (alone EOT bs) 0 (line.took_after w.theirs w.took k);
  came = cond (alone EOT bs) [] (line.bytes_after w.theirs w.came k);
  silent = cond (alone EOT bs) 0 (line.silent_after w.theirs w.silent k);
}

-- "a refused call is no tick and no byte in any rule or limit"
abbrev pub sees_by : Outcome → Watch → line.Call → List ℕ → Bool → Bool → Watch
sees_by outcome.Done w k bs sending other = sees w k bs sending other
sees_by (outcome.Taken p) w k bs sending other = sees w k bs sending other
sees_by (outcome.Refused r) w k bs sending other = w

-- another message is being sent behind a call of unit u than before it
abbrev pub other_sent : Link → Left → Bool
other_sent u l = not (same_message (message_of u) (message_of l.answer.link))

abbrev pub watches : Watch → Link → Call → Left → Watch
watches w u k l = sees_by l.answer.outcome w (kind k) (bytes_left l) (sending_of l.answer.link) (other_sent u l)

-- what the onlooker has seen behind one call more of a track
abbrev pub watched_on : Watch → Track → Made → Watch
watched_on w t m = watches w t.link m.call (answered t m)

-- along the calls that a track makes
unfoldable pub watched : Watch → Track → List Made → Watch
watched w t [] = w
watched w t (m ∷ ms) = watched (watched_on w t m) (next t m) ms

-- what the onlooker of the line inside sees, without what is owed
abbrev pub watch_of : Seen → Watch
watch_of s = record {
  ours = s.ours;
  waited = s.waited;
  enqs = s.enqs;
  theirs = s.theirs;
  took = s.took;
  came = s.bytes;
  silent = s.silent;
}

-- ---- what is proved of it

-- what any calls leave, and what the onlooker at the door has seen of them
pub record AtDoor (t : Track) (w : Watch) : Type 0 where
  pub reached : Reached t
  pub saw : watched nothing_watched (at_start reached.settings reached.setup.last reached.room) reached.calls ≡ w

-- a statement on all that can be reached, and one on what is seen of it at the limits of the start
abbrev pub Always : (Track → Watch → Type 0) → Type 0
Always P = (t : Track) (w : Watch) → AtDoor t w → P t w

abbrev pub AlwaysSees : (Limits → Watch → Type 0) → Type 0
AlwaysSees P = (t : Track) (w : Watch) (a : AtDoor t w) → P a.reached.settings.limits w

-- what leaves is what the line puts out by the calls that a call of the unit makes on it: first its step's, then, as it settles, the
-- ENQ of a held block or of a message's next one; or the whole block. Every rule of line/specs/Rules.antt is so a rule of the door.
abbrev pub LeavesByLine : Type 0
LeavesByLine =
    (u : Link) (room o : List ℕ) (k : Call)
    → bytes_left (called u room o k) ≡ line_bytes u.settings.limits u.line u.received (block_bytes u room) (line_calls u room o k)

-- it sees what the onlooker of the line inside sees, who is told each step of the line
abbrev pub DoorRight : Type 0
DoorRight = Always (λ t w. w ≡ watch_of t.seen)

-- demand 3: "A block send is over, or on the host side gives way to the tool, by the time (RTY + 1) x (2 x T2 + 1) ticks were spent
-- waiting for EOT or ACK since its first ENQ; giving way starts that count anew."
pub record SendWithin (c : Limits) (w : Watch) : Type 0 where
  pub at_most : w.waited ≤ send_limit c
  pub over_by_then : w.waited ≡ send_limit c → w.ours ≡ none
  -- the first try, and RTY retries
  pub no_more_enqs : on_way w.ours ≡ true → w.enqs ≤ c.rty + 1

abbrev pub SendEnds : Type 0
SendEnds = AlwaysSees SendWithin

-- "tries equal the ENQs put out for it since its count started, less one": those that left
abbrev pub TriesAreEnqs : Type 0
TriesAreEnqs = Always (λ t w. Counts t.link.line.phase w.enqs)

abbrev pub made : Call → Room → List ℕ → Made
made k room o = record { call = k; room = room; out = o }

-- "EOT puts out the whole block": at the first attempt and at each further one. What its bytes are: `WholeBlock` (specs/Inside.antt).
abbrev pub EachEnqItsBlock : Type 0
EachEnqItsBlock =
    Always (λ t w. w.ours ≡ enquired → (fits : EOT < 256) (room : Room) (o : List ℕ) → accepted (answered t (made (byte EOT fits) room o)).answer.outcome ≡ true
    → bytes_left (answered t (made (byte EOT fits) room o)) ≡ block_bytes t.link (lent_room room t.room))

-- the first ENQ of a report that starts in the call which ends a message; none, if nothing is being sent then (02, request 2)
abbrev pub starts_enq : Bool → List ℕ
starts_enq sending = cond sending (ENQ ∷ []) []

-- What ends a send, and nothing else does: ACK while it is waited for, where no block follows; as many ENQs as RTY allows; at the slave, an
-- ENQ while EOT is waited for: EOT leaves, and the message is held. Otherwise none is being sent then, or a report whose ENQ leaves.
pub data Stops (c : Limits) (w : Watch) (k : line.Call) (bs : List ℕ) (sending other : Bool) : Type 0 where
  sent : w.ours ≡ left → line.comes ACK k ≡ true → bs ≡ starts_enq sending → other ≡ true → Stops c w k bs sending other
  failed : w.enqs ≡ c.rty + 1 → bs ≡ starts_enq sending → other ≡ true → Stops c w k bs sending other
  gave_way :
      c.master ≡ false → w.ours ≡ enquired → line.comes ENQ k ≡ true → bs ≡ EOT ∷ [] → sending ≡ true → other ≡ false
      → Stops c w k bs sending other

-- A block's send is over: none is under way, or another message is being sent.
abbrev pub SendEndsBy : Type 0
SendEndsBy =
    (t : Track) (w : Watch) (a : AtDoor t w) (m : Made) → on_way w.ours ≡ true
    → (on_way (watched_on w t m).ours ≡ false) ⊎ (other_sent t.link (answered t m) ≡ true)
    → Stops a.reached.settings.limits w (kind m.call) (bytes_left (answered t m)) (sending_of (next t m).link) (other_sent t.link (answered t m))

-- What a report's block has waited is counted from its own first ENQ, which leaves in the call that ends the message before it.
abbrev pub OtherStartsAnew : Type 0
OtherStartsAnew =
    (t : Track) (w : Watch) → AtDoor t w → (m : Made) → on_way w.ours ≡ true → other_sent t.link (answered t m) ≡ true
    → sending_of (next t m).link ≡ true → ((watched_on w t m).waited ≡ 0) × ((watched_on w t m).enqs ≡ 1)

-- "A held block .. : its ENQ leaves in the call that made the line idle": a message with no block under way waits for the end of a receive
abbrev pub NoneForgotten : Type 0
NoneForgotten = Always (λ t w. sending_of t.link ≡ true → w.ours ≡ none → w.theirs ≡ true)

-- "A receive in which b bytes came ends by tick T2 + b x T1 + 1."
pub record ReceiveWithin (c : Limits) (w : Watch) : Type 0 where
  pub at_most : w.took ≤ receive_limit c (length w.came)
  pub over_by_then : w.took ≡ receive_limit c (length w.came) → w.theirs ≡ false
  -- the far end was silent no longer than it may be
  pub not_late : w.theirs ≡ true → w.silent ≤ patience c w.came

abbrev pub ReceiveEnds : Type 0
ReceiveEnds = AlwaysSees ReceiveWithin

-- ACK or NAK, and behind it the ENQ of a held block
abbrev pub followed : ℕ → Bool → List ℕ
followed x sending = x ∷ cond sending (ENQ ∷ []) []

-- ACK leaves on a byte, NAK on the tick that exceeds the limit: no sooner
abbrev pub OverBy : Limits → line.Call → List ℕ → Bool → Watch → Type 0
OverBy c (line.byte b fits) bs sending after = bs ≡ followed ACK sending
OverBy c line.tick bs sending after = (bs ≡ followed NAK sending) × (after.silent ≡ patience c after.came + 1)
OverBy c line.drained bs sending after = ⊥
OverBy c line.ask bs sending after = ⊥
OverBy c line.settle bs sending after = ⊥
OverBy c line.withdraw bs sending after = ⊥

abbrev pub ReceiveEndsBy : Type 0
ReceiveEndsBy =
    (t : Track) (w : Watch) (a : AtDoor t w) (m : Made) → closes (bytes_left (answered t m)) ≡ true
    → OverBy a.reached.settings.limits (kind m.call) (bytes_left (answered t m)) (sending_of (next t m).link) (watched_on w t m)

-- with a block held, 0605 or 1505: "its ENQ leaves in the call that made the line idle, after the ACK or NAK"
abbrev pub HeldFollows : Type 0
HeldFollows =
    (t : Track) (w : Watch) → AtDoor t w → (m : Made) → closes (bytes_left (answered t m)) ≡ true → sending_of (next t m).link ≡ true
    → (bytes_left (answered t m) ≡ ACK ∷ ENQ ∷ []) ⊎ (bytes_left (answered t m) ≡ NAK ∷ ENQ ∷ [])

-- ---- ticks

-- "A timer starts at 0, each later tick adds 1": each timer that runs inside stands at the ticks that are counted outside, one more for each
-- tick that is not refused, and for no other call. How these counts move: `sees` above and `tried` below, by the calls and by the bytes that
-- leave; `OwnSeen`, `IncomingSeen` (specs/Moves.antt).

-- T2, where EOT or ACK is waited for: since our last ENQ, or since the block has left the wire; "Ticks while draining count for no line
-- timer."
abbrev pub wait_begins : Ours → ℕ → ℕ
wait_begins none n = n
wait_begins enquired n = n
wait_begins leaving n = 0
wait_begins left n = n

abbrev pub tried_after : Ours → ℕ → line.Call → List ℕ → ℕ
tried_after o n k bs = cond (ends_in_enq bs) 0 (line.on_drained k (wait_begins o n) (line.waits o n k))

abbrev pub tried_by : Outcome → Ours → ℕ → line.Call → List ℕ → ℕ
tried_by outcome.Done o n k bs = tried_after o n k bs
tried_by (outcome.Taken p) o n k bs = tried_after o n k bs
tried_by (outcome.Refused r) o n k bs = n

unfoldable pub tried : ℕ → Watch → Track → List Made → ℕ
tried n w t [] = n
tried n w t (m ∷ ms) =
    tried (tried_by (answered t m).answer.outcome w.ours n (kind m.call) (bytes_left (answered t m))) (watched_on w t m) (next t m) ms

abbrev pub SendTimer : Phase → ℕ → Type 0
SendTimer Idle n = Unit {0}
SendTimer (WaitEot timer tries) n = timer ≡ n
SendTimer (Draining tries) n = Unit {0}
SendTimer (WaitAck timer tries) n = timer ≡ n
SendTimer (WaitLength timer) n = Unit {0}
SendTimer (Body timer a) n = Unit {0}
SendTimer (Silence timer fault) n = Unit {0}

-- T2 or T1, where a block is received: since our EOT, or since the last byte
abbrev pub ReceiveTimer : Phase → ℕ → Type 0
ReceiveTimer Idle silent = Unit {0}
ReceiveTimer (WaitEot timer tries) silent = Unit {0}
ReceiveTimer (Draining tries) silent = Unit {0}
ReceiveTimer (WaitAck timer tries) silent = Unit {0}
ReceiveTimer (WaitLength timer) silent = timer ≡ silent
ReceiveTimer (Body timer a) silent = timer ≡ silent
ReceiveTimer (Silence timer fault) silent = timer ≡ silent

-- T3 since the ACK of the request's last block; T4 since the last block kept
abbrev pub OwnTimer : OwnStage → own.Seen → Type 0
OwnTimer stage.Free s = Unit {0}
OwnTimer stage.Sending s = Unit {0}
OwnTimer stage.PutOut s = Unit {0}
OwnTimer (stage.Awaiting timer) s = timer ≡ s.since
OwnTimer (stage.Replying a) s = a.timer ≡ s.quiet
OwnTimer (stage.Done v r) s = Unit {0}

abbrev pub IncomingTimer : IncomingStage → incoming.Seen → Type 0
IncomingTimer arrival.Free s = Unit {0}
IncomingTimer (arrival.Open a) s = a.timer ≡ s.quiet
IncomingTimer (arrival.Complete n) s = Unit {0}
IncomingTimer (arrival.Replying n) s = Unit {0}
IncomingTimer (arrival.Replied n e) s = Unit {0}

-- n is what `tried` comes to
pub record TimersStand (t : Track) (w : Watch) (n : ℕ) : Type 0 where
  pub sends : SendTimer t.link.line.phase n
  pub receives : ReceiveTimer t.link.line.phase w.silent
  pub own : (p : ℕ) → p < 4 → OwnTimer (own_place t.link.exchange p).stage (t.own p)
  pub incoming : (p : ℕ) → p < 4 → IncomingTimer (incoming_place t.link.exchange p).stage (t.incoming p)

abbrev pub TicksCounted : Type 0
TicksCounted =
    (t : Track) (w : Watch) (a : AtDoor t w)
    → TimersStand t w (tried 0 nothing_watched (at_start a.reached.settings a.reached.setup.last a.reached.room) a.reached.calls)
