-- What each call gets at the door (01, "The line"): which bytes leave in it, by what the onlooker there has seen before it (`Watch`,
-- specs/Door.antt), over any calls from a start, refused ones among them. With `SendsAccepted` and `AckGoesOn` (specs/Sends.antt), which have
-- EOT and ACK, every bullet of 01 is so said of the bytes on the line, and not of the line inside alone. Each proof is in `proofs/hearing/`.
use Rattle.std.specs.Prelude.{ℕ, ◌+◌, ◌≤◌, ◌<◌, ◌≡◌, Bool, true, false, List, [], ◌∷◌, ◌++◌, ◌↔◌, ◌≢◌}
use Rattle.settings.specs.declared.limits.Limits.{Limits}
use Rattle.line.specs.Codes.{ENQ, EOT, ACK, NAK}
use Rattle.line.specs.History as line
use Rattle.line.specs.History.{Ours, none, enquired, leaving, left}
use Rattle.line.specs.Theorems.{patience, IsBlock, NakFor}
use Rattle.line.specs.declared.step.Remark.{Remark}
use Rattle.exchange.specs.Request.{Request, lends}
use Rattle.exchange.specs.History as exchange
use Rattle.link.specs.Answer.{accepted, note_number, note_by}
use Rattle.link.specs.Reading.{sending_of}
use Rattle.link.specs.History.{Call, byte, tick, drained, request, came_to, line_calls, Made, Track, answered, next, at_start}
use Rattle.link.specs.Door.{bytes_left, tried, Watch, nothing_watched, AtDoor, starts_enq, followed}
use Rattle.link.specs.Verdicts.{Accepted, Tells}
use Rattle.link.specs.declared.Note.{Note}
use Rattle.link.specs.declared.Link.{Link}

-- ---- what the line hears of a call

-- the courier's calls, and settling
abbrev pub of_courier : line.Call → Bool
of_courier (line.byte b fits) = false
of_courier line.tick = false
of_courier line.drained = false
of_courier line.ask = true
of_courier line.withdraw = true
of_courier line.settle = true

-- none but these
pub data Behind : List line.Call → Type 0 where
  no_more : Behind []
  one_more : (k : line.Call) {ks : List line.Call} → of_courier k ≡ true → Behind ks → Behind (k ∷ ks)

-- "Calls: one byte in, one tick, drained": the call itself, once and first, with that byte; a request is none of these
pub data Hears : Call → List line.Call → Type 0 where
  hears_byte : (b : ℕ) (fits : b < 256) {ks : List line.Call} → Behind ks → Hears (byte b fits) (line.byte b fits ∷ ks)
  hears_tick : {ks : List line.Call} → Behind ks → Hears tick (line.tick ∷ ks)
  hears_drained : {ks : List line.Call} → Behind ks → Hears drained (line.drained ∷ ks)
  hears_no_more : (r : Request) {ks : List line.Call} → Behind ks → Hears (request r) ks

pub record HeardBy (k : Call) (taken : Bool) (ks : List line.Call) : Type 0 where
  pub accepted : taken ≡ true → Hears k ks
  -- "a refused call is no tick and no byte in any rule or limit"
  pub refused : taken ≡ false → ks ≡ []

-- The calls on the line inside, by which the unit goes (`LineGoes`, specs/Inside.antt; `LeavesByLine`, specs/Door.antt), are these: of every
-- unit, reached or not. So each rule of line/specs/Rules.antt is one of the unit.
abbrev pub LineHears : Type 0
LineHears = (u : Link) (room o : List ℕ) (k : Call) → HeardBy k (accepted (came_to u room o k)) (line_calls u room o k)

-- ---- what a byte gets: bs are the bytes that leave, `sending` is whether a message is being sent or held then

-- "Idle: ENQ gives EOT and a wait for the length. Other bytes are dropped."
pub record Idling (b : ℕ) (bs : List ℕ) : Type 0 where
  pub enq : b ≡ ENQ → bs ≡ EOT ∷ []
  pub other : b ≢ ENQ → bs ≡ []

-- "Waiting for EOT": what EOT puts out is `SendsAccepted` (specs/Sends.antt)
pub record AwaitingEot (c : Limits) (b : ℕ) (bs : List ℕ) (sending : Bool) : Type 0 where
  -- "ENQ at the slave gives EOT and holds the block; the master drops it."
  pub slave : c.master ≡ false → b ≡ ENQ → (bs ≡ EOT ∷ []) × (sending ≡ true)
  pub master : c.master ≡ true → b ≡ ENQ → bs ≡ []
  -- "Other bytes are dropped"
  pub other : b ≢ EOT → b ≢ ENQ → bs ≡ []

-- "Waiting for ACK": what ACK puts out is `AckGoesOn` (specs/Sends.antt). "Any other byte, or T2 exceeded: retry. Retry: tries + 1. Above
-- RTY the send has failed and the line is idle; else ENQ again.": so many ENQs left for this block
pub record AwaitingAck (c : Limits) (enqs b : ℕ) (bs : List ℕ) (sending : Bool) : Type 0 where
  pub again : b ≢ ACK → enqs ≤ c.rty → bs ≡ ENQ ∷ []
  -- the first ENQ of a report leaves, if one waited (02, request 2)
  pub failed : b ≢ ACK → c.rty < enqs → bs ≡ starts_enq sending

-- From our EOT on, with the bytes that came since: "Equal sums: ACK, and the block goes up. Else listen for silence." No other byte is
-- answered. Behind the ACK leaves the ENQ of a block that is held.
pub record Receiving (came : List ℕ) (b : ℕ) (bs : List ℕ) (sending : Bool) : Type 0 where
  pub whole : (n : ℕ) (body : List ℕ) → IsBlock n body (came ++ (b ∷ [])) → bs ≡ followed ACK sending
  pub other : ((n : ℕ) (body : List ℕ) → IsBlock n body (came ++ (b ∷ [])) → ⊥) → bs ≡ []

abbrev pub ByteGets : Limits → Ours → Bool → ℕ → List ℕ → ℕ → List ℕ → Bool → Type 0
ByteGets c none false enqs came b bs sending = Idling b bs
ByteGets c none true enqs came b bs sending = Receiving came b bs sending
ByteGets c enquired theirs enqs came b bs sending = AwaitingEot c b bs sending
-- "Draining: bytes are dropped"
ByteGets c leaving theirs enqs came b bs sending = bs ≡ []
ByteGets c left theirs enqs came b bs sending = AwaitingAck c enqs b bs sending

-- ---- what a tick gets: since ticks ago the wait began

-- "Beyond T2: retry.", and of ACK "or T2 exceeded: retry.": on the tick that exceeds it, no sooner and no later
pub record Waiting (c : Limits) (enqs since : ℕ) (bs : List ℕ) (sending : Bool) : Type 0 where
  pub in_time : since + 1 ≤ c.t2.0 → (bs ≡ []) × (sending ≡ true)
  pub again : c.t2.0 < since + 1 → enqs ≤ c.rty → bs ≡ ENQ ∷ []
  pub failed : c.t2.0 < since + 1 → c.rty < enqs → bs ≡ starts_enq sending

-- From our EOT on: before the length "Beyond T2: NAK.", behind it "Beyond T1: NAK." (`patience`, line/specs/Theorems.antt), so many ticks
-- since the last byte, and the ENQ of a held block behind it
pub record Listening (c : Limits) (came : List ℕ) (silent : ℕ) (bs : List ℕ) (sending : Bool) : Type 0 where
  pub in_time : silent + 1 ≤ patience c came → bs ≡ []
  pub beyond : patience c came < silent + 1 → bs ≡ followed NAK sending

abbrev pub TickGets : Limits → Ours → Bool → ℕ → ℕ → List ℕ → ℕ → List ℕ → Bool → Type 0
-- the first ENQ of a report that a verdict 6 causes (02, request 2)
TickGets c none false enqs since came silent bs sending = bs ≡ starts_enq sending
TickGets c none true enqs since came silent bs sending = Listening c came silent bs sending
TickGets c enquired theirs enqs since came silent bs sending = Waiting c enqs since bs sending
-- "Ticks while draining count for no line timer."
TickGets c leaving theirs enqs since came silent bs sending = bs ≡ []
TickGets c left theirs enqs since came silent bs sending = Waiting c enqs since bs sending

-- The onlooker counts them from our last ENQ, and from drained: "drained starts the wait for ACK" (`tried`, specs/Door.antt).
abbrev pub since_seen : (t : Track) (w : Watch) → AtDoor t w → ℕ
since_seen t w a = let r = a.reached in tried 0 nothing_watched (at_start r.settings r.setup.last r.room) r.calls

-- ---- what a request gets that was accepted

-- A message: "A held block (.. asked for while the line was receiving)" waits, else its ENQ leaves at once. A release gets nothing.
abbrev pub MessageGets : Bool → Bool → List ℕ → Type 0
MessageGets false theirs bs = bs ≡ []
MessageGets true false bs = bs ≡ ENQ ∷ []
MessageGets true true bs = bs ≡ []

-- ---- any accepted call

abbrev pub Gets : Limits → Watch → ℕ → Call → List ℕ → Bool → Type 0
Gets c w since (byte b fits) bs sending = ByteGets c w.ours w.theirs w.enqs w.came b bs sending
Gets c w since tick bs sending = TickGets c w.ours w.theirs w.enqs since w.came w.silent bs sending
Gets c w since drained bs sending = bs ≡ []
Gets c w since (request r) bs sending = MessageGets (lends r) w.theirs bs

abbrev pub EachCallGets : Type 0
EachCallGets =
    (t : Track) (w : Watch) (a : AtDoor t w) (m : Made) → Accepted t m
    → Gets a.reached.settings.limits w (since_seen t w a) m.call (bytes_left (answered t m)) (sending_of (next t m).link)

-- ---- a send that fails

-- what asks for a retry: "Any other byte, or T2 exceeded", and of EOT "Beyond T2"
pub data Retries (c : Limits) (w : Watch) (since : ℕ) : Call → Type 0 where
  other_byte : (b : ℕ) (fits : b < 256) → w.ours ≡ left → b ≢ ACK → Retries c w since (byte b fits)
  t2_exceeded : line.is_waiting w.ours ≡ true → c.t2.0 < since + 1 → Retries c w since tick

-- "Above RTY the send has failed": as many ENQs left for this block as may
pub record Fails (c : Limits) (w : Watch) (since : ℕ) (t : Track) (m : Made) : Type 0 where
  pub accepted : Accepted t m
  pub retry : Retries c w since m.call
  pub above : c.rty < w.enqs

-- The transactions are told of a failed send exactly then: so "7 send failed", and a reply of ours that ends failed, are said of bytes and
-- ticks at the door, as `LastAcknowledged` (specs/Sends.antt) says it of one that was sent.
abbrev pub FailedExactly : Type 0
FailedExactly =
    (t : Track) (w : Watch) (a : AtDoor t w) (m : Made) → Tells t m exchange.failed ↔ Fails a.reached.settings.limits w (since_seen t w a) t m

-- ---- why a NAK left

-- By the bytes since our EOT (`NakFor`, line/specs/Theorems.antt): "with a NAK 28 no length in T2, 29 gap in body, 30 bad length, 31 bad sum".
pub record NakNotes (came bs : List ℕ) (sending : Bool) (n : Note) : Type 0 where
  pub why : bs ≡ followed NAK sending → (r : Remark) × NakFor came r × (n ≡ note_by r)
  -- with nothing else
  pub else_none : (bs ≡ followed NAK sending → ⊥) → note_number n ≤ 27

abbrev pub NakNoted : Type 0
NakNoted =
    (t : Track) (w : Watch) (a : AtDoor t w) (m : Made) → Accepted t m
    → NakNotes w.came (bytes_left (answered t m)) (sending_of (next t m).link) (answered t m).answer.note
