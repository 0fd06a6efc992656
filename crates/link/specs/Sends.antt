-- What leaves is what was accepted (demand 2, "What the unit sends"; 01, "Cutting", "The line"). An onlooker at the door keeps the message
-- that was accepted last, as it was asked for, or the report that started since (02, request 2), and counts the ACKs heard for its blocks:
-- by these it tells what leaves whenever EOT answers an ENQ of ours, and when the message has been sent. Over any calls from a start,
-- refused ones among them. The ten bytes that a report shows are taken from the state: which they are is `ReportsKept`, and as they leave
-- `ReportBytes` (specs/Reporting.antt). Each proof is in `proofs/`.
use Rattle.std.specs.Prelude.{ℕ, ◌+◌, ◌-◌, ◌*◌, ◌≤◌, ◌<◌, ◌≡◌, Bool, true, false, cond, List, [], ◌∷◌, ◌↔◌, ◌≢◌, eqb, length, take, drop, Option}
use Rattle.header.specs.Header.{InRange, numbered_of}
use Rattle.settings.specs.declared.terms.Terms.{Terms}
use Rattle.cut.specs.Blocks.{block_count}
use Rattle.block.specs.Block.{block_of}
use Rattle.line.specs.Codes.{ENQ, EOT, ACK}
use Rattle.line.specs.History.{Ours, none, enquired, leaving, left}
use Rattle.place.specs.OwnHistory as own
use Rattle.exchange.specs.Request.{Request, primary, reply, freeing_own, freeing_incoming}
use Rattle.exchange.specs.Reports.{same_message}
use Rattle.exchange.specs.Posting.{Post, nothing_posted, post_taken, post_reported}
use Rattle.exchange.specs.declared.Sending.{Sending}
use Rattle.exchange.specs.declared.Sending.TheVariants as sending
use Rattle.exchange.specs.Underway.{OnItsWay}
use Rattle.exchange.specs.History as exchange
use Rattle.exchange.specs.declared.OwnReading.{OwnReading}
use Rattle.exchange.specs.declared.IncomingReading.{IncomingReading}
use Rattle.exchange.specs.declared.ReplyStage.TheVariants as stage
use Rattle.link.specs.Run.{has_next}
use Rattle.link.specs.Reading.{own_of, incoming_of, sending_of, message_of}
use Rattle.link.specs.History.{Call, byte, tick, drained, request, kept, Made, Track, terms_in, answered, next, at_start}
use Rattle.link.specs.Inside.{Reached, Back}
use Rattle.link.specs.Door.{bytes_left, Watch, AtDoor, made, starts_enq}
use Rattle.link.specs.Verdicts.{Accepted, Tells, reply_stands}
use Rattle.link.specs.Moves.{FirstOut, Acknowledges, ReplySent}
use Rattle.link.specs.Device.{comes}
use Rattle.link.specs.declared.Outcome.{Outcome}
use Rattle.link.specs.declared.Outcome.TheVariants as outcome

-- ---- the onlooker

pub record Sender : Type 0 where
  -- the message that was accepted, or the report that started, last: its header and its data
  pub message : Post
  -- which of its blocks is due: 1 + the ACKs heard for its blocks since
  pub block : ℕ

abbrev pub nothing_sent : Sender
nothing_sent = record { message = nothing_posted; block = 1 }

-- a request that was accepted: a primary as it was asked for, with the number that its place shows; a reply to the message that its place
-- showed (`post_taken`, exchange/specs/Posting.antt). A refused one changes nothing.
abbrev pub post_by : Terms → (ℕ → Option IncomingReading) → (ℕ → Option OwnReading) → Request → Outcome → Post → Post
post_by c before after r outcome.Done s = s
post_by c before after r (outcome.Taken p) s = post_taken c before after r p s
post_by c before after r (outcome.Refused n) s = s

abbrev pub message_after : Terms → (ℕ → Option IncomingReading) → (ℕ → Option OwnReading) → Call → Outcome → Post → Post
message_after c before after (byte b fits) o s = s
message_after c before after tick o s = s
message_after c before after drained o s = s
message_after c before after (request r) o s = post_by c before after r o s

-- "ACK means sent": ACK came while it was waited for. No other byte, no tick and no giving way gets a message to its next block.
abbrev pub acks : Ours → Call → Bool
acks none k = false
acks enquired k = false
acks leaving k = false
acks left k = comes ACK k

-- "numbers start at 1"; a release has no part in it
abbrev pub starts_by : Request → ℕ → ℕ
starts_by (primary q d) k = 1
starts_by (reply p f d) k = 1
starts_by (freeing_own p) k = k
starts_by (freeing_incoming p) k = k

abbrev pub starts_in : Call → ℕ → ℕ
starts_in (byte b fits) k = k
starts_in tick k = k
starts_in drained k = k
starts_in (request r) k = starts_by r k

-- "a refused call is no tick and no byte in any rule or limit"
abbrev pub block_after : Ours → Call → Outcome → ℕ → ℕ
block_after ours c outcome.Done k = cond (acks ours c) (k + 1) k
block_after ours c (outcome.Taken p) k = starts_in c k
block_after ours c (outcome.Refused n) k = k

-- a report started in the call, if what is being sent behind it is one, and the same was not before: it is due from its first block
abbrev pub block_started : Bool → Sending → ℕ → ℕ
block_started same sending.Nothing k = k
block_started same (sending.Primary p n) k = k
block_started same (sending.Reply p f n) k = k
block_started true (sending.Report f n) k = k
block_started false (sending.Report f n) k = 1

-- one call; what is waited for is seen at the door (`DoorRight`), and which message is being sent is read there
abbrev pub sender_sees : Track → Sender → Made → Sender
sender_sees t s m = record {
  message =
      post_reported (terms_in t) t.link.exchange (next t m).link.exchange
      (message_after (terms_in t) (incoming_of t.link) (own_of (next t m).link) m.call (answered t m).answer.outcome s.message);
  block =
      block_started (same_message (message_of t.link) (message_of (next t m).link)) (message_of (next t m).link)
      (block_after t.seen.ours m.call (answered t m).answer.outcome s.block);
}

-- any calls
unfoldable pub sender_watch : Track → Sender → List Made → Sender
sender_watch t s [] = s
sender_watch t s (m ∷ ms) = sender_watch (next t m) (sender_sees t s m) ms

-- those from the start
abbrev pub sender_seen : (t : Track) → Reached t → Sender
sender_seen t w = sender_watch (at_start w.settings w.setup.last w.room) nothing_sent w.calls

-- how many blocks its message makes
abbrev pub blocks_of : Sender → ℕ
blocks_of s = block_count (length s.message.text)

-- ---- which block

-- The block that is current is the one that is due, and one of the message's; 1 where none is being sent.
pub record Current (t : Track) (s : Sender) : Type 0 where
  pub due : sending_of t.link ≡ true → t.link.block ≡ s.block
  pub first : sending_of t.link ≡ true → 1 ≤ s.block
  pub within : sending_of t.link ≡ true → s.block ≤ blocks_of s
  pub idle : sending_of t.link ≡ false → t.link.block ≡ 1

abbrev pub BlockMoves : Type 0
BlockMoves = (t : Track) (w : Reached t) → Current t (sender_seen t w)

-- A block follows the current one exactly if a message is being sent and fewer of its blocks are due than it has.
abbrev pub NextExactly : Type 0
NextExactly =
    (t : Track) (w : Reached t) → (has_next t.link ≡ true) ↔ ((sending_of t.link ≡ true) × ((sender_seen t w).block < blocks_of (sender_seen t w)))

-- ---- when its last block is out

-- EOT answered the ENQ of its last block
pub record LastOut (t : Track) (s : Sender) (m : Made) : Type 0 where
  pub accepted : Accepted t m
  pub came : comes EOT m.call ≡ true
  pub awaited : t.seen.ours ≡ enquired
  pub last : s.block ≡ blocks_of s

-- The transactions are told so exactly then; and a request awaits its reply "from the call that first puts out the bytes of its last block"
-- (02, request 1): it is out exactly by that, if W = 1 and it was not out before.
pub record OutAtLast (t : Track) (s : Sender) (m : Made) : Type 0 where
  pub told : Tells t m exchange.put_out ↔ LastOut t s m
  pub primary : (p : ℕ) → p < 4 → FirstOut t m p ↔ (LastOut t s m × ((t.own p).request ≡ own.underway) × ((t.own p).header.w ≡ true))

abbrev pub LastPutOut : Type 0
LastPutOut = (t : Track) (w : Reached t) (m : Made) → OutAtLast t (sender_seen t w) m

-- ---- when it has been sent

-- the ACK of its last block: one that was waited for, while the last of its blocks is due
pub record LastAck (t : Track) (s : Sender) (m : Made) : Type 0 where
  pub accepted : Accepted t m
  pub came : comes ACK m.call ≡ true
  pub awaited : t.seen.ours ≡ left
  pub last : s.block ≡ blocks_of s

-- The transactions are told so exactly then; by it the primary of own place p is acknowledged exactly while its request is underway or out,
-- and our reply of incoming place p is sent exactly while it is on its way.
pub record SentAtLast (t : Track) (s : Sender) (m : Made) : Type 0 where
  pub told : Tells t m exchange.acknowledged ↔ LastAck t s m
  pub primary : (p : ℕ) → p < 4 → Acknowledges t m p ↔ (LastAck t s m × OnItsWay (t.own p).request)
  pub reply : (p : ℕ) → p < 4 → ReplySent t m p ↔ (LastAck t s m × (reply_stands t p ≡ stage.OnItsWay))

abbrev pub LastAcknowledged : Type 0
LastAcknowledged = (t : Track) (w : Reached t) (m : Made) → SentAtLast t (sender_seen t w) m

-- "ACK means sent; the message's next block goes out with ENQ in the same call": with as many ACKs as blocks the message has been sent, and
-- nothing leaves but the first ENQ of a report that waited (02, request 2); before that its next block's ENQ does, and the same message is
-- still being sent: no report starts between blocks.
pub record AckHeard (t : Track) (s : Sender) (m : Made) : Type 0 where
  pub more : s.block < blocks_of s → (bytes_left (answered t m) ≡ ENQ ∷ []) × (message_of (next t m).link ≡ message_of t.link)
  pub last : s.block ≡ blocks_of s → (bytes_left (answered t m) ≡ starts_enq (sending_of (next t m).link)) × (message_of (next t m).link ≢ message_of t.link)

abbrev pub AckGoesOn : Type 0
AckGoesOn =
    (t : Track) (w : Watch) (a : AtDoor t w) (m : Made) → Accepted t m → comes ACK m.call ≡ true → w.ours ≡ left
    → AckHeard t (sender_seen t a.reached) m

-- ---- what leaves

-- Block k of a message by E4's cutting, as it is on the line: "each block but the last carries 244 data bytes; numbers start at 1; only the
-- last has E = 1; all else in the header is the same in each". "A block on the line: length N (10 to 254), N bytes, then the 16-bit sum of
-- those N bytes" is `block_of` (`BlockLaidOut`, block/specs/Theorems.antt).
abbrev pub block_sent : Post → ℕ → List ℕ
block_sent s k = block_of (numbered_of s.header k (eqb k (block_count (length s.text)))) (take 244 (drop ((k - 1) * 244) s.text))

-- Whenever EOT answers an ENQ of ours, the block that is due leaves, byte for byte: at the first attempt and at each further one, behind any
-- number of messages before it, ticks and refused calls, for whatever place it was accepted. "What is said of message bytes holds while the
-- room comes back as the last call left it." (The number that the start is told of, and the numbers of the header, have no more than
-- their bits, which the caller's types see to.)
abbrev pub SendsAccepted : Type 0
SendsAccepted =
    (t : Track) (w : Watch) (a : AtDoor t w) → Back a.reached.calls → a.reached.setup.last ≤ 65535 → w.ours ≡ enquired
    → (let s = sender_seen t a.reached in
    InRange s.message.header → (fits : EOT < 256) (o : List ℕ) → Accepted t (made (byte EOT fits) kept o)
    → bytes_left (answered t (made (byte EOT fits) kept o)) ≡ block_sent s.message s.block)
