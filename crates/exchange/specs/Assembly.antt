-- Assembly of a cut message is the message: what comes of the blocks that are cut from one message, judged in order, with ticks between
-- them, by any transactions that can take it, whatever else is in their places (01, "Block and header": "each block but the last carries 244
-- data bytes; numbers start at 1; only the last has E = 1; all else in the header is the same in each"; "Messages": "After 2, 3 or 4, or
-- once an incoming message is complete, its area begins with the data of the kept blocks joined"). Each proof is in `proofs/`.
use Rattle.std.specs.Prelude.{ℕ, zero, suc, ◌+◌, ◌-◌, ◌%◌, ◌≤◌, ◌<◌, ◌≡◌, Bool, true, false, List, [], ◌∷◌, ◌++◌, ◌≢◌, length, replicate, Some}
use Rattle.wire.specs.Message.{message_limit}
use Rattle.header.specs.Header.{InRange, header_bytes}
use Rattle.header.specs.Theorems.{SameElse}
use Rattle.header.specs.declared.header.Header.{Header}
use Rattle.settings.specs.declared.terms.Terms.{Terms}
use Rattle.cut.specs.Blocks.{block_count, header_at, cut_of}
use Rattle.cut.specs.Theorems.{part_in}
use Rattle.room.specs.Room.{front}
use Rattle.room.specs.declared.Message.TheVariants as message
use Rattle.place.specs.Message.{Routed}
use Rattle.place.specs.Own.{primary_of, reply_of}
use Rattle.place.specs.OwnTheorems.{Answers, Declines}
use Rattle.place.specs.declared.OwnStage.{OwnStage}
use Rattle.place.specs.declared.OwnStage.TheVariants.{Free, Sending, PutOut, Awaiting, Replying, Done}
use Rattle.place.specs.declared.Verdict.{Verdict}
use Rattle.place.specs.declared.Verdict.TheVariants.{Sent, Answered, Declined, Other, Broken, NoReply, SendFailed}
use Rattle.place.specs.declared.Standing.TheVariants.{Given}
use Rattle.exchange.specs.Note.{note_number}
use Rattle.exchange.specs.Flags.{no_flags, verdict_flag, incoming_flags}
use Rattle.exchange.specs.Exchange.{own_place, incoming_place, sent_from}
use Rattle.exchange.specs.Reports.{outbox_of}
use Rattle.exchange.specs.Tick.{tick_of}
use Rattle.exchange.specs.Send.{reply_to}
use Rattle.exchange.specs.Judge.{Judging, judge_of}
use Rattle.exchange.specs.Reading.{wanted, own_reading, incoming_reading}
use Rattle.exchange.specs.Rules.{Fours, Duplicate, AlikeHere, FreeAt, FreeHere}
use Rattle.exchange.specs.History.{Track}
use Rattle.exchange.specs.Theorems.{Reached}
use Rattle.exchange.specs.declared.Flags.{Flags}
use Rattle.exchange.specs.declared.Sending.TheVariants.{Nothing}
use Rattle.exchange.specs.declared.Exchange.{Exchange}

-- ---- the blocks of a message d with header h

-- the ten header bytes of block k
abbrev pub header_in : Header → List ℕ → ℕ → List ℕ
header_in h d k = header_bytes (header_at h (length d) k)

-- its data
abbrev pub data_in : Header → List ℕ → ℕ → List ℕ
data_in h d k = part_in (cut_of h (length d) k) d

-- ---- who judges them

pub record Receiver : Type 0 where
  pub exchange : Exchange
  -- every byte of the lent room
  pub room : List ℕ
  -- what each block was answered with, in order: the number of its note, and flags
  pub notes : List ℕ
  pub flags : List Flags

-- transactions as they stand, with any bytes in the room
abbrev pub receiver_of : Exchange → List ℕ → Receiver
receiver_of x room = record { exchange = x; room = room; notes = []; flags = [] }

-- n ticks pass
unfoldable pub passes : Terms → Exchange → ℕ → Exchange
passes c x zero = x
passes c x (suc n) = (tick_of c (passes c x n)).exchange

-- the receiver n ticks later
abbrev pub rests : Terms → ℕ → Receiver → Receiver
rests c n r = record { exchange = passes c r.exchange n; room = r.room; notes = r.notes; flags = r.flags }

-- one block was judged
abbrev pub heard : Receiver → Judging → Receiver
heard r j = record {
  exchange = j.answer.exchange;
  room = j.room;
  notes = r.notes ++ (note_number j.answer.note ∷ []);
  flags = r.flags ++ (j.answer.flags ∷ []);
}

-- one block comes, header bytes b and data d
abbrev pub receives : Terms → Receiver → List ℕ → List ℕ → Receiver
receives c r b d = heard r (judge_of c r.exchange b d r.room)

-- blocks 1 to k of a message came, one after the other, before block j as many ticks as `pauses j` says
unfoldable pub received : Terms → (ℕ → ℕ) → Receiver → Header → List ℕ → ℕ → Receiver
received c pauses r h d zero = r
received c pauses r h d (suc k) =
    receives c (rests c (pauses (suc k)) (received c pauses r h d k)) (header_in h d (suc k)) (data_in h d (suc k))

-- the ticks before blocks 1 to k
unfoldable pub ticks_before : (ℕ → ℕ) → ℕ → ℕ
ticks_before pauses zero = 0
ticks_before pauses (suc k) = ticks_before pauses k + pauses (suc k)

-- what all ticks before the blocks of message d leave of x, and nothing else
abbrev pub ticks_alone : Terms → (ℕ → ℕ) → List ℕ → Exchange → Exchange
ticks_alone c pauses d x = passes c x (ticks_before pauses (block_count (length d)))

-- "T4 beyond its limit breaks the message": it does not run out before block 2 or a later one
abbrev pub WithinT4 : Terms → (ℕ → ℕ) → List ℕ → Type 0
WithinT4 c pauses d = (j : ℕ) → 2 ≤ j → j ≤ block_count (length d) → pauses j ≤ c.t4.0

-- In n ticks T3 runs out at no own place of these that awaits its reply: so nothing is reported of it (02, request 2: "verdict 6 gives S9F9").
-- A host reports nothing.
pub data NoneLate (c : Terms) (x : Exchange) (n : ℕ) (Of : ℕ → Type 0) : Type 0 where
  host : c.host ≡ true → NoneLate c x n Of
  in_time : ((p : ℕ) → p < 4 → Of p → (timer : ℕ) → (own_place x p).stage ≡ Awaiting timer → timer + n ≤ c.t3.0) → NoneLate c x n Of

-- at none
abbrev pub AnyPlace : ℕ → Type 0
AnyPlace p = Unit {0}

-- the last number given, what is being sent and the reports that wait are as they were
abbrev pub SameOutbox : Exchange → Exchange → Type 0
SameOutbox x y = outbox_of y ≡ outbox_of x

-- ---- a primary

-- Message d with header h finds a place in x, and throws none out.
pub record ReadyFor (c : Terms) (x : Exchange) (h : Header) (d : List ℕ) : Type 0 where
  -- not "all four are in use"
  pub free : FreeHere x
  -- it has not "the system bytes of an open (not yet complete) incoming one"
  pub no_alike : AlikeHere x h → ⊥
  -- its first block is no duplicate of the block before it
  pub new : Duplicate c x (header_in h d 1) → ⊥

-- Message d with header h is complete in one incoming place, and nothing else came of it and of the ticks but what these alone make of x.
pub record Assembled (c : Terms) (pauses : ℕ → ℕ) (x : Exchange) (h : Header) (d : List ℕ) (r : Receiver) : Type 0 where
  pub place : ℕ
  pub within : place < 4
  -- which was free when the first block came
  pub free : FreeAt (passes c x (pauses 1)) place
  -- "Kept: note 21", each of the blocks
  pub notes : r.notes ≡ replicate (block_count (length d)) 21
  -- the last raised the flag that this place completed, and no other; those before it raised none
  pub flags : r.flags ≡ replicate (block_count (length d) - 1) no_flags ++ (incoming_flags place true false ∷ [])
  -- it shows a complete message of as many bytes, to which a reply is owed if W = 1
  pub primary : Header
  pub complete : incoming_reading r.exchange place ≡ Some (record { primary = primary; length = length d; complete = true; reply = wanted h })
  -- its R, device ID, W, stream, function and system bytes are the same
  pub same : SameElse primary h
  -- its area begins with the same bytes
  pub bytes : front r.room (message.Incoming place) (length d) ≡ d
  -- every other place, and what is being sent, is as the ticks alone leave it: as it was, where none of them has anything reported
  pub others : (q : ℕ) → q ≢ place → incoming_place r.exchange q ≡ incoming_place (ticks_alone c pauses d x) q
  pub owns : (q : ℕ) → own_place r.exchange q ≡ own_place (ticks_alone c pauses d x) q
  pub outbox : SameOutbox (ticks_alone c pauses d x) r.exchange
  pub unreported : NoneLate c x (ticks_before pauses (block_count (length d))) AnyPlace → SameOutbox x r.exchange
  -- what is saved is the header of its last block
  pub saved : r.exchange.saved ≡ Some (header_in h d (block_count (length d)))

-- For every primary to this link of 0 to 4,096 bytes, the blocks that are cut from it, judged in order by whatever transactions any
-- calls left, if these can take it, complete it with the same bytes, stream, function, W and system bytes, whether the duplicate check is
-- on or off, and however many ticks pass before each block, as long as T4 does not run out.
abbrev pub AssemblyOfCut : Type 0
AssemblyOfCut =
    (c : Terms) (t : Track) → Reached c t → (pauses : ℕ → ℕ) (room : List ℕ) (h : Header) (d : List ℕ)
    → length room ≡ 36864 → InRange h → Routed c h → h.function % 2 ≡ 1 → length d ≤ message_limit
    → ReadyFor c t.exchange h d → WithinT4 c pauses d
    → Assembled c pauses t.exchange h d (received c pauses (receiver_of t.exchange room) h d (block_count (length d)))

-- ---- a reply

-- A reply is awaited, and still is n ticks later: T3 runs, and does not run out by then; or the last block of its primary is out and not
-- acknowledged, and no timer runs.
pub data AwaitedFor (c : Terms) (n : ℕ) : OwnStage → Type 0 where
  acked : (timer : ℕ) → timer + n ≤ c.t3.0 → AwaitedFor c n (Awaiting timer)
  out : AwaitedFor c n PutOut

-- a reply is awaited, or blocks of it are kept
abbrev pub expects_at : OwnStage → Bool
expects_at Free = false
expects_at Sending = false
expects_at PutOut = true
expects_at (Awaiting timer) = true
expects_at (Replying a) = true
expects_at (Done v r) = false

-- Own place p awaits the reply to a primary with header g, n ticks from now, and reply d with header h is for this place alone.
pub record Awaits (c : Terms) (x : Exchange) (p : ℕ) (g : Header) (n : ℕ) (h : Header) (d : List ℕ) : Type 0 where
  pub within : p < 4
  pub primary : primary_of (own_place x p) ≡ g
  pub stage : AwaitedFor c n (own_place x p).stage
  -- none is awaited, and of none are blocks kept, at another place whose primary has the reply's system bytes
  pub alone : (q : ℕ) → q < 4 → q ≢ p → expects_at (own_place x q).stage ≡ true → (primary_of (own_place x q)).system ≢ h.system
  -- its first block is no duplicate of the block before it
  pub new : Duplicate c x (header_in h d 1) → ⊥

-- Reply d with header h to the primary with header g is complete in own place p, with verdict v, and nothing else came of it and of the
-- ticks but what these alone make of x.
pub record ReplyAssembled (c : Terms) (pauses : ℕ → ℕ) (v : Verdict) (x : Exchange) (p : ℕ) (g h : Header) (d : List ℕ) (r : Receiver) : Type 0 where
  -- "Kept: note 21", each of the blocks
  pub notes : r.notes ≡ replicate (block_count (length d)) 21
  -- the last raised the flag that place p got a verdict, and no other; those before it raised none
  pub flags : r.flags ≡ replicate (block_count (length d) - 1) no_flags ++ (verdict_flag p true ∷ [])
  -- place p shows the primary, the verdict, and W, stream and function of the reply and as many bytes
  pub verdict : own_reading r.exchange p ≡ Some (record { primary = g; standing = Given v; reply = reply_of h (length d) })
  -- its area begins with the same bytes
  pub bytes : front r.room (message.Reply p) (length d) ≡ d
  -- every other place is as the ticks alone leave it; where these have nothing reported of another place, what is being sent is as it was, if
  -- that is not the primary; the primary is sent no more
  pub others : (q : ℕ) → q ≢ p → own_place r.exchange q ≡ own_place (ticks_alone c pauses d x) q
  pub incomings : (q : ℕ) → incoming_place r.exchange q ≡ incoming_place (ticks_alone c pauses d x) q
  pub unreported :
      sent_from x.sending p ≡ false → NoneLate c x (ticks_before pauses (block_count (length d))) (λ q. q ≢ p) → SameOutbox x r.exchange
  pub withdrawn :
      sent_from x.sending p ≡ true → x.reports.count ≡ 0 → NoneLate c x (ticks_before pauses (block_count (length d))) (λ q. q ≢ p)
      → r.exchange.sending ≡ Nothing
  -- what is saved is the header of its last block
  pub saved : r.exchange.saved ≡ Some (header_in h d (block_count (length d)))

-- The header h of a reply to a primary with header g: the same device ID and system bytes (E4 7.3.1, 6.8.2). "in a received one W may
-- be either".
pub record IsReply (g h : Header) : Type 0 where
  pub device : h.device ≡ g.device
  pub system : h.system ≡ g.system

-- "2 answered (complete reply, same stream, function one higher); 3 declined (same stream, function 0); 4 other reply"
abbrev pub Earns : Header → Header → Verdict → Type 0
Earns g h Answered = Answers g h
Earns g h Declined = Declines g h
Earns g h Other = (Answers g h → ⊥) × (Declines g h → ⊥)
Earns g h Sent = ⊥
Earns g h Broken = ⊥
Earns g h NoReply = ⊥
Earns g h SendFailed = ⊥

-- For every awaited reply of 0 to 4,096 bytes, the blocks that are cut from it, judged in order by any transactions, complete it with the
-- same bytes, W, stream and function and give its verdict, whether the primary's last block was acknowledged or is only out, whether the
-- duplicate check is on or off, and however many ticks pass before each block, as long as T3, if it runs, does not run out before the
-- first, nor T4 before a later one.
abbrev pub AssemblyOfReply : Type 0
AssemblyOfReply =
    (c : Terms) (pauses : ℕ → ℕ) (x : Exchange) (room : List ℕ) (p : ℕ) (g h : Header) (d : List ℕ) (v : Verdict)
    → Fours x → length room ≡ 36864 → InRange h → h.function % 2 ≡ 0 → Routed c h → IsReply g h → Earns g h v → length d ≤ message_limit
    → Awaits c x p g (pauses 1) h d → WithinT4 c pauses d
    → ReplyAssembled c pauses v x p g h d (received c pauses (receiver_of x room) h d (block_count (length d)))

-- A reply of ours is such a reply: of the function one higher than its primary's it answers, of function 0 it declines.
pub record RepliesTo (g : Header) : Type 0 where
  pub is_reply : (f : ℕ) → IsReply g (reply_to g f)
  pub answers : Earns g (reply_to g (g.function + 1)) Answered
  pub declines : Earns g (reply_to g 0) Declined

abbrev pub OurReplies : Type 0
OurReplies = (g : Header) → RepliesTo g
