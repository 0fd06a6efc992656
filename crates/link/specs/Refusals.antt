-- The refusals of the unit's calls: the rows 1 to 4 of 01's table in its words, those of the transactions (5 to 11, exchange's
-- `specs/Refusals.antt`) behind them, in 01's order; what a refused call leaves; and what a call writes. Each proof is in `proofs/`.
use Rattle.std.specs.Prelude.{ℕ, ◌*◌, ◌≤◌, ◌<◌, ◌≡◌, Bool, true, false, not, List, ◌↔◌, ◌≢◌, eqb, length, take, drop, None}
use Rattle.wire.specs.Bytes.{part}
use Rattle.cut.specs.Blocks.{most_blocks}
use Rattle.header.specs.Header.{first_ten, header_of}
use Rattle.header.specs.declared.header.Header.{Header}
use Rattle.room.specs.Room.{kept_in}
use Rattle.room.specs.declared.Message.{Message}
use Rattle.room.specs.declared.Message.TheVariants as message
use Rattle.line.specs.Range.{line_in_range, LineFits}
use Rattle.line.specs.Line.{fresh_line, Heard}
use Rattle.line.specs.declared.line.Line.{Line}
use Rattle.line.specs.declared.phase.Phase.TheVariants as phase
use Rattle.line.specs.declared.step.Told.TheVariants as told
use Rattle.place.specs.Range.{own_in_range, incoming_in_range, OwnFits, IncomingFits}
use Rattle.place.specs.declared.Own.{Own}
use Rattle.place.specs.declared.Incoming.{Incoming}
use Rattle.exchange.specs.Exchange.{fresh_exchange, own_place, incoming_place}
use Rattle.exchange.specs.Flags.{no_flags}
use Rattle.reports.specs.Reports.{reports_in_range}
use Rattle.reports.specs.declared.Reports.{Reports}
use Rattle.exchange.specs.Range.{sending_in_range, SendingFits}
use Rattle.exchange.specs.Request.{Request, primary, reply, freeing_own, freeing_incoming, lends as lends_to}
use Rattle.exchange.specs.Releases.{is_release}
use Rattle.exchange.specs.Rules.{Fours, LowestAt, OfReply, OfMessage, ReplyHere, MessageHere, AlikeAt, AlikeHere, FreeAt, bytes_before}
use Rattle.exchange.specs.Refusals.{OwnFree, RequestRuled, FillsBy}
use Rattle.exchange.specs.declared.Sending.{Sending}
use Rattle.exchange.specs.declared.Sending.TheVariants as sending
use Rattle.exchange.specs.declared.Exchange.{Exchange}
use Rattle.exchange.specs.declared.Primary.{Primary}
use Rattle.link.specs.Answer.{outcome_number, note_number}
use Rattle.link.specs.Setup.{no_settings, settings_in_range}
use Rattle.link.specs.State.{fresh_link, refused_as, link_in_range, start_of}
use Rattle.link.specs.Run.{Left, left, block_bytes}
use Rattle.link.specs.Call.{byte_call, tick_call, drained_call, open_call, reply_call, release_own_call, release_incoming_call}
use Rattle.link.specs.History.{Call, byte, tick, drained, request, called, step_in, came_to, line_calls}
use Rattle.link.specs.Door.{line_bytes}
use Rattle.link.specs.Reading.{own_of, incoming_of}
use Rattle.link.specs.declared.Setup.{Setup}
use Rattle.link.specs.declared.Settings.{Settings}
use Rattle.link.specs.declared.Refusal.{Refusal}
use Rattle.link.specs.declared.Refusal.TheVariants as refusal
use Rattle.link.specs.declared.Outcome.{Outcome}
use Rattle.link.specs.declared.Outcome.TheVariants as outcome
use Rattle.link.specs.declared.Answer.{Answer}
use Rattle.link.specs.declared.Link.{Link}

-- ---- "A refusal reports 0 bytes out, note 20, state and memory untouched."

pub record Untouched (u : Link) (room o : List ℕ) (l : Left) : Type 0 where
  -- "0 bytes out"
  pub count : l.answer.count ≡ 0
  -- "note 20"
  pub note : note_number l.answer.note ≡ 20
  -- nor does any place get a verdict, complete or drop out
  pub flags : l.answer.flags ≡ no_flags
  -- "state .. untouched"
  pub state : l.answer.link ≡ u
  -- "memory untouched"
  pub bytes : l.room ≡ room
  pub output : l.out ≡ o

-- All that a refused call leaves, in one equation, and the same by its parts.
pub record RefusedAs (u : Link) (room o : List ℕ) (r : Refusal) (l : Left) : Type 0 where
  pub whole : l ≡ left (refused_as u r) room o
  pub parts : Untouched u room o l

abbrev pub RefusedChangesNothing : Type 0
RefusedChangesNothing =
    (u : Link) (room o : List ℕ) (k : Call) (r : Refusal) → came_to u room o k ≡ outcome.Refused r → RefusedAs u room o r (called u room o k)

-- ---- the ranges of docs/STATE.md, field by field; a field that is not named here has the range of its type

pub record SettingsFit (s : Settings) : Type 0 where
  pub t1_least : 1 ≤ s.limits.t1.0
  pub t1_most : s.limits.t1.0 ≤ 100
  pub t2_least : 2 ≤ s.limits.t2.0
  pub t2_most : s.limits.t2.0 ≤ 250
  pub rty_most : s.limits.rty ≤ 31
  pub t3_least : 10 ≤ s.terms.t3.0
  pub t3_most : s.terms.t3.0 ≤ 1200
  pub t4_least : 10 ≤ s.terms.t4.0
  pub t4_most : s.terms.t4.0 ≤ 1200
  pub device_most : s.terms.device ≤ 32767

pub record Fits (u : Link) : Type 0 where
  pub block_least : 1 ≤ u.block
  pub block_most : u.block ≤ most_blocks
  pub settings : SettingsFit u.settings
  pub line : LineFits u.line
  pub own : (p : ℕ) → p < 4 → OwnFits (own_place u.exchange p)
  pub incoming : (p : ℕ) → p < 4 → IncomingFits (incoming_place u.exchange p)
  pub sending : SendingFits u.exchange.sending
  -- "Up to 8 reports wait"
  pub waiting : u.exchange.reports.count ≤ 8

-- The tests that the unit makes of its parts ask for these ranges, and no more.
pub record RangesExactly : Type 0 where
  pub settings : (s : Settings) → settings_in_range s ≡ true ↔ SettingsFit s
  pub line : (l : Line) → line_in_range l ≡ true ↔ LineFits l
  pub own : (o : Own) → own_in_range o ≡ true ↔ OwnFits o
  pub incoming : (i : Incoming) → incoming_in_range i ≡ true ↔ IncomingFits i
  pub sending : (s : Sending) → sending_in_range s ≡ true ↔ SendingFits s
  pub reports : (r : Reports) → reports_in_range r ≡ true ↔ (r.count ≤ 8)
  pub all : (u : Link) → link_in_range u ≡ true ↔ Fits u

-- ---- the rows

-- a release is lent no memory
abbrev pub lends : Call → Bool
lends (byte b fits) = true
lends tick = true
lends drained = true
lends (request r) = lends_to r

-- 1: "output buffer under 257 bytes"
pub record OutputShort (k : Call) (o : List ℕ) : Type 0 where
  pub lent : lends k ≡ true
  pub short : length o < 257

-- 2: "room not 36,864 bytes"
pub record RoomWrong (k : Call) (room : List ℕ) : Type 0 where
  pub lent : lends k ≡ true
  pub wrong : length room ≢ 36864

-- 3: "state with a field outside the ranges listed in docs/"
abbrev pub OutOfRange : Link → Type 0
OutOfRange u = Fits u → ⊥

-- a call that is refused by none of 1, 2 and 3
pub record Passes (u : Link) (room o : List ℕ) (k : Call) : Type 0 where
  pub not_short : OutputShort k o → ⊥
  pub not_wrong : RoomWrong k room → ⊥
  pub fits : Fits u

-- The rows behind 3: "then 9, 10, 11, 5, 6, 7, 8", those of the transactions. A byte, a tick and drained have none; 4 is a start's.
abbrev pub RuledBehind : Link → Call → ℕ → Type 0
RuledBehind u (byte b fits) n = n ≡ 0
RuledBehind u tick n = n ≡ 0
RuledBehind u drained n = n ≡ 0
RuledBehind u (request r) n = RequestRuled u.exchange r n

-- "Order: 1, 2, 3, .. then" those; 0 is no refusal
pub data Ruled (u : Link) (room o : List ℕ) (k : Call) : ℕ → Type 0 where
  ruled_1 : OutputShort k o → Ruled u room o k 1
  ruled_2 : (OutputShort k o → ⊥) → RoomWrong k room → Ruled u room o k 2
  ruled_3 : (OutputShort k o → ⊥) → (RoomWrong k room → ⊥) → OutOfRange u → Ruled u room o k 3
  ruled_behind : {n : ℕ} → Passes u room o k → RuledBehind u k n → Ruled u room o k n

-- Each number exactly when its row says so and no earlier one does.
abbrev pub RefusalTable : Type 0
RefusalTable =
    (u : Link) (room o : List ℕ) (k : Call) → Fours u.exchange → (n : ℕ) → (outcome_number (came_to u room o k) ≡ n) ↔ Ruled u room o k n

-- ---- the place that is answered by a call that goes through

-- a primary is about the lowest free own place, any other request about the place that it asks for
abbrev pub About : Exchange → Request → ℕ → Type 0
About x (primary q d) p = LowestAt (OwnFree x) p
About x (reply k f d) p = p ≡ k
About x (freeing_own k) p = p ≡ k
About x (freeing_incoming k) p = p ≡ k

abbrev pub AboutPlace : Exchange → Request → Outcome → Type 0
AboutPlace x r outcome.Done = ⊥
AboutPlace x r (outcome.Taken p) = About x r p
AboutPlace x r (outcome.Refused n) = Unit {0}

abbrev pub AboutNone : Outcome → Type 0
AboutNone outcome.Done = Unit {0}
AboutNone (outcome.Taken p) = ⊥
AboutNone (outcome.Refused n) = Unit {0}

abbrev pub AnswersAs : Exchange → Call → Outcome → Type 0
AnswersAs x (byte b fits) k = AboutNone k
AnswersAs x tick k = AboutNone k
AnswersAs x drained k = AboutNone k
AnswersAs x (request r) k = AboutPlace x r k

-- A request that goes through answers the place that it is about, any other call that goes through answers none.
abbrev pub PlaceAnswered : Type 0
PlaceAnswered = (u : Link) (room o : List ℕ) (k : Call) → Fours u.exchange → AnswersAs u.exchange k (came_to u room o k)

-- ---- the requests by name

-- What the unit's four functions do (`open_call` and the others, specs/Call.antt) is the request of that name, with these arguments: so every
-- statement on `called` is one on them.
pub record RequestsAre : Type 0 where
  -- a primary is that one, on the unit as it is
  pub opens : (u : Link) (q : Primary) (d room o : List ℕ) → open_call u q d room o ≡ called u room o (request (primary q d))
  -- a reply is one to the place that is named
  pub replies : (u : Link) (p f : ℕ) (d room o : List ℕ) → reply_call u p f d room o ≡ called u room o (request (reply p f d))
  -- "Releasing is asked for each place by itself": of the own place that is named; room and output have no part in it
  pub frees_own : (u : Link) (p : ℕ) (room o : List ℕ) → left (release_own_call u p) room o ≡ called u room o (request (freeing_own p))
  -- and of the incoming place that is named
  pub frees_incoming : (u : Link) (p : ℕ) (room o : List ℕ) → left (release_incoming_call u p) room o ≡ called u room o (request (freeing_incoming p))

-- And what its three functions on the line do ("Calls: one byte in, one tick, drained") is the call of that name, flags and all.
pub record CallsAre : Type 0 where
  pub byte_in : (u : Link) (b : ℕ) (fits : b < 256) (room o : List ℕ) → byte_call u b room o ≡ called u room o (byte b fits)
  pub ticks : (u : Link) (room o : List ℕ) → tick_call u room o ≡ called u room o tick
  pub drains : (u : Link) (room o : List ℕ) → drained_call u room o ≡ called u room o drained

-- ---- a release

-- all but the transactions is as it was
pub record AllElse (u y : Link) : Type 0 where
  pub settings : y.settings ≡ u.settings
  pub line : y.line ≡ u.line
  pub received : y.received ≡ u.received
  pub block : y.block ≡ u.block

-- The line has no part in a release: nor has the block that is on its way.
abbrev pub ReleaseApart : Type 0
ReleaseApart = (u : Link) (room o : List ℕ) (r : Request) → is_release r ≡ true → AllElse u (called u room o (request r)).answer.link

-- ---- the start: 4

-- 01's table of settings
pub record SetupFits (s : Setup) : Type 0 where
  pub t1_least : 1 ≤ s.t1.0
  pub t1_most : s.t1.0 ≤ 100
  pub t2_least : 1 ≤ s.t2.0
  pub t2_most : s.t2.0 ≤ 125
  pub t3_least : 1 ≤ s.t3.0
  pub t3_most : s.t3.0 ≤ 120
  pub t4_least : 1 ≤ s.t4.0
  pub t4_most : s.t4.0 ≤ 120
  pub rty_most : s.rty ≤ 31
  pub device_most : s.device ≤ 32767
  -- "duplicate check on/off 0, 1"
  pub check_most : s.duplicates ≤ 1

-- 4: "setting out of range"; else 0
pub data StartRuled (s : Setup) : ℕ → Type 0 where
  start_4 : (SetupFits s → ⊥) → StartRuled s 4
  start_0 : SetupFits s → StartRuled s 0

-- "The unit counts ticks of 0.1 s": panel steps of T1 are 0.1 s, of T2 0.2 s, of T3 and T4 1 s. "host = slave, equipment = master"
abbrev pub in_ticks : Setup → Settings
in_ticks s = record {
  limits = record { t1 = record { 0 = s.t1.0 }; t2 = record { 0 = s.t2.0 * 2 }; rty = s.rty; master = not s.host };
  terms = record {
    t3 = record { 0 = s.t3.0 * 10 };
    t4 = record { 0 = s.t4.0 * 10 };
    device = s.device;
    duplicates = eqb s.duplicates 1;
    host = s.host;
  };
}

-- an accepted start: a fresh unit, and nothing else to tell
pub record Started (s : Setup) (a : Answer) : Type 0 where
  pub link : a.link ≡ fresh_link (in_ticks s) s.last
  -- its line idle, no place in use and no header saved (exchange/specs/SavedHeader.antt), no block on its way
  pub settings : a.link.settings ≡ in_ticks s
  pub line : a.link.line ≡ fresh_line
  pub exchange : a.link.exchange ≡ fresh_exchange s.last
  pub block : a.link.block ≡ 1
  -- in plain words: no place is in use; of the saved header, "none at a start"; no message is being sent; the "last transaction number" is the
  -- one of the settings, and none of an own transaction with a verdict is passed over; the line is idle, and no block is held
  pub no_own : (p : ℕ) → own_of a.link p ≡ None
  pub no_incoming : (p : ℕ) → incoming_of a.link p ≡ None
  pub none_saved : a.link.exchange.saved ≡ None
  pub none_sent : a.link.exchange.sending ≡ sending.Nothing
  pub last : a.link.exchange.numbers.last ≡ s.last
  pub latest : a.link.exchange.numbers.latest ≡ 0
  pub idle : a.link.line.phase ≡ phase.Idle
  pub none_held : a.link.line.held ≡ false
  pub done : a.outcome ≡ outcome.Done
  pub count : a.count ≡ 0
  pub note : note_number a.note ≡ 20
  pub flags : a.flags ≡ no_flags

-- a refused one: what it hands back is no unit to go on with, for 3 refuses every call on it that 1 and 2 do not
pub record NotStarted (a : Answer) : Type 0 where
  pub refused : a ≡ refused_as (fresh_link no_settings 0) refusal.Setting
  pub no_unit : link_in_range a.link ≡ false
  pub three :
      (room o : List ℕ) (k : Call) → (OutputShort k o → ⊥) → (RoomWrong k room → ⊥) → came_to a.link room o k ≡ outcome.Refused refusal.State

pub record StartExactly : Type 0 where
  pub number : (s : Setup) (n : ℕ) → (outcome_number (start_of s).outcome ≡ n) ↔ StartRuled s n
  pub accepted : (s : Setup) → SetupFits s → Started s (start_of s)
  pub refused : (s : Setup) → (SetupFits s → ⊥) → NotStarted (start_of s)

-- ---- "A call writes only the output bytes it reports and the area bytes it fills."

-- these bytes were put at the output's front, and the call reports as many
pub record WritesOutput (bs o : List ℕ) (l : Left) : Type 0 where
  pub count : l.answer.count ≡ length bs
  -- two codes, or a block of 254 bytes with its length and sum
  pub most : l.answer.count ≤ 257
  pub within : l.answer.count ≤ length o
  pub front : take l.answer.count l.out ≡ bs
  -- "only the output bytes it reports"
  pub beyond : drop l.answer.count l.out ≡ drop l.answer.count o
  pub size : length l.out ≡ length o

-- the area of the message that a block with this header is of, or begins
pub data AreaOf (x : Exchange) (b : Header) : Message → Type 0 where
  of_reply_lem : (p : ℕ) → LowestAt (λ q. OfReply (own_place x q) b) p → AreaOf x b (message.Reply p)
  of_message_lem : (p : ℕ) → (ReplyHere x b → ⊥) → LowestAt (λ q. OfMessage (incoming_place x q) b) p → AreaOf x b (message.Incoming p)
  -- "throws that one out and takes its place"
  of_alike : (p : ℕ) → (ReplyHere x b → ⊥) → (MessageHere x b → ⊥) → LowestAt (AlikeAt x b) p → AreaOf x b (message.Incoming p)
  -- "Otherwise it takes the lowest free incoming place"
  of_free :
      (p : ℕ) → (ReplyHere x b → ⊥) → (MessageHere x b → ⊥) → (AlikeHere x b → ⊥) → LowestAt (FreeAt x) p → AreaOf x b (message.Incoming p)

-- the header of the block that a step of the line ended
abbrev pub header_heard : Heard → Header
header_heard s = header_of (first_ten s.received)

-- the block went up by it, and its data was kept behind what its message had
pub record BlockKept (u : Link) (s : Heard) (room after : List ℕ) : Type 0 where
  pub size : ℕ
  pub up : s.step.told ≡ told.Up size
  pub area : Message
  pub of : AreaOf u.exchange (header_heard s) area
  pub kept : after ≡ kept_in room area (bytes_before u.exchange (header_heard s)) (part 10 size s.received)

-- What a call that is not refused leaves of the room: every byte; or its data is put anew into one area, "the area bytes it fills", and
-- no other byte changes (`KeepsOnly` in room's `specs/Theorems.antt`). Note 21 is that of a block that is kept.
abbrev pub FillsRoom : Link → List ℕ → Call → Answer → List ℕ → Type 0
FillsRoom u room (byte b fits) a after =
    (note_number a.note ≢ 21 → after ≡ room) × (note_number a.note ≡ 21 → Fours u.exchange → BlockKept u (step_in u (byte b fits)) room after)
FillsRoom u room tick a after = after ≡ room
FillsRoom u room drained a after = after ≡ room
FillsRoom u room (request r) a after = FillsBy r room after

pub record Writes (u : Link) (room o : List ℕ) (k : Call) (l : Left) : Type 0 where
  -- what leaves is what the line puts out by the calls that this one makes on it (`LeavesByLine`, specs/Door.antt)
  pub output : WritesOutput (line_bytes u.settings.limits u.line u.received (block_bytes u room) (line_calls u room o k)) o l
  pub size : length l.room ≡ length room
  pub refused : outcome_number l.answer.outcome ≢ 0 → l.room ≡ room
  pub accepted : outcome_number l.answer.outcome ≡ 0 → FillsRoom u room k l.answer l.room

abbrev pub WritesOnly : Type 0
WritesOnly = (u : Link) (room o : List ℕ) (k : Call) → Writes u room o k (called u room o k)
