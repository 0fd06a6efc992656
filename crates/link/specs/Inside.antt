-- What is proved of the unit's inside, over every list of its calls from a start (`specs/History.antt`): the settings stay, the line goes
-- through calls of a line and the transactions through calls of the transactions, the two agree on what is being sent, and no field
-- leaves its range. Each proof is in `proofs/`.
use Rattle.std.specs.Prelude.{ℕ, ◌+◌, ◌≤◌, ◌<◌, ◌≡◌, Bool, true, false, List, [], ◌∷◌, ◌≢◌, ◌⊎◌, length, Some}
use Rattle.header.specs.declared.header.Header.{Header}
use Rattle.wire.specs.Message.{message_limit}
use Rattle.cut.specs.Blocks.{most_blocks, block_count, part_start, part_length, header_at, cut_of}
use Rattle.block.specs.Block.{block_of}
use Rattle.room.specs.Room.{bytes_in}
use Rattle.room.specs.declared.Message.TheVariants as message
use Rattle.line.specs.History as line
use Rattle.line.specs.Line.{line_at, under_way, busy, byte_of}
use Rattle.line.specs.Theorems.{Reached as LineReached, Turns}
use Rattle.line.specs.declared.line.Line.{Line}
use Rattle.line.specs.declared.step.Out.TheVariants as out
use Rattle.line.specs.declared.step.Told.{Told}
use Rattle.line.specs.declared.step.Told.TheVariants as told
use Rattle.exchange.specs.History as exchange
use Rattle.exchange.specs.Theorems.{Reached as ExchangeReached}
use Rattle.exchange.specs.Watching.{OwnAt, IncomingAt}
use Rattle.exchange.specs.Reports.{report_header, report_body}
use Rattle.exchange.specs.Request.{sending_by, is_sending}
use Rattle.exchange.specs.Send.{outgoing_of}
use Rattle.exchange.specs.declared.Sending.{Sending}
use Rattle.exchange.specs.declared.Outgoing.TheVariants as outgoing
use Rattle.link.specs.Setup.{ranged_of}
use Rattle.link.specs.State.{link_in_range, start_of}
use Rattle.link.specs.Courier.{courier_of}
use Rattle.link.specs.Run.{Left, block_bytes}
use Rattle.link.specs.History.{Call, called, Room, kept, other, lent_room, Made, came_to, line_calls, exchange_calls, Track, line_track, exchange_track, limits_in, terms_in, next, track, at_start}
use Rattle.link.specs.declared.Setup.{Setup}
use Rattle.link.specs.declared.Settings.{Settings}
use Rattle.link.specs.declared.Refusal.TheVariants as refusal
use Rattle.link.specs.declared.Outcome.TheVariants as outcome
use Rattle.link.specs.declared.Carried.{Carried}
use Rattle.link.specs.declared.Link.{Link}

-- ---- what can be reached

-- what any calls leave of a unit whose start was not refused, with a room of 36,864 bytes: refused calls are among them, and calls
-- that are lent another room
pub record Reached (t : Track) : Type 0 where
  pub setup : Setup
  pub settings : Settings
  pub started : ranged_of setup ≡ Some settings
  pub room : List ℕ
  pub whole : length room ≡ 36864
  pub calls : List Made
  pub so : track (at_start settings setup.last room) calls ≡ t

-- a statement on all that can be reached
abbrev pub Always : (Track → Type 0) → Type 0
Always P = (t : Track) → Reached t → P t

-- That is all that calls leave: the unit of a start that is not refused is reached, and so is what any call leaves of one that is.
pub record CallsReach : Type 0 where
  pub start :
      (s : Setup) (z : Settings) → ranged_of s ≡ Some z → (room : List ℕ) → length room ≡ 36864
      → Reached (at_start z s.last room) × ((at_start z s.last room).link ≡ (start_of s).link)
  pub call :
      (t : Track) → Reached t → (m : Made)
      → Reached (next t m) × ((next t m).link ≡ (called t.link (lent_room m.room t.room) m.out m.call).answer.link)

-- "while the room comes back as the last call left it": another one that is lent is not 36,864 bytes, and nothing is done with it
abbrev pub ComesBack : Room → Type 0
ComesBack kept = Unit {0}
ComesBack (other strange) = length strange ≢ 36864

unfoldable pub Back : List Made → Type 0
Back [] = Unit {0}
Back (m ∷ ms) = ComesBack m.room × Back ms

-- what can be reached while it does
pub record ReachedBack (t : Track) : Type 0 where
  pub reached : Reached t
  pub back : Back reached.calls

-- ---- the settings

-- no call changes them
abbrev pub SettingsKept : Type 0
SettingsKept = (u : Link) (room o : List ℕ) (k : Call) → (called u room o k).answer.link.settings ≡ u.settings

-- so they are those of the start
abbrev pub SettingsStay : Type 0
SettingsStay = (t : Track) (w : Reached t) → t.link.settings ≡ w.settings

-- ---- the line inside

-- the line, and the received bytes beside it, are as these calls of a line leave them
pub record LineLeft (t : line.Track) (u : Link) : Type 0 where
  pub line : t.line ≡ u.line
  pub received : t.received ≡ u.received

-- the unit's line, with what an onlooker has seen of it
abbrev pub line_of : Link → line.Seen → line.Track
line_of u s = record { line = u.line; received = u.received; seen = s }

-- a call of the unit does to its line what the calls do that it tells it, and no more
abbrev pub LineGoes : Type 0
LineGoes =
    (u : Link) (room o : List ℕ) (k : Call) (s : line.Seen)
    → LineLeft (line.track u.settings.limits (line_of u s) (line_calls u room o k)) (called u room o k).answer.link

-- so every theorem on a line (line/specs/Theorems.antt) holds of the unit's
abbrev pub LineInside : Type 0
LineInside = Always (λ t. LineReached (limits_in t) (line_track t))

-- ---- the transactions inside

-- the transactions, and the room, are as these calls of the transactions leave them
pub record ExchangeLeft (t : exchange.Track) (l : Left) : Type 0 where
  pub exchange : t.exchange ≡ l.answer.link.exchange
  pub room : t.room ≡ l.room

abbrev pub exchange_of : Link → List ℕ → exchange.Joined → exchange.Track
exchange_of u room j = record { exchange = u.exchange; room = room; seen = j }

-- a call of the unit does to its transactions what the calls do that it tells them, and no more
abbrev pub ExchangeGoes : Type 0
ExchangeGoes =
    (u : Link) (room o : List ℕ) (k : Call) (j : exchange.Joined)
    → ExchangeLeft (exchange.track u.settings.terms (exchange_of u room j) (exchange_calls u room o k)) (called u room o k)

-- the transactions, and what their onlooker has joined, are as their calls leave them on one room that comes back each time
pub record InSomeRoom (t : Track) : Type 0 where
  pub room : List ℕ
  pub reached : ExchangeReached (terms_in t) (exchange_track t room)

-- The transactions go by no byte of the room: so they are, whatever rooms are lent to the unit, and every theorem on their state
-- (exchange/specs/Theorems.antt) holds of the unit's.
abbrev pub ExchangeInside : Type 0
ExchangeInside = Always InSomeRoom

-- Each place, and what the unit's onlooker of it has seen, are as events at a place leave them: so every theorem on a place
-- (place/specs/OwnTheorems.antt, place/specs/IncomingTheorems.antt) holds of the unit's.
pub record Watched (t : Track) : Type 0 where
  pub own : (p : ℕ) → p < 4 → OwnAt (terms_in t) p t.link.exchange (t.own p)
  pub incoming : (p : ℕ) → p < 4 → IncomingAt (terms_in t) p t.link.exchange (t.incoming p)

abbrev pub PlacesInside : Type 0
PlacesInside = Always Watched

-- ---- the line and the transactions agree

-- What is handed to the courier, whatever transactions make of a call: what was being sent before it and is now, what was told, and the
-- line as the device's step left it.
pub record Handed (before after : Sending) (t : Told) (l : Line) : Type 0 where
  -- before the step the line was busy exactly if a message was being sent; what was told is what became of that
  pub turned : Turns t (sending_by before) (busy l)
  -- a message whose send has failed is not sent on
  pub failed : t ≡ told.Failed → after ≢ before
  -- no block of a message that is gone is under way
  pub gone : after ≢ before → under_way l.phase ≡ false

-- what it makes of line l, by whether a message is being sent then
pub record LineCarried (sending : Bool) (l m : Line) : Type 0 where
  -- 7, "a message is being sent or held", means the same to the line
  pub same : sending ≡ busy m
  -- "one message sent at a time": a block that is under way is left to the line
  pub under_way_lem : under_way l.phase ≡ true → m ≡ l
  -- "A held block (one that gave way, or was asked for while the line was receiving) is sent at once": where none is under way one is held
  -- exactly if a message is being sent, so none of a message that is gone; and nothing else of the line is changed
  pub held : under_way l.phase ≡ false → m ≡ line_at sending l.phase

-- and of block k, that was on its way or held
pub record BlockCarried (before after : Sending) (t : Told) (k n : ℕ) : Type 0 where
  -- "numbers start at 1", also of a message that follows another in one call
  pub begun : after ≢ before → sending_by after ≡ true → n ≡ 1
  -- it is 1 also where no message is being sent, if it was so before
  pub none : (sending_by before ≡ false → k ≡ 1) → sending_by after ≡ false → n ≡ 1
  -- "ACK means sent; the message's next block goes out with ENQ in the same call"
  pub next : after ≡ before → t ≡ told.Sent → n ≡ k + 1
  -- by nothing else does the same message get to another block
  pub stays : after ≡ before → t ≢ told.Sent → n ≡ k

pub record LeftBy (before after : Sending) (t : Told) (l : Line) (k : ℕ) (r : Carried) : Type 0 where
  pub line : LineCarried (sending_by after) l r.line
  pub block : BlockCarried before after t k r.block

-- So the courier leaves the line in agreement with any transactions, also with those that give a message up that is held: as ours do where
-- its reply proves it received (`WithdrawnExactly`, specs/Withdrawn.antt).
abbrev pub CourierAgrees : Type 0
CourierAgrees =
    (before after : Sending) (t : Told) (l : Line) (k : ℕ) (room : List ℕ) → Handed before after t l → LeftBy before after t l k (courier_of before after t l k room)

-- To the line and to the transactions 7, "a message is being sent or held", means the same; and the block that is on its way or held
-- is one of the message.
pub record Agree (t : Track) : Type 0 where
  pub same : is_sending t.link.exchange ≡ busy t.link.line
  -- a message of 4,096 bytes makes 17 blocks
  pub first : 1 ≤ t.link.block
  pub most : t.link.block ≤ most_blocks
  pub within : (h : Header) (n : ℕ) → outgoing_of t.link.exchange ≡ outgoing.Message h n → (t.link.block ≤ block_count n) × (n ≤ message_limit)
  -- a report is one block
  pub report : (f n : ℕ) → outgoing_of t.link.exchange ≡ outgoing.Report f n → t.link.block ≡ 1
  -- none is on its way where no message is being sent
  pub idle : is_sending t.link.exchange ≡ false → t.link.block ≡ 1

abbrev pub Agrees : Type 0
Agrees = Always Agree

-- a message is being sent, and its block on its way is cut from it
pub record Whole (t : Track) : Type 0 where
  pub header : Header
  pub size : ℕ
  pub sent : outgoing_of t.link.exchange ≡ outgoing.Message header size
  pub block :
      cut_of header size t.link.block ≡ Some (record { header = header_at header size t.link.block; start = part_start t.link.block; length = part_length size t.link.block })
  -- its header, and its part of the send area
  pub bytes :
      (room : List ℕ)
      → block_bytes t.link room ≡ block_of (header_at header size t.link.block) (bytes_in room message.Send (part_start t.link.block) (part_length size t.link.block))

-- or a report is being sent, of which no byte lies in the room
pub record WholeReport (t : Track) : Type 0 where
  pub function : ℕ
  pub number : ℕ
  pub sent : outgoing_of t.link.exchange ≡ outgoing.Report function number
  pub bytes :
      (room : List ℕ)
      → block_bytes t.link room ≡ block_of (report_header (terms_in t).device function number) (report_body t.link.exchange.reports.shown)

-- "EOT puts out the whole block": where the line has it put out, there is one
abbrev pub WholeBlock : Type 0
WholeBlock =
    Always (λ t. (b : ℕ) → (byte_of (limits_in t) t.link.line b t.link.received).step.out ≡ out.Block → Whole t ⊎ WholeReport t)

-- ---- ranges

abbrev pub ReachedInRange : Type 0
ReachedInRange = Always (λ t. link_in_range t.link ≡ true)

-- refusal 3: "never for a state reached by calls from a start"
abbrev pub NeverThree : Type 0
NeverThree = Always (λ t. (room o : List ℕ) (k : Call) → came_to t.link room o k ≢ outcome.Refused refusal.State)
