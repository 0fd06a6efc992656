-- The seven rules of 01 ("A block that goes up is judged in this order"), each in 01's words over the places, and what is proved of
-- judging by them. b is what the ten header bytes h say, d the block's data. Each proof is in `proofs/`.
use Rattle.std.specs.Prelude.{ℕ, ◌+◌, ◌%◌, ◌≤◌, ◌<◌, ◌≡◌, Bool, true, false, cond, List, ◌∷◌, ◌↔◌, ◌⊎◌, ◌≢◌, length, Option, Some, None}
use Rattle.wire.specs.Message.{message_limit}
use Rattle.header.specs.Header.{header_of}
use Rattle.header.specs.declared.header.Header.{Header}
use Rattle.settings.specs.declared.terms.Terms.{Terms}
use Rattle.room.specs.Room.{kept_in}
use Rattle.room.specs.declared.Message.TheVariants as message
use Rattle.place.specs.Arriving.{kind_of}
use Rattle.place.specs.Message.{Routed, StartsMessage, Continuing, LacksData}
use Rattle.place.specs.Own.{primary_of as own_primary, reply_of, own_kept, verdict_of}
use Rattle.place.specs.Incoming.{primary_of as incoming_primary, incoming_length}
use Rattle.place.specs.declared.Verdict.TheVariants.{Broken}
use Rattle.place.specs.declared.Arriving.{Arriving}
use Rattle.place.specs.declared.Reply.{Reply}
use Rattle.place.specs.declared.OwnStage.{OwnStage}
use Rattle.place.specs.declared.OwnStage.TheVariants as own
use Rattle.place.specs.declared.Own.{Own}
use Rattle.place.specs.declared.IncomingStage.{IncomingStage}
use Rattle.place.specs.declared.IncomingStage.TheVariants as incoming
use Rattle.place.specs.declared.Incoming.{Incoming}
use Rattle.table.specs.Number.{number_of, next_number}
use Rattle.table.specs.Own.{own_at, own_put, reply_for}
use Rattle.table.specs.Incoming.{incoming_at, incoming_put, message_for}
use Rattle.table.specs.Theorems.{Alike}
use Rattle.reports.specs.Reports.{report, waiting_in, added}
use Rattle.reports.specs.Theorems.{Sound}
use Rattle.reports.specs.declared.Report.{Report}
use Rattle.exchange.specs.Note.{note_number}
use Rattle.exchange.specs.Flags.{no_flags, verdict_flag, incoming_flags}
use Rattle.exchange.specs.declared.Flags.{Flags}
use Rattle.exchange.specs.Exchange.{own_place, incoming_place, sent_from}
use Rattle.exchange.specs.Judge.{Judging, judging, judge_of}
use Rattle.exchange.specs.declared.Note.TheVariants.{Kept}
use Rattle.exchange.specs.declared.Sending.TheVariants.{Nothing, Report as Report'}
use Rattle.exchange.specs.declared.Exchange.{Exchange}

-- ---- four places

-- each table has its four places
pub record Fours (x : Exchange) : Type 0 where
  pub own : length x.own ≡ 4
  pub incoming : length x.incoming ≡ 4

-- there is one among the places 0 to 3
pub record Somewhere (P : ℕ → Type 0) : Type 0 where
  pub place : ℕ
  pub within : place < 4
  pub so : P place

-- place p is the lowest such one
pub record LowestAt (P : ℕ → Type 0) (p : ℕ) : Type 0 where
  pub within : p < 4
  pub so : P p
  pub none_below : (q : ℕ) → q < p → P q → ⊥

-- ---- 2

-- "Duplicate check on and all ten bytes of the header equal the saved one (none at a start)"
pub record Duplicate (c : Terms) (x : Exchange) (h : List ℕ) : Type 0 where
  pub check : c.duplicates ≡ true
  pub same : x.saved ≡ Some h

-- a block that passed 1 and 2
pub record New (c : Terms) (x : Exchange) (h : List ℕ) : Type 0 where
  pub routed : Routed c (header_of h)
  pub no_duplicate : Duplicate c x h → ⊥

-- ---- 3

-- A reply is awaited: "from the call that first puts out the bytes of its last block" (02, request 1), and from the ACK on, while T3 runs.
pub data IsAwaited (o : Own) : Type 0 where
  out : o.stage ≡ own.PutOut → IsAwaited o
  acked : (timer : ℕ) → o.stage ≡ own.Awaiting timer → IsAwaited o

-- a block of the reply to an own primary
pub data OfReply (o : Own) (b : Header) : Type 0 where
  -- "the first block of an awaited reply (same system bytes, even function, number 1, or 0 with E = 1)"
  first : IsAwaited o → b.system ≡ (own_primary o).system → b.function % 2 ≡ 0 → StartsMessage b → OfReply o b
  -- "Continues an open message (device ID, system bytes, W, stream, function and next number)"
  further : (a : Arriving) → o.stage ≡ own.Replying a → Continuing (own_primary o).device (own_primary o).system a.next a.kind b → OfReply o b

-- a further block of a message of the far end that is open
pub data OfMessage (i : Incoming) (b : Header) : Type 0 where
  goes_on_lem : (a : Arriving) → i.stage ≡ incoming.Open a → Continuing (incoming_primary i).device (incoming_primary i).system a.next a.kind b → OfMessage i b

-- "it must begin a primary: odd function, same number rule"
pub record Begins (b : Header) : Type 0 where
  pub odd : b.function % 2 ≡ 1
  pub starts : StartsMessage b

abbrev pub ReplyHere : Exchange → Header → Type 0
ReplyHere x b = Somewhere (λ p. OfReply (own_place x p) b)

abbrev pub MessageHere : Exchange → Header → Type 0
MessageHere x b = Somewhere (λ p. OfMessage (incoming_place x p) b)

abbrev pub Expected : Exchange → Header → Type 0
Expected x b = ReplyHere x b ⊎ MessageHere x b ⊎ Begins b

-- ---- 5

-- what is kept of the message that the block is of: of a reply, or of a message that is open; nothing of one that begins
abbrev pub message_bytes : Option ℕ → List Incoming → ℕ
message_bytes (Some p) is = incoming_length (incoming_at is p)
message_bytes None is = 0

abbrev pub reply_bytes : Option ℕ → List Own → List Incoming → Header → ℕ
reply_bytes (Some p) os is b = (own_kept (own_at os p)).length
reply_bytes None os is b = message_bytes (message_for is b) is

abbrev pub bytes_before : Exchange → Header → ℕ
bytes_before x b = reply_bytes (reply_for x.own b) x.own x.incoming b

-- It is what the place of that message has.
pub record BytesOf (x : Exchange) (b : Header) : Type 0 where
  pub reply : (p : ℕ) → LowestAt (λ q. OfReply (own_place x q) b) p → bytes_before x b ≡ (own_kept (own_place x p)).length
  pub message : (ReplyHere x b → ⊥) → (p : ℕ) → LowestAt (λ q. OfMessage (incoming_place x q) b) p → bytes_before x b ≡ incoming_length (incoming_place x p)
  pub none : (ReplyHere x b → ⊥) → (MessageHere x b → ⊥) → bytes_before x b ≡ 0

abbrev pub BytesBefore : Type 0
BytesBefore = (x : Exchange) (b : Header) → Fours x → BytesOf x b

-- "Total data"
abbrev pub total : Exchange → List ℕ → List ℕ → ℕ
total x h d = bytes_before x (header_of h) + length d

-- ---- 6

-- "the system bytes of an open (not yet complete) incoming one"
abbrev pub AlikeAt : Exchange → Header → ℕ → Type 0
AlikeAt x b p = Alike b (incoming_place x p)

abbrev pub FreeAt : Exchange → ℕ → Type 0
FreeAt x p = (incoming_place x p).stage ≡ incoming.Free

abbrev pub AlikeHere : Exchange → Header → Type 0
AlikeHere x b = Somewhere (AlikeAt x b)

abbrev pub FreeHere : Exchange → Type 0
FreeHere x = Somewhere (FreeAt x)

-- the block's message has a place, or gets one
abbrev pub HasPlace : Exchange → Header → Type 0
HasPlace x b = ReplyHere x b ⊎ MessageHere x b ⊎ AlikeHere x b ⊎ FreeHere x

-- ---- the seven rules in their order, each with its note

pub data Ruled (c : Terms) (x : Exchange) (h d : List ℕ) : ℕ → Type 0 where
  -- 1: "R-bit or device ID not this link's incoming one: note 22"
  misrouted : (Routed c (header_of h) → ⊥) → Ruled c x h d 22
  -- 2: "note 23"
  duplicate : Routed c (header_of h) → Duplicate c x h → Ruled c x h d 23
  -- 3: "Else note 24."
  stray : New c x h → (Expected x (header_of h) → ⊥) → Ruled c x h d 24
  -- 4: "E = 0, or number above 1, with no data: note 27."
  empty : New c x h → Expected x (header_of h) → LacksData (header_of h) (length d) → Ruled c x h d 27
  -- 5: "Total data above 4,096: note 26"
  too_long_lem : New c x h → Expected x (header_of h) → (LacksData (header_of h) (length d) → ⊥) → message_limit < total x h d → Ruled c x h d 26
  -- 6: "note 25 exactly if all four are in use", and the block's message is in none of them
  no_place : New c x h → Expected x (header_of h) → (LacksData (header_of h) (length d) → ⊥) → total x h d ≤ message_limit
      → (HasPlace x (header_of h) → ⊥) → Ruled c x h d 25
  -- 7: "Kept: note 21."
  kept : New c x h → Expected x (header_of h) → (LacksData (header_of h) (length d) → ⊥) → total x h d ≤ message_limit
      → HasPlace x (header_of h) → Ruled c x h d 21

abbrev pub noted : Judging → ℕ
noted j = note_number j.answer.note

-- Each note exactly when its rule says so and no earlier one does.
abbrev pub NotesExactly : Type 0
NotesExactly =
    (c : Terms) (x : Exchange) (h d room : List ℕ) → Fours x → (n : ℕ) → (noted (judge_of c x h d room) ≡ n) ↔ Ruled c x h d n

-- ---- what judging leaves

-- what judging comes to: the places, the saved header and the number of the latest verdict are those of y; the flags, and the room. What is
-- being sent, the last number and the reports that wait are `BoxGoes` below.
pub record Comes (j : Judging) (y : Exchange) (raised : Flags) (left : List ℕ) : Type 0 where
  pub own : j.answer.exchange.own ≡ y.own
  pub incoming : j.answer.exchange.incoming ≡ y.incoming
  pub saved : j.answer.exchange.saved ≡ y.saved
  pub latest : j.answer.exchange.numbers.latest ≡ y.numbers.latest
  pub flags : j.answer.flags ≡ raised
  pub bytes : j.room ≡ left

-- the header is saved, and nothing else is changed
abbrev pub only_saved : Exchange → List ℕ → Exchange
only_saved x h = record {
  own = x.own;
  incoming = x.incoming;
  saved = Some h;
  numbers = x.numbers;
  sending = x.sending;
  reports = x.reports;
}

-- the places and the saved header are these, no flag is raised, and no byte of the room is touched
abbrev pub Untouched : Exchange → List ℕ → Judging → Type 0
Untouched y room j = Comes j y no_flags room

-- the block is of the reply to the message that is being sent
pub record OfReplyToSent (c : Terms) (x : Exchange) (h : List ℕ) : Type 0 where
  pub new : New c x h
  pub place : ℕ
  pub of_it : LowestAt (λ q. OfReply (own_place x q) (header_of h)) place
  pub sent : sent_from x.sending place ≡ true

pub record Leaves (c : Terms) (x : Exchange) (h room : List ℕ) (j : Judging) : Type 0 where
  -- 1: "note 22, saved header kept"
  pub misrouted : noted j ≡ 22 → Untouched x room j
  -- 2: "note 23; no timer, place or byte of room changes."
  pub duplicate : noted j ≡ 23 → Untouched x room j
  -- 2: "Otherwise the header is saved, even if the block is thrown out below."
  pub saves : noted j ≢ 22 → noted j ≢ 23 → j.answer.exchange.saved ≡ Some h
  -- 3 and 6: nothing else changes
  pub stray : noted j ≡ 24 → Untouched (only_saved x h) room j
  pub no_place : noted j ≡ 25 → Untouched (only_saved x h) room j
  -- no byte is kept of a block that is thrown out
  pub thrown_out : noted j ≢ 21 → j.room ≡ room

abbrev pub JudgeLeaves : Type 0
JudgeLeaves = (c : Terms) (x : Exchange) (h d room : List ℕ) → Leaves c x h room (judge_of c x h d room)

-- ---- what is being sent, the last number, and the reports that wait

-- the report that a block with header bytes h causes at the equipment, by its note: "A misrouted block gives S9F1 .. a message over the limit
-- gives S9F11"; no other note does (02, request 2)
pub data Causes (c : Terms) (h : List ℕ) : ℕ → Report → Type 0 where
  misrouted : c.host ≡ false → Causes c h 22 (report 1 h)
  too_long_lem : c.host ≡ false → Causes c h 26 (report 11 h)

abbrev pub CausesNone : Terms → List ℕ → ℕ → Type 0
CausesNone c h n = (r : Report) → Causes c h n r → ⊥

-- a report starts, y being the state then: "a new transaction number, taken when the report starts"; `rest` wait then
pub record Begun (last : ℕ) (r : Report) (rest : List Report) (dropped : ℕ) (y : Exchange) : Type 0 where
  pub number : y.numbers.last ≡ next_number y.own last y.numbers.latest
  pub sending : y.sending ≡ Report' r.function y.numbers.last
  pub shown : y.reports.shown ≡ r.header
  pub waiting : waiting_in y.reports ≡ rest
  pub dropped_stays : y.reports.dropped ≡ dropped

-- a report is due where a message is being sent or held, x being the state before: it waits, or is dropped
pub record PutBy (r : Report) (x y : Exchange) : Type 0 where
  pub last : y.numbers.last ≡ x.numbers.last
  pub sending : y.sending ≡ x.sending
  pub reports : y.reports ≡ added x.reports r

pub record Boxed (c : Terms) (x : Exchange) (h : List ℕ) (n : ℕ) (y : Exchange) : Type 0 where
  -- no number is given, what is being sent goes on, and none comes to wait, unless something is reported, or the block is of the reply to
  -- what is being sent
  pub stays :
      (OfReplyToSent c x h → ⊥) → CausesNone c h n
      → (y.numbers.last ≡ x.numbers.last) × (y.sending ≡ x.sending) × (y.reports ≡ x.reports)
  -- the message is over by its reply (02, request 1: "the held block is withdrawn and counts as sent"): nothing is being sent then, if none
  -- waits and none is caused
  pub withdrawn :
      OfReplyToSent c x h → CausesNone c h n → x.reports.count ≡ 0
      → (y.numbers.last ≡ x.numbers.last) × (y.sending ≡ Nothing) × (y.reports ≡ x.reports)
  -- "the oldest goes first, in the call that frees the line"; where the block is a cause too, which no unit meets (`MasterProvesNone`, link):
  -- `ReportsKept` (specs/Reporting.antt)
  pub freed :
      Sound x.reports → OfReplyToSent c x h → CausesNone c h n → (r : Report) (rest : List Report) → waiting_in x.reports ≡ r ∷ rest
      → Begun x.numbers.last r rest x.reports.dropped y
  -- while nothing is being sent or held it starts in the call of its cause (reading 32)
  pub begins :
      Sound x.reports → (r : Report) → Causes c h n r → x.sending ≡ Nothing
      → Begun x.numbers.last r (waiting_in x.reports) x.reports.dropped y
  -- else it waits
  pub waits : (r : Report) → Causes c h n r → (OfReplyToSent c x h → ⊥) → x.sending ≢ Nothing → PutBy r x y

abbrev pub BoxGoes : Type 0
BoxGoes =
    (c : Terms) (x : Exchange) (h d room : List ℕ) → Fours x
    → Boxed c x h (noted (judge_of c x h d room)) (judge_of c x h d room).answer.exchange

-- ---- the places, the saved header and the latest number behind a block with header bytes h that came to a place, field by field

-- a message of the far end: incoming place p is i then, and the header is saved
abbrev pub incoming_behind : Exchange → List ℕ → ℕ → Incoming → Exchange
incoming_behind x h p i = record {
  own = x.own;
  incoming = incoming_put x.incoming p i;
  saved = Some h;
  numbers = x.numbers;
  sending = x.sending;
  reports = x.reports;
}

-- a message that has its place goes on there, at this stage
abbrev pub message_at : Exchange → ℕ → IncomingStage → Incoming
message_at x p s = record { header = (incoming_place x p).header; stage = s }

-- The reply in own place p, which is at stage s then, with the request's header as it was; `latest` is the number "of the latest own
-- transaction to get a verdict" then; and its primary is being sent no more (what is then: `BoxGoes`).
abbrev pub own_behind : Exchange → List ℕ → ℕ → OwnStage → ℕ → Exchange
own_behind x h p s latest = record {
  own = own_put x.own p (record { header = (own_place x p).header; stage = s });
  incoming = x.incoming;
  saved = Some h;
  numbers = record { last = x.numbers.last; latest = latest };
  sending = cond (sent_from x.sending p) Nothing x.sending;
  reports = x.reports;
}

-- no block of a reply is kept
abbrev pub none_kept : Reply
none_kept = record { w = false; stream = 0; function = 0; length = 0 }

-- ---- the place of a new primary

-- a block that passed 1 to 5 and begins a primary
pub record NewPrimary (c : Terms) (x : Exchange) (h d : List ℕ) : Type 0 where
  pub new : New c x h
  pub no_reply : ReplyHere x (header_of h) → ⊥
  pub no_message : MessageHere x (header_of h) → ⊥
  pub begins : Begins (header_of h)
  pub has_data : LacksData (header_of h) (length d) → ⊥
  pub fits : length d ≤ message_limit

-- a message of which a block with E = 0 is kept, n data bytes in all: "T4 restarts", and the next number is awaited
abbrev pub open_from : Header → ℕ → Arriving
open_from h n = record { timer = 0; next = h.number + 1; kind = kind_of h; length = n }

-- the place with the first block of a primary, n data bytes: complete with E = 1; else T4 runs from 0 and the next number is awaited
abbrev pub begun_with : Header → ℕ → Incoming
begun_with h n = record { header = h; stage = cond h.e (incoming.Complete n) (incoming.Open (open_from h n)) }

-- all that it leaves in place p: `gone` is whether an open message is thrown out, which raises a flag, as its completion does
abbrev pub begun_in : Exchange → ℕ → List ℕ → Bool → List ℕ → List ℕ → Judging
begun_in x p h gone d room =
    judging
    (record { exchange = incoming_behind x h p (begun_with (header_of h) (length d)); note = Kept; flags = incoming_flags p (header_of h).e gone })
    (kept_in room (message.Incoming p) 0 d)

pub record Takes (c : Terms) (x : Exchange) (h d room : List ℕ) : Type 0 where
  -- "A new primary with the system bytes of an open (not yet complete) incoming one throws that one out and takes its place"
  pub alike : (p : ℕ) → LowestAt (AlikeAt x (header_of h)) p → judge_of c x h d room ≡ begun_in x p h true d room
  -- "Otherwise it takes the lowest free incoming place"
  pub free : (AlikeHere x (header_of h) → ⊥) → (p : ℕ) → LowestAt (FreeAt x) p → judge_of c x h d room ≡ begun_in x p h false d room
  -- "note 25 exactly if all four are in use"
  pub all_in_use : (noted (judge_of c x h d room) ≡ 25) ↔ ((AlikeHere x (header_of h) → ⊥) × (FreeHere x → ⊥))

abbrev pub PlaceTaken : Type 0
PlaceTaken = (c : Terms) (x : Exchange) (h d room : List ℕ) → Fours x → NewPrimary c x h d → Takes c x h d room

-- ---- a block of a message that has its place: 4, 5 and 7

-- the block is noted 27 or 26
abbrev pub Spoils : Header → ℕ → List ℕ → Type 0
Spoils b have d = LacksData b (length d) ⊎ (message_limit < have + length d)

-- it is kept
pub record Fits (b : Header) (have : ℕ) (d : List ℕ) : Type 0 where
  pub has_data : LacksData b (length d) → ⊥
  pub fits : have + length d ≤ message_limit

-- the reply in own place p, of which `have` bytes are kept
pub record ReplyGoes (x : Exchange) (h d room : List ℕ) (p have : ℕ) (j : Judging) : Type 0 where
  -- "An open message, or awaited reply, ends broken."
  pub broken :
      Spoils (header_of h) have d
      → Comes j (own_behind x h p (own.Done Broken none_kept) (number_of (own_place x p))) (verdict_flag p true) room
  -- with E = 1 the place gets its verdict
  pub complete :
      Fits (header_of h) have d → (header_of h).e ≡ true
      → Comes j
      (own_behind x h p (own.Done (verdict_of (own_place x p) (header_of h)) (reply_of (header_of h) (have + length d))) (number_of (own_place x p)))
      (verdict_flag p true) (kept_in room (message.Reply p) have d)
  -- "With E = 0, T4 restarts."
  pub more :
      Fits (header_of h) have d → (header_of h).e ≡ false
      → Comes j
      (own_behind x h p (own.Replying (open_from (header_of h) (have + length d))) x.numbers.latest)
      no_flags (kept_in room (message.Reply p) have d)

abbrev pub ReplyBlock : Type 0
ReplyBlock =
    (c : Terms) (x : Exchange) (h d room : List ℕ) → Fours x → New c x h
    → (p : ℕ) → LowestAt (λ q. OfReply (own_place x q) (header_of h)) p
    → ReplyGoes x h d room p (bytes_before x (header_of h)) (judge_of c x h d room)

-- the message in incoming place p, of which `have` bytes are kept
pub record MessageGoes (x : Exchange) (h d room : List ℕ) (p have : ℕ) (j : Judging) : Type 0 where
  -- "A broken incoming message frees its place."
  pub broken :
      Spoils (header_of h) have d
      → Comes j (incoming_behind x h p (message_at x p incoming.Free)) (incoming_flags p false true) room
  pub complete :
      Fits (header_of h) have d → (header_of h).e ≡ true
      → Comes j (incoming_behind x h p (message_at x p (incoming.Complete (have + length d)))) (incoming_flags p true false)
      (kept_in room (message.Incoming p) have d)
  -- "With E = 0, T4 restarts."
  pub more :
      Fits (header_of h) have d → (header_of h).e ≡ false
      → Comes j (incoming_behind x h p (message_at x p (incoming.Open (open_from (header_of h) (have + length d))))) no_flags
      (kept_in room (message.Incoming p) have d)

abbrev pub MessageBlock : Type 0
MessageBlock =
    (c : Terms) (x : Exchange) (h d room : List ℕ) → Fours x → New c x h → (ReplyHere x (header_of h) → ⊥)
    → (p : ℕ) → LowestAt (λ q. OfMessage (incoming_place x q) (header_of h)) p
    → MessageGoes x h d room p (bytes_before x (header_of h)) (judge_of c x h d room)

-- "A primary not yet open takes no place."
abbrev pub NoPlaceTaken : Type 0
NoPlaceTaken =
    (c : Terms) (x : Exchange) (h d room : List ℕ) → Fours x → New c x h → (ReplyHere x (header_of h) → ⊥) → (MessageHere x (header_of h) → ⊥)
    → Spoils (header_of h) 0 d → Untouched (only_saved x h) room (judge_of c x h d room)
