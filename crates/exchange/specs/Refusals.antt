-- The refusals of a request: the rows 5 to 11 of 01's table, each in 01's words over the places, their order, "9, 10, 11, 5, 6, 7, 8",
-- and what is proved of the requests by them. Each proof is in `proofs/`.
use Rattle.std.specs.Prelude.{ℕ, ◌+◌, ◌*◌, ◌%◌, ◌<◌, ◌≡◌, true, false, not, List, ◌↔◌, ◌⊎◌, ◌≢◌, length, Ok}
use Rattle.wire.specs.Message.{message_limit}
use Rattle.cut.specs.Blocks.{block_count}
use Rattle.header.specs.Header.{InRange, header_bytes}
use Rattle.header.specs.declared.header.Header.{Header}
use Rattle.settings.specs.declared.terms.Terms.{Terms}
use Rattle.room.specs.Room.{kept_in}
use Rattle.room.specs.declared.Message.TheVariants as message
use Rattle.place.specs.Own.{own_standing}
use Rattle.place.specs.Incoming.{primary_of}
use Rattle.place.specs.declared.Standing.TheVariants as standing
use Rattle.place.specs.declared.Arriving.{Arriving}
use Rattle.place.specs.declared.OwnStage.TheVariants as own
use Rattle.place.specs.declared.End.{End}
use Rattle.place.specs.declared.IncomingStage.TheVariants as incoming
use Rattle.table.specs.Number.{next_number}
use Rattle.exchange.specs.Exchange.{own_place, incoming_place}
use Rattle.exchange.specs.Send.{outgoing_of}
use Rattle.exchange.specs.Request.{requesting, asked_number, open_of, reply_of, release_own, release_incoming, Request, primary, reply, freeing_own, freeing_incoming, answer_of}
use Rattle.exchange.specs.Rules.{Fours, Somewhere, LowestAt}
use Rattle.exchange.specs.declared.Sending.TheVariants as sending
use Rattle.exchange.specs.declared.Exchange.{Exchange}
use Rattle.exchange.specs.declared.Primary.{Primary}
use Rattle.exchange.specs.declared.Requested.{Requested}
use Rattle.exchange.specs.declared.Outgoing.TheVariants as outgoing

-- ---- the rows

-- 5: "stream above 127; function even in a primary"
abbrev pub BadPrimary : Primary → Type 0
BadPrimary q = (127 < q.stream) ⊎ (q.function % 2 ≡ 0)

-- 5: "in a reply, neither primary + 1 nor 0"
pub record BadReply (primary : Header) (f : ℕ) : Type 0 where
  pub not_next : f ≢ primary.function + 1
  pub not_zero : f ≢ 0

-- 6: "data above 4,096 bytes"
abbrev pub DataAbove : List ℕ → Type 0
DataAbove d = message_limit < length d

-- 7: "a message is being sent or held"; "refusal 7 also covers a report on its way" (02, request 2)
abbrev pub IsSending : Exchange → Type 0
IsSending x = x.sending ≢ sending.Nothing

-- 8: "all 4 own places in use"
abbrev pub OwnFree : Exchange → ℕ → Type 0
OwnFree x p = (own_place x p).stage ≡ own.Free

abbrev pub AllInUse : Exchange → Type 0
AllInUse x = (p : ℕ) → p < 4 → OwnFree x p → ⊥

-- 9: "place above 3 or free; on release, an own place without verdict"
pub data NoVerdict (x : Exchange) (p : ℕ) : Type 0 where
  own_above : 3 < p → NoVerdict x p
  own_free : OwnFree x p → NoVerdict x p
  without : own_standing (own_place x p) ≡ standing.Open → NoVerdict x p

-- 9: "place above 3 or free; .. on release or reply, an incoming one not complete or with its reply being sent or held"
pub data NotReady (x : Exchange) (p : ℕ) : Type 0 where
  above : 3 < p → NotReady x p
  free : (incoming_place x p).stage ≡ incoming.Free → NotReady x p
  not_complete : (a : Arriving) → (incoming_place x p).stage ≡ incoming.Open a → NotReady x p
  on_its_way : (n : ℕ) → (incoming_place x p).stage ≡ incoming.Replying n → NotReady x p

-- 10: "reply to a primary with W = 0"
abbrev pub NotWanted : Exchange → ℕ → Type 0
NotWanted x p = (primary_of (incoming_place x p)).w ≡ false

-- 11: "a reply to this primary was accepted before, even if it failed"
pub data RepliedBefore (x : Exchange) (p : ℕ) : Type 0 where
  replied : (n : ℕ) (e : End) → (incoming_place x p).stage ≡ incoming.Replied n e → RepliedBefore x p

-- ---- their order; 0 is no refusal

-- "5, 6, 7, 8"
pub data OpenRuled (x : Exchange) (q : Primary) (d : List ℕ) : ℕ → Type 0 where
  open_5 : BadPrimary q → OpenRuled x q d 5
  open_6 : (BadPrimary q → ⊥) → DataAbove d → OpenRuled x q d 6
  open_7 : (BadPrimary q → ⊥) → (DataAbove d → ⊥) → IsSending x → OpenRuled x q d 7
  open_8 : (BadPrimary q → ⊥) → (DataAbove d → ⊥) → (IsSending x → ⊥) → AllInUse x → OpenRuled x q d 8
  open_0 : (BadPrimary q → ⊥) → (DataAbove d → ⊥) → (IsSending x → ⊥) → Somewhere (OwnFree x) → OpenRuled x q d 0

-- a reply that is refused by none of 9, 10 and 11
pub record Owed (x : Exchange) (p : ℕ) : Type 0 where
  pub ready : NotReady x p → ⊥
  pub wanted : NotWanted x p → ⊥
  pub first : RepliedBefore x p → ⊥

-- "9, 10, 11, 5, 6, 7"
pub data ReplyRuled (x : Exchange) (p f : ℕ) (d : List ℕ) : ℕ → Type 0 where
  reply_9 : NotReady x p → ReplyRuled x p f d 9
  reply_10 : (NotReady x p → ⊥) → NotWanted x p → ReplyRuled x p f d 10
  reply_11 : (NotReady x p → ⊥) → (NotWanted x p → ⊥) → RepliedBefore x p → ReplyRuled x p f d 11
  reply_5 : Owed x p → BadReply (primary_of (incoming_place x p)) f → ReplyRuled x p f d 5
  reply_6 : Owed x p → (BadReply (primary_of (incoming_place x p)) f → ⊥) → DataAbove d → ReplyRuled x p f d 6
  reply_7 : Owed x p → (BadReply (primary_of (incoming_place x p)) f → ⊥) → (DataAbove d → ⊥) → IsSending x → ReplyRuled x p f d 7
  reply_0 : Owed x p → (BadReply (primary_of (incoming_place x p)) f → ⊥) → (DataAbove d → ⊥) → (IsSending x → ⊥) → ReplyRuled x p f d 0

-- "9", by its row for the place
pub data ReleaseRuled (Row : Type 0) : ℕ → Type 0 where
  release_9 : Row → ReleaseRuled Row 9
  release_0 : (Row → ⊥) → ReleaseRuled Row 0

abbrev pub numbered : Requested → ℕ
numbered q = asked_number q.asked

-- Each number exactly when its row says so and no earlier one does.
abbrev pub OpenExactly : Type 0
OpenExactly =
    (c : Terms) (x : Exchange) (q : Primary) (d room : List ℕ) → Fours x
    → (n : ℕ) → (numbered (open_of c x q d room).answer ≡ n) ↔ OpenRuled x q d n

abbrev pub ReplyExactly : Type 0
ReplyExactly =
    (x : Exchange) (p f : ℕ) (d room : List ℕ) → Fours x → (n : ℕ) → (numbered (reply_of x p f d room).answer ≡ n) ↔ ReplyRuled x p f d n

abbrev pub ReleaseOwnExactly : Type 0
ReleaseOwnExactly = (x : Exchange) (p : ℕ) → Fours x → (n : ℕ) → (numbered (release_own x p) ≡ n) ↔ ReleaseRuled (NoVerdict x p) n

abbrev pub ReleaseIncomingExactly : Type 0
ReleaseIncomingExactly = (x : Exchange) (p : ℕ) → Fours x → (n : ℕ) → (numbered (release_incoming x p) ≡ n) ↔ ReleaseRuled (NotReady x p) n

-- the rows of any request
abbrev pub RequestRuled : Exchange → Request → ℕ → Type 0
RequestRuled x (primary q d) n = OpenRuled x q d n
RequestRuled x (reply p f d) n = ReplyRuled x p f d n
RequestRuled x (freeing_own p) n = ReleaseRuled (NoVerdict x p) n
RequestRuled x (freeing_incoming p) n = ReleaseRuled (NotReady x p) n

abbrev pub RequestExactly : Type 0
RequestExactly =
    (c : Terms) (x : Exchange) (r : Request) (room : List ℕ) → Fours x
    → (n : ℕ) → (numbered (answer_of c x r room).answer ≡ n) ↔ RequestRuled x r n

-- ---- "A refusal reports .. state and memory untouched."

abbrev pub RefusedChangesNothing : Type 0
RefusedChangesNothing =
    (c : Terms) (x : Exchange) (r : Request) (room : List ℕ) → numbered (answer_of c x r room).answer ≢ 0
    → ((answer_of c x r room).answer.exchange ≡ x) × ((answer_of c x r room).room ≡ room)

-- ---- "A call writes only .. the area bytes it fills."

-- what an accepted request writes: a message's data into the send area; a release writes nothing
abbrev pub FillsBy : Request → List ℕ → List ℕ → Type 0
FillsBy (primary q d) room after = after ≡ kept_in room message.Send 0 d
FillsBy (reply p f d) room after = after ≡ kept_in room message.Send 0 d
FillsBy (freeing_own p) room after = after ≡ room
FillsBy (freeing_incoming p) room after = after ≡ room

abbrev pub AcceptedFills : Type 0
AcceptedFills =
    (c : Terms) (x : Exchange) (r : Request) (room : List ℕ) (p : ℕ) → (answer_of c x r room).answer.asked ≡ Ok p
    → FillsBy r room (answer_of c x r room).room

-- the room is as long as it was, after any request
abbrev pub RequestSpares : Type 0
RequestSpares = (c : Terms) (x : Exchange) (r : Request) (room : List ℕ) → length (answer_of c x r room).room ≡ length room

-- ---- a primary that is accepted

-- the next transaction number
abbrev pub number_given : Exchange → ℕ
number_given x = next_number x.own x.numbers.last x.numbers.latest

-- the header of a primary of so many data bytes with this number: W, stream and function are those asked for; R = 1 means to the host;
-- "System bytes: the caller's 16-bit source ID, then the number." Block number and E are those of its last block: an S9F9 shows that one
-- (02, request 2), and each block that is cut gets its own.
pub record AsAsked (c : Terms) (q : Primary) (size n : ℕ) (h : Header) : Type 0 where
  pub r : h.r ≡ not c.host
  pub device : h.device ≡ c.device
  pub w : h.w ≡ q.w
  pub stream : h.stream ≡ q.stream
  pub function : h.function ≡ q.function
  pub system : h.system ≡ q.source * 65536 + n
  pub number : h.number ≡ block_count size
  pub e : h.e ≡ true

pub record Opened (c : Terms) (x : Exchange) (q : Primary) (d room : List ℕ) (p : ℕ) (y : Exchange) (left : List ℕ) : Type 0 where
  -- "A primary takes the lowest free own place."
  pub lowest : LowestAt (OwnFree x) p
  -- it is being sent, with the next number
  pub header : Header
  pub as_asked : AsAsked c q (length d) (number_given x) header
  pub place : own_place y p ≡ record { header = header_bytes header; stage = own.Sending }
  pub sending : y.sending ≡ sending.Primary p (length d)
  pub outgoing : InRange header → outgoing_of y ≡ outgoing.Message header (length d)
  pub last : y.numbers.last ≡ number_given x
  -- its data lies in the send area
  pub kept : left ≡ kept_in room message.Send 0 d
  -- all else is as it was
  pub others : (k : ℕ) → k ≢ p → own_place y k ≡ own_place x k
  pub incoming : y.incoming ≡ x.incoming
  pub saved : y.saved ≡ x.saved
  pub latest : y.numbers.latest ≡ x.numbers.latest
  pub reports : y.reports ≡ x.reports

abbrev pub AcceptedOpens : Type 0
AcceptedOpens =
    (c : Terms) (x : Exchange) (q : Primary) (d room : List ℕ) → Fours x → (p : ℕ) → (answer_of c x (primary q d) room).answer.asked ≡ Ok p
    → Opened c x q d room p (answer_of c x (primary q d) room).answer.exchange (answer_of c x (primary q d) room).room

-- ---- a reply that is accepted

-- "A reply of ours has W = 0"; the complement of the R-bit, and the same stream, device ID and system bytes
pub record RepliesTo (primary : Header) (f : ℕ) (h : Header) : Type 0 where
  pub r : h.r ≡ not primary.r
  pub device : h.device ≡ primary.device
  pub w : h.w ≡ false
  pub stream : h.stream ≡ primary.stream
  pub function : h.function ≡ f
  pub system : h.system ≡ primary.system
  pub number : h.number ≡ 0
  pub e : h.e ≡ false

pub record Replied (x : Exchange) (p f : ℕ) (d room : List ℕ) (k : ℕ) (y : Exchange) (left : List ℕ) : Type 0 where
  pub same : k ≡ p
  -- the message was complete, and its reply is on its way
  pub size : ℕ
  pub was : (incoming_place x p).stage ≡ incoming.Complete size
  pub place : incoming_place y p ≡ record { header = (incoming_place x p).header; stage = incoming.Replying size }
  pub sending : y.sending ≡ sending.Reply p f (length d)
  pub header : Header
  pub replies_to : RepliesTo (primary_of (incoming_place x p)) f header
  pub outgoing : outgoing_of y ≡ outgoing.Message header (length d)
  -- its data lies in the send area
  pub kept : left ≡ kept_in room message.Send 0 d
  -- all else is as it was
  pub others : (j : ℕ) → j ≢ p → incoming_place y j ≡ incoming_place x j
  pub own : y.own ≡ x.own
  pub saved : y.saved ≡ x.saved
  pub numbers : y.numbers ≡ x.numbers
  pub reports : y.reports ≡ x.reports

abbrev pub AcceptedReplies : Type 0
AcceptedReplies =
    (c : Terms) (x : Exchange) (p f : ℕ) (d room : List ℕ) (k : ℕ) → (answer_of c x (reply p f d) room).answer.asked ≡ Ok k
    → Replied x p f d room k (answer_of c x (reply p f d) room).answer.exchange (answer_of c x (reply p f d) room).room

-- ---- a release that is accepted

-- the place is free, and all else is as it was
pub record OwnReleased (x : Exchange) (p k : ℕ) (y : Exchange) : Type 0 where
  pub same : k ≡ p
  pub place : OwnFree y p
  pub others : (j : ℕ) → j ≢ p → own_place y j ≡ own_place x j
  pub incoming : y.incoming ≡ x.incoming
  pub saved : y.saved ≡ x.saved
  pub numbers : y.numbers ≡ x.numbers
  pub sending : y.sending ≡ x.sending
  pub reports : y.reports ≡ x.reports

pub record IncomingReleased (x : Exchange) (p k : ℕ) (y : Exchange) : Type 0 where
  pub same : k ≡ p
  pub place : (incoming_place y p).stage ≡ incoming.Free
  pub others : (j : ℕ) → j ≢ p → incoming_place y j ≡ incoming_place x j
  pub own : y.own ≡ x.own
  pub saved : y.saved ≡ x.saved
  pub numbers : y.numbers ≡ x.numbers
  pub sending : y.sending ≡ x.sending
  pub reports : y.reports ≡ x.reports

pub record AcceptedReleases : Type 0 where
  pub own :
      (c : Terms) (x : Exchange) (p : ℕ) (room : List ℕ) (k : ℕ) → (answer_of c x (freeing_own p) room).answer.asked ≡ Ok k
      → OwnReleased x p k (answer_of c x (freeing_own p) room).answer.exchange
  pub incoming :
      (c : Terms) (x : Exchange) (p : ℕ) (room : List ℕ) (k : ℕ) → (answer_of c x (freeing_incoming p) room).answer.asked ≡ Ok k
      → IncomingReleased x p k (answer_of c x (freeing_incoming p) room).answer.exchange

-- ---- by the name of each request

-- `answer_of`, of which these statements speak, is what the four functions of the transactions say, each with the arguments that were given
pub record AnswersAre : Type 0 where
  pub opens : (c : Terms) (x : Exchange) (q : Primary) (d room : List ℕ) → open_of c x q d room ≡ answer_of c x (primary q d) room
  pub replies : (c : Terms) (x : Exchange) (p f : ℕ) (d room : List ℕ) → reply_of x p f d room ≡ answer_of c x (reply p f d) room
  pub frees_own : (c : Terms) (x : Exchange) (p : ℕ) (room : List ℕ) → requesting (release_own x p) room ≡ answer_of c x (freeing_own p) room
  pub frees_incoming : (c : Terms) (x : Exchange) (p : ℕ) (room : List ℕ) → requesting (release_incoming x p) room ≡ answer_of c x (freeing_incoming p) room
