-- What is proved of verdicts, and of the far end's messages, over every list of the unit's calls from a start, refused ones among them
-- (`specs/History.antt`): the third demand. `t.own p` and `t.incoming p` are what the onlookers of place p have seen; how one call
-- more moves them is in `specs/Moves.antt`. All of it is said by what a call tells the transactions and by what a user reads, nothing by
-- the line: of a second device the same text would hold. Each proof is in `proofs/`.
use Rattle.std.specs.Prelude.{ℕ, ◌+◌, ◌≤◌, ◌<◌, ◌≡◌, Bool, true, false, List, [], ◌∷◌, ◌↔◌, ◌⊎◌, length, None, Option, Some}
use Rattle.header.specs.declared.header.Header.{Header}
use Rattle.place.specs.Message.{Routed, Continues, Whole, no_header, first_of}
use Rattle.place.specs.Own.{no_reply, own_standing}
use Rattle.place.specs.OwnHistory as own
use Rattle.place.specs.OwnTheorems.{Received, Asked, Earned, on_reply, ReplyAsKept, NoneToShow, AllZeros, BeginsReply, GoesOn, Awaited, verdict_limit, silence_limit}
use Rattle.place.specs.IncomingTheorems.{Breaks}
use Rattle.place.specs.declared.Verdict.{Verdict}
use Rattle.place.specs.declared.Verdict.TheVariants.{Answered}
use Rattle.place.specs.declared.Standing.{Standing}
use Rattle.place.specs.declared.Reply.{Reply}
use Rattle.place.specs.declared.Standing.TheVariants.{Free, Open, Given}
use Rattle.room.specs.Room.{bytes_in}
use Rattle.room.specs.declared.Message.TheVariants as message
use Rattle.exchange.specs.Exchange.{own_place, incoming_place}
use Rattle.exchange.specs.Reading.{header_by, stage_by, has_ended}
use Rattle.exchange.specs.Rules.{OfReply, OfMessage, FreeAt}
use Rattle.exchange.specs.Theorems.{Reached as ExchangeReached}
use Rattle.exchange.specs.declared.OwnReading.{OwnReading}
use Rattle.exchange.specs.declared.IncomingReading.{IncomingReading}
use Rattle.exchange.specs.declared.ReplyStage.{ReplyStage}
use Rattle.exchange.specs.declared.ReplyStage.TheVariants.{NotOwed, Owed, OnItsWay}
use Rattle.link.specs.Answer.{accepted}
use Rattle.link.specs.Reading.{own_of, incoming_of, reply_data, incoming_data, sending_of}
use Rattle.exchange.specs.Refusals.{IsSending, OwnFree, NotReady, NotWanted, RepliedBefore}
use Rattle.exchange.specs.Request.{freeing_own, freeing_incoming}
use Rattle.exchange.specs.History as exchange
use Rattle.exchange.specs.Watching.{reply_from}
use Rattle.link.specs.History.{Made, Track, exchange_track, terms_in, answered, on_exchange_in, next, track}
use Rattle.link.specs.Inside.{Always, ReachedBack}
use Rattle.link.specs.declared.Link.{Link}

-- ---- what a user reads of an own place

-- free; "0 open"; or its verdict
abbrev pub standing_by : Option OwnReading → Standing
standing_by None = Free
standing_by (Some r) = r.standing

abbrev pub standing : Track → ℕ → Standing
standing t p = standing_by (own_of t.link p)

-- it is how the place inside stands
abbrev pub StandingRead : Type 0
StandingRead = (t : Track) (p : ℕ) → standing t p ≡ own_standing (own_place t.link.exchange p)

-- a statement on each of the four places of all that can be reached
abbrev pub AtEach : (Track → ℕ → Type 0) → Type 0
AtEach P = Always (λ t. (p : ℕ) → p < 4 → P t p)

-- ---- each verdict exactly when

-- A place shows a verdict exactly when it is earned: `Earned` (place/specs/OwnTheorems.antt) says when, from the history alone.
abbrev pub VerdictExactly : Type 0
VerdictExactly = AtEach (λ t p. (v : Verdict) → (standing t p ≡ Given v) ↔ Earned (terms_in t) (t.own p) v)

-- "the whole reply, with the request's stream and the next function, was kept"
pub record WholeReply (s : own.Seen) : Type 0 where
  -- the request's last block was "acknowledged, or proved received by its reply" (02, request 1), and it asked for a reply
  pub received : Received s.request
  pub wanted : s.header.w ≡ true
  -- the blocks kept since are a whole message: numbers 1 to n or a single 0, E on the last alone, one header else
  pub whole : Whole s.kept
  pub stream : (first_of s.kept).stream ≡ s.header.stream
  pub function : (first_of s.kept).function ≡ s.header.function + 1

-- "'Answered' is given exactly when the whole reply, with the request's stream and the next function, was kept."
abbrev pub AnsweredExactly : Type 0
AnsweredExactly = AtEach (λ t p. (standing t p ≡ Given Answered) ↔ WholeReply (t.own p))

-- It is free exactly when no request is in it: none was accepted since the last release.
abbrev pub FreeExactly : Type 0
FreeExactly = AtEach (λ t p. (standing t p ≡ Free) ↔ ((t.own p).request ≡ own.none))

-- "or is the first block of an awaited reply", "from the call that first puts out the bytes of its last block" (02, request 1): a block that
-- passed rule 1 is of the reply in this place, to rule 3, exactly if one is awaited by the history, no verdict is shown, and it is the
-- reply's first block or the next.
abbrev pub ReplyTakesExactly : Type 0
ReplyTakesExactly =
    AtEach (λ t p.
    (b : Header) → Routed (terms_in t) b
    → OfReply (own_place t.link.exchange p) b
    ↔ (Awaited (t.own p) × (standing t p ≡ Open) × ((((t.own p).kept ≡ []) × BeginsReply (t.own p).header b) ⊎ GoesOn (t.own p) b)))

-- `V` prints "`9 - 20` for a free place or one above 3": no place is read exactly where no request is,
abbrev pub NoPlaceExactly : Type 0
NoPlaceExactly = AtEach (λ t p. (own_of t.link p ≡ None) ↔ ((t.own p).request ≡ own.none))

-- and above 3, where no message is either.
abbrev pub NoneAbove : Type 0
NoneAbove = Always (λ t. (p : ℕ) → 3 < p → (own_of t.link p ≡ None) × (incoming_of t.link p ≡ None))

-- While the room comes back, the transactions inside, with it, are as their own calls leave them: so what is proved of their areas
-- (`JoinedInAreas`, exchange/specs/Theorems.antt) holds of the lent room.
abbrev pub ExchangeBack : Type 0
ExchangeBack = (t : Track) → ReachedBack t → ExchangeReached (terms_in t) (exchange_track t t.room)

-- the request, and what is kept of its reply
abbrev pub request_in : Option OwnReading → Header
request_in None = no_header
request_in (Some r) = r.primary

abbrev pub reply_in : Option OwnReading → Reply
reply_in None = no_reply
reply_in (Some r) = r.reply

-- The header read of a place in use is that of the request which was accepted for it.
abbrev pub RequestRead : Type 0
RequestRead = AtEach (λ t p. (standing t p ≡ Free → ⊥) → request_in (own_of t.link p) ≡ (t.own p).header)

-- A reply that is arriving is read as far as it is kept, by its first block.
abbrev pub ArrivingRead : Type 0
ArrivingRead =
    AtEach (λ t p. Asked (t.own p) → standing t p ≡ Open → 1 ≤ length (t.own p).kept → ReplyAsKept (t.own p) (reply_in (own_of t.link p)))

-- And so is a whole one, behind 2, 3 and 4, whatever became of the room.
abbrev pub WholeRead : Type 0
WholeRead = AtEach (λ t p. (v : Verdict) → on_reply v ≡ true → standing t p ≡ Given v → ReplyAsKept (t.own p) (reply_in (own_of t.link p)))

-- Where there is no block of one to show (`NoneToShow`, place/specs/OwnTheorems.antt), so behind 1, 5, 6 and 7, zeros are read: with the
-- two above this is all that is read of a reply, but its bytes.
abbrev pub NoReplyRead : Type 0
NoReplyRead = AtEach (λ t p. NoneToShow (t.own p) (standing t p) → AllZeros (reply_in (own_of t.link p)))

-- "After 2, 3 or 4 .. its area begins with the data of the kept blocks joined": so many bytes as these blocks had, and a user reads
-- them, while the room comes back; its W-bit, stream and function are those of the first of these blocks
pub record ReplyReads (t : Track) (p : ℕ) : Type 0 where
  pub as_kept : ReplyAsKept (t.own p) (reply_in (own_of t.link p))
  pub bytes : reply_data t.link t.room p ≡ t.joined.replies p
  pub size : length (t.joined.replies p) ≡ (t.own p).bytes

abbrev pub ReplyRead : Type 0
ReplyRead = (t : Track) → ReachedBack t → (p : ℕ) → p < 4 → (v : Verdict) → on_reply v ≡ true → standing t p ≡ Given v → ReplyReads t p

-- ---- at most one, and kept until released

-- a call that was not refused
abbrev pub Accepted : Track → Made → Type 0
Accepted t m = accepted (answered t m).answer.outcome ≡ true

-- one of these
pub data Among {A : Type 0} (k : A) : List A → Type 0 where
  here : {ks : List A} → Among k (k ∷ ks)
  later : {j : A} {ks : List A} → Among k ks → Among k (j ∷ ks)

-- it tells the transactions this; a refused call tells them nothing
abbrev pub Tells : Track → Made → exchange.Call → Type 0
Tells t m k = Among k (on_exchange_in t m)

-- a release of own place p, of incoming place p, that was accepted
abbrev pub FreesOwn : Track → Made → ℕ → Type 0
FreesOwn t m p = Tells t m (exchange.request (freeing_own p))

abbrev pub FreesIncoming : Track → Made → ℕ → Type 0
FreesIncoming t m p = Tells t m (exchange.request (freeing_incoming p))

-- none is among these calls
pub data Unless (Frees : Track → Made → Type 0) : Track → List Made → Type 0 where
  no_more : {t : Track} → Unless Frees t []
  one_more : {t : Track} {m : Made} {ms : List Made} → (Frees t m → ⊥) → Unless Frees (next t m) ms → Unless Frees t (m ∷ ms)

-- the whole place, and so all that is read of it, is as it was
pub record OwnStays (before after : Track) (p : ℕ) : Type 0 where
  pub place : own_place after.link.exchange p ≡ own_place before.link.exchange p
  pub read_of_it : own_of after.link p ≡ own_of before.link p
  pub shown : standing after p ≡ standing before p

-- One call more leaves a place with a verdict as it is, or is its release.
abbrev pub KeptUntilReleased : Type 0
KeptUntilReleased =
    AtEach (λ t p. (v : Verdict) → standing t p ≡ Given v → (m : Made) → OwnStays t (next t m) p ⊎ (FreesOwn t m p × (standing (next t m) p ≡ Free)))

-- "each message accepted for sending gets at most one verdict and keeps it until released"
abbrev pub OneVerdict : Type 0
OneVerdict =
    AtEach (λ t p. (v : Verdict) → standing t p ≡ Given v → (ms : List Made) → Unless (λ u m. FreesOwn u m p) t ms → OwnStays t (track t ms) p)

-- ---- and in time

pub record Decided (t : Track) (p : ℕ) : Type 0 where
  pub verdict : Verdict
  pub shown : standing t p ≡ Given verdict

-- "After a primary's last block is acknowledged, or proved received by its reply, its verdict falls by tick T3 + 4096 x T4 + 1, and by tick
-- T3 + 1 if no reply block was kept." The ticks since that ACK, or that reply's first block, are the onlooker's: each tick that was not
-- refused adds one, and nothing else changes their number (`OwnMoves`, specs/Moves.antt).
pub record InTime (t : Track) (p : ℕ) : Type 0 where
  pub by_limit : Received (t.own p).request → verdict_limit (terms_in t) ≤ (t.own p).since → Decided t p
  pub by_silence : Received (t.own p).request → (t.own p).kept ≡ [] → silence_limit (terms_in t) ≤ (t.own p).since → Decided t p

abbrev pub VerdictFalls : Type 0
VerdictFalls = AtEach InTime

-- ---- what a user reads of an incoming place

abbrev pub there_by : Option IncomingReading → Bool
there_by None = false
there_by (Some r) = true

abbrev pub complete_by : Option IncomingReading → Bool
complete_by None = false
complete_by (Some r) = r.complete

-- there is a message, and it is complete
abbrev pub is_there : Track → ℕ → Bool
is_there t p = there_by (incoming_of t.link p)

abbrev pub is_complete : Track → ℕ → Bool
is_complete t p = complete_by (incoming_of t.link p)

-- none began since the last release, or it was broken before it was whole ("A broken incoming message frees its place.")
abbrev pub NoMessage : Track → ℕ → Type 0
NoMessage t p =
    ((t.incoming p).begun ≡ false) ⊎ (((t.incoming p).begun ≡ true) × (Whole (t.incoming p).kept → ⊥) × Breaks (terms_in t) (t.incoming p))

-- What a place shows, exactly when.
pub record MessageExactly (t : Track) (p : ℕ) : Type 0 where
  -- complete: the blocks kept since it began are a whole message
  pub whole : (is_complete t p ≡ true) ↔ (((t.incoming p).begun ≡ true) × Whole (t.incoming p).kept)
  -- open: they are not yet, and nothing broke it
  pub open_yet :
      ((is_there t p ≡ true) × (is_complete t p ≡ false))
      ↔ (((t.incoming p).begun ≡ true) × (Whole (t.incoming p).kept → ⊥) × (Breaks (terms_in t) (t.incoming p) → ⊥))
  -- free
  pub none : (is_there t p ≡ false) ↔ NoMessage t p
  pub no_place : (incoming_of t.link p ≡ None) ↔ NoMessage t p

abbrev pub CompleteExactly : Type 0
CompleteExactly = AtEach MessageExactly

-- "Continues an open message": a block is for this place exactly if it has the number after the last block kept, and all else of them
abbrev pub TakesExactly : Type 0
TakesExactly =
    AtEach (λ t p.
    (b : Header)
    → OfMessage (incoming_place t.link.exchange p) b
    ↔ ((is_there t p ≡ true) × (is_complete t p ≡ false) × Continues (first_of (t.incoming p).kept) (length (t.incoming p).kept + 1) b))

-- "Freed places and areas are used again": the places that are free to the rules and refusals (8, 9, 25) are those that a user reads as free.
pub record FreeRead (t : Track) (p : ℕ) : Type 0 where
  pub own : OwnFree t.link.exchange p ↔ (standing t p ≡ Free)
  pub incoming : FreeAt t.link.exchange p ↔ (is_there t p ≡ false)

abbrev pub FreeAsRead : Type 0
FreeAsRead = AtEach FreeRead

-- the length that is read
abbrev pub length_by : Option IncomingReading → ℕ
length_by None = 0
length_by (Some r) = r.length

-- they are those of the blocks kept
pub record Shown (t : Track) (p : ℕ) : Type 0 where
  pub header : header_by (incoming_of t.link p) ≡ first_of (t.incoming p).kept
  pub size : length_by (incoming_of t.link p) ≡ (t.incoming p).bytes

abbrev pub MessageShown : Type 0
MessageShown = AtEach (λ t p. is_there t p ≡ true → Shown t p)

-- a complete message: its header and length are as they were
pub record MessageStays (before after : Track) (p : ℕ) : Type 0 where
  pub complete : is_complete after p ≡ true
  pub header : header_by (incoming_of after.link p) ≡ header_by (incoming_of before.link p)
  pub size : length_by (incoming_of after.link p) ≡ length_by (incoming_of before.link p)

-- One call more leaves it so, or is its release.
abbrev pub MessageKept : Type 0
MessageKept =
    AtEach (λ t p. is_complete t p ≡ true → (m : Made) → MessageStays t (next t m) p ⊎ (FreesIncoming t m p × (is_there (next t m) p ≡ false)))

-- It stays until it is released, whatever becomes of our reply.
abbrev pub CompleteStays : Type 0
CompleteStays = AtEach (λ t p. is_complete t p ≡ true → (ms : List Made) → Unless (λ u m. FreesIncoming u m p) t ms → MessageStays t (track t ms) p)

-- "or once an incoming message is complete, its area begins with the data of the kept blocks joined": and a user reads them, while the
-- room comes back; of a message that is still open, those kept so far
pub record MessageReads (t : Track) (p : ℕ) : Type 0 where
  pub bytes : incoming_data t.link t.room p ≡ t.joined.messages p
  pub size : length (t.joined.messages p) ≡ (t.incoming p).bytes

abbrev pub MessageRead : Type 0
MessageRead = (t : Track) → ReachedBack t → (p : ℕ) → p < 4 → is_there t p ≡ true → MessageReads t p

-- ---- what a user reads of any unit

-- As many bytes are handed out as are shown, of the place's own area: none where there is no place, or no block is kept.
pub record DataShown (u : Link) (room : List ℕ) (p : ℕ) : Type 0 where
  pub reply : reply_data u room p ≡ bytes_in room (message.Reply p) 0 (reply_in (own_of u p)).length
  pub incoming : incoming_data u room p ≡ bytes_in room (message.Incoming p) 0 (length_by (incoming_of u p))

abbrev pub DataRead : Type 0
DataRead = (u : Link) (room : List ℕ) (p : ℕ) → DataShown u room p

-- "a message is being sent or held": by which 7 refuses, and a user asks before he sends
abbrev pub SendingRead : Type 0
SendingRead = (u : Link) → (sending_of u ≡ true) ↔ IsSending u.exchange

-- ---- our reply to a message: "A reply of ours ends sent or failed in its incoming place."

abbrev pub reply_stands : Track → ℕ → ReplyStage
reply_stands t p = stage_by (incoming_of t.link p)

-- It is on its way exactly while it is the message "being sent or held".
abbrev pub OnItsWayExactly : Type 0
OnItsWayExactly = AtEach (λ t p. (reply_stands t p ≡ OnItsWay) ↔ (reply_from t.link.exchange.sending p ≡ true))

-- none was accepted: it is not on its way, and it has no end
pub record Unanswered (t : Track) (p : ℕ) : Type 0 where
  pub not_sent : reply_from t.link.exchange.sending p ≡ false
  pub no_end : has_ended (reply_stands t p) ≡ false

-- What is left where no refusal stands in its way: 9 a place free or "not complete", "10 reply to a primary with W = 0", "11 a reply to
-- this primary was accepted before".
pub record Owes (t : Track) (p : ℕ) : Type 0 where
  -- owed: the message is complete, its first block asked for a reply, and none was accepted
  pub owed : (reply_stands t p ≡ Owed) ↔ ((is_complete t p ≡ true) × ((first_of (t.incoming p).kept).w ≡ true) × Unanswered t p)
  -- not owed: there is no message, or it is still open; or it asked for none
  pub not_owed : (reply_stands t p ≡ NotOwed) ↔ ((is_complete t p ≡ false) ⊎ (((first_of (t.incoming p).kept).w ≡ false) × Unanswered t p))

abbrev pub OwedExactly : Type 0
OwedExactly = AtEach Owes

-- Refusals 9, 10 and 11 go by what a place is inside (`NotReady`, `NotWanted`, `RepliedBefore`, exchange/specs/Refusals.antt): it is what a user
-- reads.
pub record ReadyRead (t : Track) (p : ℕ) : Type 0 where
  -- 9: "an incoming one not complete or with its reply being sent or held"
  pub not_ready_lem : p < 4 → NotReady t.link.exchange p ↔ ((is_complete t p ≡ false) ⊎ (reply_stands t p ≡ OnItsWay))
  -- 10: "reply to a primary with W = 0"
  pub not_wanted : is_there t p ≡ true → NotWanted t.link.exchange p ↔ ((header_by (incoming_of t.link p)).w ≡ false)
  -- 11: "a reply to this primary was accepted before, even if it failed"
  pub replied : RepliedBefore t.link.exchange p ↔ (has_ended (reply_stands t p) ≡ true)

abbrev pub ReadyPlaces : Type 0
ReadyPlaces = (t : Track) (p : ℕ) → ReadyRead t p

-- "at most one verdict and keeps it until released": the whole place is as it was
pub record EndStays (before after : Track) (p : ℕ) : Type 0 where
  pub place : incoming_place after.link.exchange p ≡ incoming_place before.link.exchange p
  pub read_of_it : incoming_of after.link p ≡ incoming_of before.link p
  pub shown : reply_stands after p ≡ reply_stands before p

abbrev pub OneEnd : Type 0
OneEnd = AtEach (λ t p. has_ended (reply_stands t p) ≡ true → (ms : List Made) → Unless (λ u m. FreesIncoming u m p) t ms → EndStays t (track t ms) p)
