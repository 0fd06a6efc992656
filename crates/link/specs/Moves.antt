-- How one call of the unit moves what the onlookers of the places have seen, which note it answers and which flags it raises: so what
-- is said by these readings (`specs/Verdicts.antt`) is said of answers and of what a call tells the transactions; what the line has to do
-- with that is `specs/Device.antt`. Each proof is in `proofs/`.
use Rattle.std.specs.Prelude.{ℕ, ◌+◌, ◌≤◌, ◌<◌, ◌≡◌, Bool, true, false, List, [], ◌∷◌, ◌++◌, ◌↔◌, ◌⊎◌, ◌≢◌, length}
use Rattle.header.specs.Header.{InRange, header_of}
use Rattle.header.specs.declared.header.Header.{Header}
use Rattle.settings.specs.declared.terms.Terms.{Terms}
use Rattle.line.specs.declared.phase.Fault.TheVariants as fault
use Rattle.line.specs.declared.step.Remark.{Remark}
use Rattle.line.specs.declared.step.Remark.TheVariants as remark
use Rattle.place.specs.OwnHistory as own
use Rattle.place.specs.IncomingHistory as incoming
use Rattle.place.specs.IncomingTheorems.{TicksOne}
use Rattle.exchange.specs.Exchange.{own_place, incoming_place, sent_from}
use Rattle.exchange.specs.Flags.{no_flags}
use Rattle.exchange.specs.Request.{primary, reply, primary_header}
use Rattle.exchange.specs.History as exchange
use Rattle.exchange.specs.Refusals.{number_given, AsAsked}
use Rattle.exchange.specs.Rules.{LowestAt, OfReply, OfMessage, ReplyHere, MessageHere, AlikeAt, FreeAt, AlikeHere, Ruled}
use Rattle.exchange.specs.Theorems.{ThrowsOut as BlockThrowsOut, Flagged}
use Rattle.exchange.specs.Underway.{OnItsWay}
use Rattle.exchange.specs.Watching.{reply_from, accepted_as, freed_seen}
use Rattle.exchange.specs.declared.Exchange.{Exchange}
use Rattle.exchange.specs.declared.ReplyStage.{ReplyStage}
use Rattle.exchange.specs.declared.ReplyStage.TheVariants as stage
use Rattle.exchange.specs.declared.Primary.{Primary}
use Rattle.link.specs.Answer.{accepted, note_number}
use Rattle.link.specs.History.{Call, byte, tick, drained, request, Made, step_in, lent_room, Track, terms_in, answered, on_exchange_in, next}
use Rattle.link.specs.Inside.{Always}
use Rattle.link.specs.Verdicts.{AtEach, Accepted, Tells, FreesOwn, FreesIncoming, reply_stands}
use Rattle.link.specs.declared.Outcome.TheVariants as outcome

-- ---- what comes of a call

-- it was refused
abbrev pub Refused : Track → Made → Type 0
Refused t m = accepted (answered t m).answer.outcome ≡ false

-- 0.1 s passed: "a refused call is no tick"
abbrev pub Ticks : Track → Made → Type 0
Ticks t m = Tells t m exchange.tick

-- the number of its note
abbrev pub noted : Track → Made → ℕ
noted t m = note_number (answered t m).answer.note

-- a block went up in it, with these ten header bytes and this data
abbrev pub GoesUp : Track → Made → List ℕ → List ℕ → Type 0
GoesUp t m h d = Tells t m (exchange.block h d)

-- ---- what a call is to own place p

-- a primary was accepted, and this is its place
pub record Opens (t : Track) (m : Made) (p : ℕ) (q : Primary) : Type 0 where
  pub rest : List ℕ
  pub told : Tells t m (exchange.request (primary q rest))
  pub place : (answered t m).answer.outcome ≡ outcome.Taken p

-- the last block of its primary was put out, at the first attempt or again
pub record PutsOut (t : Track) (m : Made) (p : ℕ) : Type 0 where
  pub told : Tells t m exchange.put_out
  pub of_it : sent_from t.link.exchange.sending p ≡ true

-- the first time, and the primary asks for a reply
pub record FirstOut (t : Track) (m : Made) (p : ℕ) : Type 0 where
  pub puts_out : PutsOut t m p
  pub before : (t.own p).request ≡ own.underway
  pub wanted : (t.own p).header.w ≡ true

-- the last block of its primary was acknowledged
pub record Acknowledges (t : Track) (m : Made) (p : ℕ) : Type 0 where
  pub told : Tells t m exchange.acknowledged
  pub of_it : sent_from t.link.exchange.sending p ≡ true

-- a block of its primary failed
pub record Loses (t : Track) (m : Made) (p : ℕ) : Type 0 where
  pub told : Tells t m exchange.failed
  pub of_it : sent_from t.link.exchange.sending p ≡ true

-- a block of its reply went up, and was noted n
pub record RepliedTo (t : Track) (m : Made) (p n : ℕ) (h d : List ℕ) : Type 0 where
  pub up : GoesUp t m h d
  pub note : noted t m ≡ n
  pub of_it : LowestAt (λ q. OfReply (own_place t.link.exchange q) (header_of h)) p

-- a block of the reply came while the last block of its primary was out and not acknowledged, and was kept, or broke the reply: "proved
-- received by its reply" (02, request 1)
pub record Proves (t : Track) (m : Made) (p : ℕ) : Type 0 where
  pub before : (t.own p).request ≡ own.out
  pub header : List ℕ
  pub rest : List ℕ
  pub note : ℕ
  pub either : (note ≡ 21) ⊎ (note ≡ 27)
  pub came : RepliedTo t m p note header rest

-- ---- how the onlooker of own place p moves

-- one tick more since the ACK, and since the last block kept
abbrev pub passed : own.Seen → own.Seen
passed s =
    record { request = s.request; header = s.header; kept = s.kept; bytes = s.bytes; spoilt = s.spoilt; since = s.since + 1; quiet = s.quiet + 1 }

-- the request is underway, with this header
abbrev pub underway_with : own.Seen → Header → own.Seen
underway_with s h =
    record { request = own.underway; header = h; kept = s.kept; bytes = s.bytes; spoilt = s.spoilt; since = s.since; quiet = s.quiet }

-- All that a call can be to this onlooker, and what it has then seen.
pub data OwnStep (t : Track) (m : Made) (p : ℕ) : own.Seen → Type 0 where
  same : (Ticks t m → ⊥) → OwnStep t m p (t.own p)
  passes : Ticks t m → OwnStep t m p (passed (t.own p))
  -- a send fails by a byte, or by a tick
  loses : (Ticks t m → ⊥) → Loses t m p → OwnStep t m p (own.at (t.own p) own.lost)
  loses_passing : Ticks t m → Loses t m p → OwnStep t m p (passed (own.at (t.own p) own.lost))
  opens : (q : Primary) (w : Opens t m p q) → OwnStep t m p (underway_with (t.own p) (accepted_as (terms_in t) t.link.exchange q (length w.rest)))
  -- all counts start with the first time that the last block is out, and anew with its ACK
  goes_out : FirstOut t m p → OwnStep t m p (own.counting (t.own p) own.out)
  acknowledges : Acknowledges t m p → OwnStep t m p (own.counting (t.own p) own.acknowledged)
  frees : FreesOwn t m p → OwnStep t m p (own.at (t.own p) own.none)
  -- "Kept: note 21."
  keeps : (h d : List ℕ) → RepliedTo t m p 21 h d → OwnStep t m p (own.answered own.kept (t.own p) (header_of h) (length d))
  -- 26 and 27: "An open message, or awaited reply, ends broken."
  spoils : (n : ℕ) (h d : List ℕ) → (n ≡ 26) ⊎ (n ≡ 27) → RepliedTo t m p n h d
      → OwnStep t m p (own.answered own.spoilt (t.own p) (header_of h) (length d))

-- What a block that is kept adds: its header behind those before it, and its data; "With E = 0, T4 restarts."
pub record KeepsOne (before after : own.Seen) (b : Header) (size : ℕ) : Type 0 where
  pub kept : after.kept ≡ before.kept ++ (b ∷ [])
  pub bytes : after.bytes ≡ before.bytes + size
  pub spoilt : after.spoilt ≡ before.spoilt
  pub quiet : after.quiet ≡ 0

-- what one that breaks the reply does: nothing of it is kept
pub record SpoilsOne (before after : own.Seen) : Type 0 where
  pub kept : after.kept ≡ before.kept
  pub bytes : after.bytes ≡ before.bytes
  pub spoilt : after.spoilt ≡ true

-- what a tick leaves of the blocks seen, whether or not a send failed in it: all as it was
pub record BlocksStay (before after : own.Seen) : Type 0 where
  pub kept : after.kept ≡ before.kept
  pub bytes : after.bytes ≡ before.bytes
  pub spoilt : after.spoilt ≡ before.spoilt

-- where counts start: no block was seen, and "A timer starts at 0"
pub record NoneCounted (after : own.Seen) : Type 0 where
  pub kept : after.kept ≡ []
  pub bytes : after.bytes ≡ 0
  pub spoilt : after.spoilt ≡ false
  pub since : after.since ≡ 0
  pub quiet : after.quiet ≡ 0

-- the request came to this in the call
pub record Becomes (t : Track) (m : Made) (p : ℕ) (r : own.Request) : Type 0 where
  pub before : (t.own p).request ≢ r
  pub after : ((next t m).own p).request ≡ r

pub record OwnMoves (t : Track) (m : Made) (p : ℕ) : Type 0 where
  -- it is one of those, and no other
  pub one_of : OwnStep t m p ((next t m).own p)
  -- "a refused call is no tick and no byte in any rule or limit"
  pub refused : Refused t m → (next t m).own p ≡ t.own p
  -- each tick adds one to the ticks since the ACK, and to those since the last block kept
  pub ticked : Ticks t m → (((next t m).own p).since ≡ (t.own p).since + 1) × (((next t m).own p).quiet ≡ (t.own p).quiet + 1)
  -- and no block comes by it
  pub ticks_keep : Ticks t m → BlocksStay (t.own p) ((next t m).own p)
  -- nothing else changes the ticks since the ACK, but that ACK, or the reply's block in its stead, from which they are counted; and, before
  -- either, the put-out
  pub since_kept : (Ticks t m → ⊥) → (FirstOut t m p → ⊥) → (Acknowledges t m p → ⊥) → (Proves t m p → ⊥) → ((next t m).own p).since ≡ (t.own p).since
  -- nor does anything else change those since the last block kept, but a block that is kept
  pub quiet_kept :
      (Ticks t m → ⊥) → (FirstOut t m p → ⊥) → (Acknowledges t m p → ⊥) → ((h d : List ℕ) → RepliedTo t m p 21 h d → ⊥)
      → ((next t m).own p).quiet ≡ (t.own p).quiet
  -- the header is that of the request which was accepted: no other call changes it
  pub header_stays : ((q : Primary) → Opens t m p q → ⊥) → ((next t m).own p).header ≡ (t.own p).header
  -- a request is underway from the call in which it is accepted, with the header as it was asked for and the number given
  pub opened :
      (q : Primary) (w : Opens t m p q)
      → ((t.own p).request ≡ own.none)
      × ((next t m).own p ≡ underway_with (t.own p) (accepted_as (terms_in t) t.link.exchange q (length w.rest)))
  pub opened_only : Becomes t m p own.underway → (q : Primary) × Opens t m p q
  -- out exactly from the first time that the last block of a primary with W = 1 is put out
  pub out : Becomes t m p own.out ↔ FirstOut t m p
  pub counts_blocks : FirstOut t m p → (next t m).own p ≡ own.counting (t.own p) own.out
  pub outs_one : FirstOut t m p → NoneCounted ((next t m).own p)
  -- a further attempt changes nothing
  pub again : PutsOut t m p → (t.own p).request ≡ own.out → (next t m).own p ≡ t.own p
  -- acknowledged exactly from the ACK of its last block
  pub acknowledged : Becomes t m p own.acknowledged ↔ Acknowledges t m p
  pub counts_start : Acknowledges t m p → (next t m).own p ≡ own.counting (t.own p) own.acknowledged
  -- "T3 runs, from the ACK"
  pub acks_one : Acknowledges t m p → NoneCounted ((next t m).own p)
  -- proved received exactly from a block of the reply that comes before that, noted 21 or 27; ticks are counted from it
  pub proved : Becomes t m p own.proved ↔ Proves t m p
  pub counts_ticks : Proves t m p → ((next t m).own p).since ≡ 0
  -- lost exactly once the send of a block of it has failed
  pub lost : Becomes t m p own.lost ↔ Loses t m p
  -- gone exactly with the release
  pub released : Becomes t m p own.none ↔ FreesOwn t m p
  pub released_so : FreesOwn t m p → (next t m).own p ≡ own.at (t.own p) own.none
  -- a block is kept exactly if it went up, was noted 21 and is of this place's reply; its data is joined
  pub kept :
      (h d : List ℕ) → RepliedTo t m p 21 h d
      → ((next t m).own p ≡ own.answered own.kept (t.own p) (header_of h) (length d)) × ((next t m).joined.replies p ≡ t.joined.replies p ++ d)
  pub keeps_one : (h d : List ℕ) → RepliedTo t m p 21 h d → KeepsOne (t.own p) ((next t m).own p) (header_of h) (length d)
  pub kept_only :
      (b : Header) → ((next t m).own p).kept ≡ (t.own p).kept ++ (b ∷ [])
      → (h : List ℕ) × (d : List ℕ) × RepliedTo t m p 21 h d × (header_of h ≡ b)
  -- one breaks the reply exactly if it was noted 26 or 27
  pub spoilt :
      (n : ℕ) (h d : List ℕ) → (n ≡ 26) ⊎ (n ≡ 27) → RepliedTo t m p n h d
      → (next t m).own p ≡ own.answered own.spoilt (t.own p) (header_of h) (length d)
  pub spoils_one : (n : ℕ) (h d : List ℕ) → (n ≡ 26) ⊎ (n ≡ 27) → RepliedTo t m p n h d → SpoilsOne (t.own p) ((next t m).own p)
  pub spoilt_only :
      (t.own p).spoilt ≡ false → ((next t m).own p).spoilt ≡ true
      → (n : ℕ) × (h : List ℕ) × (d : List ℕ) × ((n ≡ 26) ⊎ (n ≡ 27)) × RepliedTo t m p n h d

abbrev pub OwnSeen : Type 0
OwnSeen = AtEach (λ t p. (m : Made) → OwnMoves t m p)

-- A request is underway or out exactly while its primary is the message "being sent or held".
abbrev pub UnderwayExactly : Type 0
UnderwayExactly = AtEach (λ t p. OnItsWay (t.own p).request ↔ (sent_from t.link.exchange.sending p ≡ true))

-- The header of an accepted request is as it was asked for, with the number given.
abbrev pub HeaderAsAsked : Type 0
HeaderAsAsked =
    (c : Terms) (x : Exchange) (q : Primary) (n : ℕ)
    → InRange (primary_header c q n (number_given x)) → AsAsked c q n (number_given x) (accepted_as c x q n)

-- ---- how the onlooker of incoming place p moves

-- a further block of its message went up, and was noted n
pub record Continued (t : Track) (m : Made) (p n : ℕ) (h d : List ℕ) : Type 0 where
  pub up : GoesUp t m h d
  pub note : noted t m ≡ n
  pub no_reply : ReplyHere t.link.exchange (header_of h) → ⊥
  pub of_it : LowestAt (λ q. OfMessage (incoming_place t.link.exchange q) (header_of h)) p

-- "throws that one out and takes its place .. Otherwise it takes the lowest free incoming place"
abbrev pub TakesPlace : Exchange → Header → ℕ → Type 0
TakesPlace x b p = LowestAt (AlikeAt x b) p ⊎ ((AlikeHere x b → ⊥) × LowestAt (FreeAt x) p)

-- the first block of a message went up, was noted 21, and took this place
pub record Began (t : Track) (m : Made) (p : ℕ) (h d : List ℕ) : Type 0 where
  pub up : GoesUp t m h d
  pub note : noted t m ≡ 21
  pub no_reply : ReplyHere t.link.exchange (header_of h) → ⊥
  pub no_message : MessageHere t.link.exchange (header_of h) → ⊥
  pub place : TakesPlace t.link.exchange (header_of h) p

-- one tick more since the last block kept
abbrev pub quieter : incoming.Seen → incoming.Seen
quieter s = record { begun = s.begun; kept = s.kept; bytes = s.bytes; spoilt = s.spoilt; quiet = s.quiet + 1 }

-- All that a call can be to this onlooker, and what it has then seen.
pub data IncomingStep (t : Track) (m : Made) (p : ℕ) : incoming.Seen → Type 0 where
  same : (Ticks t m → ⊥) → IncomingStep t m p (t.incoming p)
  passes : Ticks t m → IncomingStep t m p (quieter (t.incoming p))
  begins : (h d : List ℕ) → Began t m p h d → IncomingStep t m p (incoming.sees_first own.kept (t.incoming p) (header_of h) (length d))
  keeps : (h d : List ℕ) → Continued t m p 21 h d → IncomingStep t m p (incoming.sees_next own.kept (t.incoming p) (header_of h) (length d))
  spoils : (n : ℕ) (h d : List ℕ) → (n ≡ 26) ⊎ (n ≡ 27) → Continued t m p n h d
      → IncomingStep t m p (incoming.sees_next own.spoilt (t.incoming p) (header_of h) (length d))
  frees : FreesIncoming t m p → IncomingStep t m p (freed_seen (t.incoming p))

-- What the first block adds, a further one that is kept, and one that breaks the message.
pub record BeginsOne (after : incoming.Seen) (b : Header) (size : ℕ) : Type 0 where
  pub begun : after.begun ≡ true
  pub kept : after.kept ≡ b ∷ []
  pub bytes : after.bytes ≡ size
  pub spoilt : after.spoilt ≡ false
  pub quiet : after.quiet ≡ 0

pub record ContinuesOne (before after : incoming.Seen) (b : Header) (size : ℕ) : Type 0 where
  pub begun : after.begun ≡ before.begun
  pub kept : after.kept ≡ before.kept ++ (b ∷ [])
  pub bytes : after.bytes ≡ before.bytes + size
  pub spoilt : after.spoilt ≡ before.spoilt
  pub quiet : after.quiet ≡ 0

pub record BreaksOne (before after : incoming.Seen) : Type 0 where
  pub begun : after.begun ≡ before.begun
  pub kept : after.kept ≡ before.kept
  pub bytes : after.bytes ≡ before.bytes
  pub spoilt : after.spoilt ≡ true

-- It is one of those and no other, and each is what it says; the data of a block that is kept is joined.
pub record IncomingMoves (t : Track) (m : Made) (p : ℕ) : Type 0 where
  pub one_of : IncomingStep t m p ((next t m).incoming p)
  pub refused : Refused t m → (next t m).incoming p ≡ t.incoming p
  pub ticked : Ticks t m → (next t m).incoming p ≡ quieter (t.incoming p)
  pub begun :
      (h d : List ℕ) → Began t m p h d
      → ((next t m).incoming p ≡ incoming.sees_first own.kept (t.incoming p) (header_of h) (length d)) × ((next t m).joined.messages p ≡ d)
  pub kept :
      (h d : List ℕ) → Continued t m p 21 h d
      → ((next t m).incoming p ≡ incoming.sees_next own.kept (t.incoming p) (header_of h) (length d))
      × ((next t m).joined.messages p ≡ t.joined.messages p ++ d)
  pub spoilt :
      (n : ℕ) (h d : List ℕ) → (n ≡ 26) ⊎ (n ≡ 27) → Continued t m p n h d
      → (next t m).incoming p ≡ incoming.sees_next own.spoilt (t.incoming p) (header_of h) (length d)
  pub released : FreesIncoming t m p → (next t m).incoming p ≡ freed_seen (t.incoming p)
  -- in plain words
  pub ticks_one : Ticks t m → TicksOne (t.incoming p) ((next t m).incoming p)
  pub begins_one : (h d : List ℕ) → Began t m p h d → BeginsOne ((next t m).incoming p) (header_of h) (length d)
  pub continues_one : (h d : List ℕ) → Continued t m p 21 h d → ContinuesOne (t.incoming p) ((next t m).incoming p) (header_of h) (length d)
  pub breaks_one :
      (n : ℕ) (h d : List ℕ) → (n ≡ 26) ⊎ (n ≡ 27) → Continued t m p n h d → BreaksOne (t.incoming p) ((next t m).incoming p)
  -- nothing else changes the ticks since the last block kept
  pub quiet_kept :
      (Ticks t m → ⊥) → ((h d : List ℕ) → Began t m p h d → ⊥) → ((h d : List ℕ) → Continued t m p 21 h d → ⊥)
      → ((next t m).incoming p).quiet ≡ (t.incoming p).quiet

abbrev pub IncomingSeen : Type 0
IncomingSeen = AtEach (λ t p. (m : Made) → IncomingMoves t m p)

-- ---- how our reply in incoming place p ends

-- it was accepted
pub record Answers (t : Track) (m : Made) (p : ℕ) : Type 0 where
  pub function : ℕ
  pub rest : List ℕ
  pub told : Tells t m (exchange.request (reply p function rest))

-- its last block was acknowledged; a block of it failed
pub record ReplySent (t : Track) (m : Made) (p : ℕ) : Type 0 where
  pub told : Tells t m exchange.acknowledged
  pub of_it : reply_from t.link.exchange.sending p ≡ true

pub record ReplyLost (t : Track) (m : Made) (p : ℕ) : Type 0 where
  pub told : Tells t m exchange.failed
  pub of_it : reply_from t.link.exchange.sending p ≡ true

-- it came to this in the call
pub record Comes (t : Track) (m : Made) (p : ℕ) (r : ReplyStage) : Type 0 where
  pub before : reply_stands t p ≢ r
  pub after : reply_stands (next t m) p ≡ r

pub record ReplyMoves (t : Track) (m : Made) (p : ℕ) : Type 0 where
  pub on_its_way : Comes t m p stage.OnItsWay ↔ Answers t m p
  pub sent : Comes t m p stage.Sent ↔ ReplySent t m p
  pub failed : Comes t m p stage.Failed ↔ ReplyLost t m p

abbrev pub ReplyEnds : Type 0
ReplyEnds = AtEach (λ t p. (m : Made) → ReplyMoves t m p)

-- ---- strays and duplicates

-- "no stray byte or duplicate block from the far end puts these limits off"
pub data Stray (t : Track) (m : Made) : Type 0 where
  -- a byte with which no block went up and no send ended
  dropped : (b : ℕ) (fits : b < 256) → m.call ≡ byte b fits → on_exchange_in t m ≡ [] → Stray t m
  -- a block that was noted 22, 23, 24 or 25
  thrown_out : 22 ≤ noted t m → noted t m ≤ 25 → Stray t m

-- every place, and all that was seen of it, is as it was: so no count is put back
pub record PlacesStay (before after : Track) : Type 0 where
  pub own : (p : ℕ) → own_place after.link.exchange p ≡ own_place before.link.exchange p
  pub own_seen : (p : ℕ) → after.own p ≡ before.own p
  pub incoming : (p : ℕ) → incoming_place after.link.exchange p ≡ incoming_place before.link.exchange p
  pub incoming_seen : (p : ℕ) → after.incoming p ≡ before.incoming p

abbrev pub StrayLeaves : Type 0
StrayLeaves = (t : Track) (m : Made) → Stray t m → PlacesStay t (next t m)

-- "note 23; no timer, place or byte of room changes": nothing of the transactions does
pub record AllStays (t : Track) (m : Made) : Type 0 where
  pub exchange : (next t m).link.exchange ≡ t.link.exchange
  pub room : (answered t m).room ≡ lent_room m.room t.room

abbrev pub DuplicateLeaves : Type 0
DuplicateLeaves = (t : Track) (m : Made) → noted t m ≡ 23 → AllStays t m

-- "note 22, saved header kept": nothing does either, but what a report changes (02, request 2), and at a host nothing at all
pub record MisroutedStays (t : Track) (m : Made) : Type 0 where
  pub own : (next t m).link.exchange.own ≡ t.link.exchange.own
  pub incoming : (next t m).link.exchange.incoming ≡ t.link.exchange.incoming
  pub saved : (next t m).link.exchange.saved ≡ t.link.exchange.saved
  pub latest : (next t m).link.exchange.numbers.latest ≡ t.link.exchange.numbers.latest
  pub room : (answered t m).room ≡ lent_room m.room t.room
  pub host : (terms_in t).host ≡ true → AllStays t m

abbrev pub MisroutedLeaves : Type 0
MisroutedLeaves = (t : Track) (m : Made) → noted t m ≡ 22 → MisroutedStays t m

-- Any byte with which no block goes up leaves each own place as it is but that of the primary being sent: so the far end's bytes touch
-- no request that is acknowledged, but by a block of its reply.
abbrev pub ByteElsewhere : Type 0
ByteElsewhere =
    AtEach (λ t p.
    (m : Made) (b : ℕ) (fits : b < 256) → m.call ≡ byte b fits → ((h d : List ℕ) → GoesUp t m h d → ⊥)
    → sent_from t.link.exchange.sending p ≡ false
    → (own_place (next t m).link.exchange p ≡ own_place t.link.exchange p) × ((next t m).own p ≡ t.own p))

-- ---- notes

-- the line remarks this in it
pub record Remarks (t : Track) (m : Made) (r : Remark) : Type 0 where
  pub accepted : Accepted t m
  pub remark : (step_in t.link m.call).step.remark ≡ r

-- a remark that has no note
abbrev pub unnoted : Remark → Bool
unnoted remark.Nothing = true
unnoted remark.GaveWay = true
unnoted remark.NoLength = false
unnoted remark.Gap = false
unnoted (remark.Bad fault) = false

pub data Noted (t : Track) (m : Made) : ℕ → Type 0 where
  -- "A refusal reports .. note 20"
  refused : Refused t m → Noted t m 20
  -- "20 nothing"
  nothing : (r : Remark) → ((h d : List ℕ) → GoesUp t m h d → ⊥) → Remarks t m r → unnoted r ≡ true → Noted t m 20
  -- "21 to 27 above": by the rule of exchange/specs/Rules.antt
  block : (h d : List ℕ) (n : ℕ) → GoesUp t m h d → Ruled (terms_in t) t.link.exchange h d n → Noted t m n
  -- "and with a NAK 28 no length in T2, 29 gap in body, 30 bad length, 31 bad sum"
  no_length : Remarks t m remark.NoLength → Noted t m 28
  gap : Remarks t m remark.Gap → Noted t m 29
  bad_length : Remarks t m (remark.Bad fault.Length) → Noted t m 30
  bad_sum : (came counted : ℕ) → Remarks t m (remark.Bad (fault.Sum came counted)) → Noted t m 31

-- Each note exactly then.
abbrev pub NotesLifted : Type 0
NotesLifted = Always (λ t. (m : Made) (n : ℕ) → (noted t m ≡ n) ↔ Noted t m n)

-- ---- flags

-- "Calls: one byte in, one tick, drained"
abbrev pub on_the_line : Call → Bool
on_the_line (byte b fits) = true
on_the_line tick = true
on_the_line drained = true
on_the_line (request r) = false

-- 6: a new primary went up that "throws that one out and takes its place": the open message in incoming place p
pub record ThrowsOut (t : Track) (m : Made) (p : ℕ) : Type 0 where
  pub header : List ℕ
  pub rest : List ℕ
  pub up : GoesUp t m header rest
  pub out : BlockThrowsOut (terms_in t) t.link.exchange header rest p

-- "flags for places that got a verdict, completed or were dropped", each exactly then: from what the places are before and after the
-- call, and which open message was thrown out
pub record FlagsSay (t : Track) (m : Made) : Type 0 where
  pub line :
      Accepted t m → on_the_line m.call ≡ true
      → Flagged t.link.exchange (next t m).link.exchange (ThrowsOut t m) (answered t m).answer.flags
  pub refused : Refused t m → (answered t m).answer.flags ≡ no_flags
  pub request : on_the_line m.call ≡ false → (answered t m).answer.flags ≡ no_flags

abbrev pub FlagsLifted : Type 0
FlagsLifted = Always (λ t. (m : Made) → FlagsSay t m)
