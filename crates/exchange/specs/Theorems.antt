-- What is proved of the transactions over every list of calls from a fresh start (`specs/History.antt`). Each proof is in `proofs/`.
-- The rules of judging are in `specs/Rules.antt`, the refusals in `specs/Refusals.antt`, the transaction numbers in `specs/Numbers.antt`,
-- what is being sent in `specs/BeingSent.antt` and `specs/Underway.antt`, what stays until a release in `specs/Releases.antt`.
use Rattle.std.specs.Prelude.{ℕ, ◌≤◌, ◌<◌, ◌≡◌, Bool, true, false, not, ◌&&◌, List, ◌↔◌, ◌⊎◌, length, get_or}
use Rattle.header.specs.Header.{header_of}
use Rattle.settings.specs.declared.terms.Terms.{Terms}
use Rattle.room.specs.Room.{front}
use Rattle.room.specs.declared.Message.{Message}
use Rattle.room.specs.declared.Message.TheVariants as message
use Rattle.place.specs.Own.{own_has_verdict, own_kept}
use Rattle.place.specs.OwnTheorems.{on_reply, Reached as OwnReached}
use Rattle.place.specs.OwnHistory.{Track as OwnTrack}
use Rattle.place.specs.IncomingTheorems.{Reached as IncomingReached}
use Rattle.place.specs.IncomingHistory.{Track as IncomingTrack}
use Rattle.place.specs.Incoming.{incoming_length, incoming_is_free, incoming_is_open, incoming_is_complete}
use Rattle.place.specs.declared.OwnStage.{OwnStage}
use Rattle.place.specs.declared.OwnStage.TheVariants as stage
use Rattle.place.specs.declared.Own.{Own}
use Rattle.place.specs.declared.Incoming.{Incoming}
use Rattle.exchange.specs.Flags.{no_flags}
use Rattle.exchange.specs.Exchange.{own_place, incoming_place}
use Rattle.exchange.specs.Tick.{tick_of}
use Rattle.exchange.specs.Send.{put_out_of, sent_of, failed_of}
use Rattle.exchange.specs.Judge.{judge_of}
use Rattle.exchange.specs.Rules.{LowestAt, AlikeAt, NewPrimary}
use Rattle.exchange.specs.Range.{exchange_in_range}
use Rattle.exchange.specs.History.{Call, Track, track, at_start}
use Rattle.exchange.specs.declared.Flags.{Flags}
use Rattle.exchange.specs.declared.Exchange.{Exchange}
use Rattle.exchange.specs.declared.Sending.{Sending}
use Rattle.exchange.specs.declared.Sending.TheVariants as sending

-- what any calls from a fresh start leave, with a room of 36,864 bytes
pub record Reached (c : Terms) (t : Track) : Type 0 where
  pub last : ℕ
  pub room : List ℕ
  pub whole : length room ≡ 36864
  pub calls : List Call
  pub so : track c (at_start last room) calls ≡ t

-- ---- the areas

-- the area of message m begins with bs, which are n bytes
pub record StartsWith (room : List ℕ) (m : Message) (n : ℕ) (bs : List ℕ) : Type 0 where
  pub size : n ≡ length bs
  pub bytes : front room m n ≡ bs

-- "After 2, 3 or 4", and while blocks of the reply are kept
abbrev pub has_reply : OwnStage → Bool
has_reply stage.Free = false
has_reply stage.Sending = false
has_reply stage.PutOut = false
has_reply (stage.Awaiting timer) = false
has_reply (stage.Replying a) = true
has_reply (stage.Done v r) = on_reply v

-- the length of the message being sent
abbrev pub length_sent : Sending → ℕ
length_sent sending.Nothing = 0
length_sent (sending.Primary p n) = n
length_sent (sending.Reply p f n) = n
length_sent (sending.Report f n) = 12

-- it is a primary or a reply, which the caller asked for: of a report nothing lies in the room
abbrev pub from_caller : Sending → Bool
from_caller sending.Nothing = false
from_caller (sending.Primary p n) = true
from_caller (sending.Reply p f n) = true
from_caller (sending.Report f n) = false

-- "After 2, 3 or 4, or once an incoming message is complete, its area begins with the data of the kept blocks joined": and so does
-- that of every reply and every message that is open; and the send area begins with the data of the primary or reply being sent.
pub record Areas (t : Track) : Type 0 where
  pub reply : (p : ℕ) → p < 4 → has_reply (own_place t.exchange p).stage ≡ true
      → StartsWith t.room (message.Reply p) (own_kept (own_place t.exchange p)).length (t.seen.replies p)
  pub incoming : (p : ℕ) → p < 4 → incoming_is_free (incoming_place t.exchange p) ≡ false
      → StartsWith t.room (message.Incoming p) (incoming_length (incoming_place t.exchange p)) (t.seen.messages p)
  pub outgoing : from_caller t.exchange.sending ≡ true → StartsWith t.room message.Send (length_sent t.exchange.sending) t.seen.outgoing

abbrev pub JoinedInAreas : Type 0
JoinedInAreas = (c : Terms) (t : Track) → Reached c t → Areas t

-- ---- the places

-- Each place inside goes through events of a place and nothing else: what is proved of a place over every list of its events holds
-- of it here.
pub record OwnInside (c : Terms) (o : Own) : Type 0 where
  pub track : OwnTrack
  pub reached : OwnReached c track
  pub so : track.own ≡ o

pub record IncomingInside (c : Terms) (i : Incoming) : Type 0 where
  pub track : IncomingTrack
  pub reached : IncomingReached c track
  pub so : track.incoming ≡ i

pub record Inside (c : Terms) (t : Track) : Type 0 where
  pub own : (p : ℕ) → p < 4 → OwnInside c (own_place t.exchange p)
  pub incoming : (p : ℕ) → p < 4 → IncomingInside c (incoming_place t.exchange p)

abbrev pub PlacesInside : Type 0
PlacesInside = (c : Terms) (t : Track) → Reached c t → Inside c t

-- ---- flags

-- flag p of four
abbrev pub flag_at : List Bool → ℕ → Bool
flag_at flags p = get_or flags p false

-- an own place got its verdict now
unfoldable pub became_given : Own → Own → Bool
became_given before after = not (own_has_verdict before) && own_has_verdict after

-- the message in a place became complete now
unfoldable pub became_complete : Incoming → Incoming → Bool
became_complete before after = not (incoming_is_complete before) && incoming_is_complete after

-- an open message is gone: its place is free now
pub record Dropped (before after : Incoming) : Type 0 where
  pub was_open : incoming_is_open before ≡ true
  pub is_free : incoming_is_free after ≡ true

-- 6: a new primary with these header bytes and this data "throws that one out and takes its place": the open message in place p
pub record ThrowsOut (c : Terms) (x : Exchange) (h d : List ℕ) (p : ℕ) : Type 0 where
  pub primary : NewPrimary c x h d
  pub alike : LowestAt (AlikeAt x (header_of h)) p

-- in a tick, where a block is put out and where a send ends, there is no new primary
abbrev pub none_thrown : ℕ → Type 0
none_thrown p = ⊥

-- "flags for places that got a verdict, completed or were dropped", each exactly then: from what the places are before and after the
-- call. An open message was dropped if its place is free after the call; or if a new primary was put in its place, which `ThrownOut`
-- tells, for the two may look alike.
pub record Flagged (before after : Exchange) (ThrownOut : ℕ → Type 0) (flags : Flags) : Type 0 where
  pub verdicts : (p : ℕ) → p < 4 → flag_at flags.verdicts p ≡ became_given (own_place before p) (own_place after p)
  pub completed : (p : ℕ) → p < 4 → flag_at flags.completed p ≡ became_complete (incoming_place before p) (incoming_place after p)
  pub dropped : (p : ℕ) → p < 4 → (flag_at flags.dropped p ≡ true) ↔ (Dropped (incoming_place before p) (incoming_place after p) ⊎ ThrownOut p)

-- of each call that answers flags
pub record FlagsTell (c : Terms) (x : Exchange) : Type 0 where
  pub judged : (h d room : List ℕ) → Flagged x (judge_of c x h d room).answer.exchange (ThrowsOut c x h d) (judge_of c x h d room).answer.flags
  pub ticked : Flagged x (tick_of c x).exchange none_thrown (tick_of c x).flags
  -- it answers none
  pub put_out : Flagged x (put_out_of x) none_thrown no_flags
  pub sent : Flagged x (sent_of x).exchange none_thrown (sent_of x).flags
  pub failed : Flagged x (failed_of x).exchange none_thrown (failed_of x).flags

abbrev pub FlagsExactly : Type 0
FlagsExactly = (c : Terms) (x : Exchange) → length x.own ≡ 4 → length x.incoming ≡ 4 → FlagsTell c x

-- ---- ranges

-- the transactions' part of refusal 3: with T3 and T4 in 01's range, no state that is reached has a number outside docs/STATE.md
abbrev pub ExchangeReachedInRange : Type 0
ExchangeReachedInRange =
    (c : Terms) → c.t3.0 ≤ 1200 → c.t4.0 ≤ 1200 → (t : Track) → Reached c t → exchange_in_range t.exchange ≡ true
