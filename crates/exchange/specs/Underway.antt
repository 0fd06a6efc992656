-- What is on its way: the request of an own place, and our reply in an incoming place, each exactly while it is the message "being sent or
-- held"; and how a reply of ours ends. The proofs are in `proofs/Underway.antt` and `proofs/Replies.antt`.
use Rattle.std.specs.Prelude.{ℕ, ◌<◌, ◌≡◌, Bool, true, false, cond, List, ◌↔◌, ◌⊎◌, ◌≢◌, length}
use Rattle.settings.specs.declared.terms.Terms.{Terms}
use Rattle.place.specs.OwnHistory as own
use Rattle.place.specs.Incoming.{incoming_is_replied}
use Rattle.place.specs.declared.End.{End}
use Rattle.place.specs.declared.End.TheVariants as end
use Rattle.place.specs.declared.IncomingStage.{IncomingStage}
use Rattle.place.specs.declared.IncomingStage.TheVariants as stage
use Rattle.place.specs.declared.Incoming.{Incoming}
use Rattle.exchange.specs.Exchange.{incoming_place, sent_from}
use Rattle.exchange.specs.Reading.{incoming_reading, stage_by, has_ended}
use Rattle.exchange.specs.Request.{Request, primary, reply, freeing_own, freeing_incoming, answer_of}
use Rattle.exchange.specs.Rules.{Fours, OfReplyToSent}
use Rattle.exchange.specs.History.{Call, called, track, at_start}
use Rattle.exchange.specs.History as exchange
use Rattle.exchange.specs.Watching.{taken_at, reply_from, own_sees, OwnAt, watch, own_watch}
use Rattle.exchange.specs.declared.Exchange.{Exchange}
use Rattle.exchange.specs.declared.ReplyStage.{ReplyStage}
use Rattle.exchange.specs.declared.ReplyStage.TheVariants as reading

-- ---- a request

-- its last block was put out, or not yet
abbrev pub OnItsWay : own.Request → Type 0
OnItsWay r = (r ≡ own.underway) ⊎ (r ≡ own.out)

-- the onlooker of own place p has seen that a request is underway or out there, exactly while its primary is the message being sent
abbrev pub Underway : ℕ → Exchange → own.Seen → Type 0
Underway p x s = OnItsWay s.request ↔ (sent_from x.sending p ≡ true)

-- where it is so, it is after any call more
abbrev pub UnderwayOn : Type 0
UnderwayOn =
    (c : Terms) (x : Exchange) (room : List ℕ) → Fours x → (p : ℕ) → p < 4 → (s : own.Seen) → OwnAt c p x s → Underway p x s
    → (k : Call) → Underway p (called c x room k).exchange (own_sees c p x room s k)

-- and so it is after any calls from a fresh start
abbrev pub UnderwayExactly : Type 0
UnderwayExactly =
    (c : Terms) (last : ℕ) (room : List ℕ) → length room ≡ 36864 → (ks : List Call) (p : ℕ) → p < 4
    → Underway p (track c (at_start last room) ks).exchange (own_watch c p last room ks)

-- What a block makes of a request that is out: "proved received by its reply" (02, request 1).
pub record Proves (c : Terms) (x : Exchange) (room : List ℕ) (p : ℕ) (s : own.Seen) (h d : List ℕ) : Type 0 where
  -- one of the reply to it, by which its primary, the message being sent, is sent no more (`Leaves`, specs/Rules.antt), proves it
  pub proves : (w : OfReplyToSent c x h) → w.place ≡ p → (s.request ≡ own.out) × ((own_sees c p x room s (exchange.block h d)).request ≡ own.proved)
  -- and no other does
  pub only : s.request ≢ own.proved → (own_sees c p x room s (exchange.block h d)).request ≡ own.proved → (w : OfReplyToSent c x h) × (w.place ≡ p)

abbrev pub ProvedExactly : Type 0
ProvedExactly =
    (c : Terms) (x : Exchange) (room : List ℕ) → Fours x → (p : ℕ) → p < 4 → (s : own.Seen) → OwnAt c p x s → Underway p x s
    → (h d : List ℕ) → Proves c x room p s h d

-- ---- our reply: "A reply of ours ends sent or failed in its incoming place."

-- how far it is: none was accepted since the message came, it is on its way, it is at its end
pub data Way : Type 0 where
  none onway sent failed : Way

abbrev pub end_way : End → Way
end_way end.Sent = sent
end_way end.Failed = failed

abbrev pub way_at : IncomingStage → Way
way_at stage.Free = none
way_at (stage.Open a) = none
way_at (stage.Complete n) = none
way_at (stage.Replying n) = onway
way_at (stage.Replied n e) = end_way e

abbrev pub way : Incoming → Way
way i = way_at i.stage

abbrev pub is_onway : Way → Bool
is_onway none = false
is_onway onway = true
is_onway sent = false
is_onway failed = false

-- so a user reads it
abbrev pub way_of : ReplyStage → Way
way_of reading.NotOwed = none
way_of reading.Owed = none
way_of reading.OnItsWay = onway
way_of reading.Sent = sent
way_of reading.Failed = failed

pub record ReplyShown (x : Exchange) (p : ℕ) : Type 0 where
  pub stands : way_of (stage_by (incoming_reading x p)) ≡ way (incoming_place x p)
  pub ended : has_ended (stage_by (incoming_reading x p)) ≡ incoming_is_replied (incoming_place x p)

abbrev pub ReplyRead : Type 0
ReplyRead = (x : Exchange) (p : ℕ) → ReplyShown x p

-- ---- its onlooker

-- what is asked for was accepted for the place of this number: a reply, or the release; the others are for an own place
abbrev pub way_taken : Way → Request → Way
way_taken s (primary q d) = s
way_taken s (reply q f d) = onway
way_taken s (freeing_own q) = s
way_taken s (freeing_incoming q) = none

-- the message being sent was acknowledged, or failed: it was the reply of place p, or not
abbrev pub reply_sees : Terms → ℕ → Exchange → List ℕ → Way → Call → Way
reply_sees c p x room s (exchange.block h d) = s
reply_sees c p x room s exchange.tick = s
reply_sees c p x room s exchange.put_out = s
reply_sees c p x room s exchange.acknowledged = cond (reply_from x.sending p) sent s
reply_sees c p x room s exchange.failed = cond (reply_from x.sending p) failed s
reply_sees c p x room s (exchange.request r) = cond (taken_at (answer_of c x r room).answer.asked p) (way_taken s r) s

-- the reply in place p is as far as was seen, and it is on its way exactly while it is the message being sent
abbrev pub ReplyAt : ℕ → Exchange → Way → Type 0
ReplyAt p x s = (way (incoming_place x p) ≡ s) × (is_onway s ≡ reply_from x.sending p)

-- where it is so, it is after any call more
abbrev pub ReplyWatchedOn : Type 0
ReplyWatchedOn =
    (c : Terms) (x : Exchange) (room : List ℕ) → Fours x → (p : ℕ) → p < 4 → (s : Way) → ReplyAt p x s
    → (k : Call) → ReplyAt p (called c x room k).exchange (reply_sees c p x room s k)

-- and so it is after any calls from a fresh start
abbrev pub ReplyWatched : Type 0
ReplyWatched =
    (c : Terms) (last : ℕ) (room : List ℕ) → length room ≡ 36864 → (ks : List Call) (p : ℕ) → p < 4
    → ReplyAt p (track c (at_start last room) ks).exchange (watch c (reply_sees c p) (at_start last room) none ks)
