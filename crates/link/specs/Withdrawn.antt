-- When a message is being sent no more, exactly (01, "The line"; 02, request 1: "If the reply's first block is kept, or breaks the reply,
-- while that block is held, the held block is withdrawn and counts as sent"), over any calls from a start, refused ones among them, and what
-- leaves in the call in which a reply ends it. Each proof is in `proofs/withdrawn/`.
use Rattle.std.specs.Prelude.{ℕ, ◌<◌, ◌≡◌, true, List, [], ◌∷◌, ◌↔◌, ◌≢◌}
use Rattle.settings.specs.declared.limits.Limits.{Limits}
use Rattle.line.specs.Codes.{ENQ, ACK}
use Rattle.line.specs.History.{none}
use Rattle.exchange.specs.BeingSent.{NoneOrReport}
use Rattle.link.specs.Reading.{sending_of, message_of}
use Rattle.link.specs.History.{Made, Track, limits_in, answered, next}
use Rattle.link.specs.Inside.{Always}
use Rattle.link.specs.Door.{bytes_left, Watch, AtDoor}
use Rattle.link.specs.Moves.{GoesUp, Proves}
use Rattle.link.specs.Sends.{Sender, sender_seen, LastAck}
use Rattle.link.specs.Hearing.{since_seen, Fails}

-- a block of the reply to the primary of one of the four places came, while that primary's last block was out and not acknowledged, and was
-- kept (21) or broke the reply (27)
pub record ProvesOne (t : Track) (m : Made) : Type 0 where
  pub place : ℕ
  pub within : place < 4
  pub so : Proves t m place

-- what ends the sending of a message
pub data Over (c : Limits) (t : Track) (w : Watch) (since : ℕ) (s : Sender) (m : Made) : Type 0 where
  -- "ACK means sent": that of its last block
  sent : LastAck t s m → Over c t w since s m
  -- "Above RTY the send has failed"
  failed : Fails c w since t m → Over c t w since s m
  -- "proved received by its reply"
  proved : ProvesOne t m → Over c t w since s m

-- A message, or a report, that is "being sent or held" is so no more after a call exactly by one of these: else 7 goes on to refuse for it.
abbrev pub WithdrawnExactly : Type 0
WithdrawnExactly =
    (t : Track) (w : Watch) (a : AtDoor t w) (m : Made) → sending_of t.link ≡ true
    → (message_of (next t m).link ≢ message_of t.link) ↔ Over a.reached.settings.limits t w (since_seen t w a) (sender_seen t a.reached) m

-- No message of the caller's takes its place in that call: none is being sent then, or a report is (02, request 2).
abbrev pub ReportFollows : Type 0
ReportFollows =
    Always (λ t. (m : Made) → sending_of t.link ≡ true → message_of (next t m).link ≢ message_of t.link → NoneOrReport (message_of (next t m).link))

-- "Nothing changes for a master, which takes in nothing while it waits."
abbrev pub MasterProvesNone : Type 0
MasterProvesNone = Always (λ t. (limits_in t).master ≡ true → (m : Made) → ProvesOne t m → ⊥)

-- A block that goes up while a message is being sent finds it held: a block of the far end is received, and none of ours is under way. If it
-- proves the message received, ACK leaves alone; else the held block's ENQ leaves behind it.
pub record HeldGets (t : Track) (w : Watch) (m : Made) : Type 0 where
  pub held : w.ours ≡ none
  pub receiving : w.theirs ≡ true
  pub alone : ProvesOne t m → bytes_left (answered t m) ≡ ACK ∷ []
  pub followed : (ProvesOne t m → ⊥) → bytes_left (answered t m) ≡ ACK ∷ ENQ ∷ []

abbrev pub AckAlone : Type 0
AckAlone =
    (t : Track) (w : Watch) → AtDoor t w → (m : Made) (h d : List ℕ) → sending_of t.link ≡ true → GoesUp t m h d → HeldGets t w m
