-- Events at an incoming place, in any order, and an onlooker who sees which events come, what becomes of each block, and what the
-- place shows.
use Rattle.std.specs.Prelude.{ℕ, ◌+◌, ◌≡◌, Bool, true, false, cond, List, [], ◌∷◌, ◌++◌}
use Rattle.header.specs.declared.header.Header.{Header}
use Rattle.settings.specs.declared.terms.Terms.{Terms}
use Rattle.place.specs.Fate.{fate_of, begins_primary}
use Rattle.place.specs.Message.{Routed}
use Rattle.place.specs.OwnHistory.{Answer, passed, kept, spoilt, answer_by}
use Rattle.place.specs.Incoming.{fresh_incoming, incoming_length, incoming_begun, incoming_tick, incoming_takes, incoming_offered, incoming_answered, incoming_sent, incoming_failed, incoming_released}
use Rattle.place.specs.declared.End.{End}
use Rattle.place.specs.declared.IncomingStage.{IncomingStage}
use Rattle.place.specs.declared.IncomingStage.TheVariants.{Free, Open, Complete, Replying, Replied}
use Rattle.place.specs.declared.Incoming.{Incoming}

-- A primary's first block, with its header and so many data bytes, begins here; a block that passed rule 1 comes; 0.1 s pass;
-- a reply is accepted, its last block is acknowledged, a block of it fails; the message is released.
pub data Event (c : Terms) : Type 0 where
  begin : (h : Header) (size : ℕ) → Routed c h → begins_primary h ≡ true → Event c
  block : (h : Header) (size : ℕ) → Routed c h → Event c
  tick answer sent failed release : Event c

abbrev pub step : {c : Terms} → Incoming → Event c → Incoming
step i (begin h size q b) = incoming_begun i h size
step i (block h size q) = incoming_offered i h size
step {c} i tick = incoming_tick c i
step i answer = incoming_answered i
step i sent = incoming_sent i
step i failed = incoming_failed i
step i release = incoming_released i

-- ---- what a place shows

-- nothing; an open message; a complete one; one with our reply on its way; one with our reply at its end
pub data Shows : Type 0 where
  nothing arriving complete replying : Shows
  replied : End → Shows

abbrev pub shows_at : IncomingStage → Shows
shows_at Free = nothing
shows_at (Open a) = arriving
shows_at (Complete n) = complete
shows_at (Replying n) = replying
shows_at (Replied n e) = replied e

abbrev pub shows : Incoming → Shows
shows i = shows_at i.stage

-- ---- what becomes of a block

-- a first block is kept where no complete message is
abbrev pub begins_at : Shows → Answer → Answer
begins_at nothing a = a
begins_at arriving a = a
begins_at complete a = passed
begins_at replying a = passed
begins_at (replied e) a = passed

unfoldable pub answer_first : Incoming → Header → ℕ → Answer
answer_first i h size = begins_at (shows i) (answer_by (fate_of h 0 size))

unfoldable pub answer_next : Incoming → Header → ℕ → Answer
answer_next i h size = cond (incoming_takes i h) (answer_by (fate_of h (incoming_length i) size)) passed

-- ---- the onlooker

pub record Seen : Type 0 where
  -- whether a message began and was not released since
  pub begun : Bool
  -- since it began: the headers of the blocks kept, their data bytes in all, whether one broke the message
  pub kept : List Header
  pub bytes : ℕ
  pub spoilt : Bool
  -- ticks since the last block kept
  pub quiet : ℕ

abbrev pub nothing_seen : Seen
nothing_seen = record { begun = false; kept = []; bytes = 0; spoilt = false; quiet = 0 }

-- a message begins with its first block, if that is kept; one that is not kept takes no place
abbrev pub sees_first : Answer → Seen → Header → ℕ → Seen
sees_first passed s h size = s
sees_first kept s h size = record { begun = true; kept = h ∷ []; bytes = size; spoilt = false; quiet = 0 }
sees_first spoilt s h size = s

abbrev pub sees_next : Answer → Seen → Header → ℕ → Seen
sees_next passed s h size = s
sees_next kept s h size = record { begun = s.begun; kept = s.kept ++ (h ∷ []); bytes = s.bytes + size; spoilt = s.spoilt; quiet = 0 }
sees_next spoilt s h size = record { begun = s.begun; kept = s.kept; bytes = s.bytes; spoilt = true; quiet = s.quiet }

-- a release is accepted of a complete message whose reply is not on its way
abbrev pub sees_release : Shows → Seen → Seen
sees_release nothing s = s
sees_release arriving s = s
sees_release complete s = record { begun = false; kept = s.kept; bytes = s.bytes; spoilt = s.spoilt; quiet = s.quiet }
sees_release replying s = s
sees_release (replied e) s = record { begun = false; kept = s.kept; bytes = s.bytes; spoilt = s.spoilt; quiet = s.quiet }

abbrev pub sees : {c : Terms} → Incoming → Seen → Event c → Seen
sees i s (begin h size q b) = sees_first (answer_first i h size) s h size
sees i s (block h size q) = sees_next (answer_next i h size) s h size
sees i s tick = record { begun = s.begun; kept = s.kept; bytes = s.bytes; spoilt = s.spoilt; quiet = s.quiet + 1 }
sees i s answer = s
sees i s sent = s
sees i s failed = s
sees i s release = sees_release (shows i) s

-- ---- any events at a fresh place

pub record Track : Type 0 where
  pub incoming : Incoming
  pub seen : Seen

abbrev pub next : {c : Terms} → Track → Event c → Track
next t e = record { incoming = step t.incoming e; seen = sees t.incoming t.seen e }

unfoldable pub track : {c : Terms} → Track → List (Event c) → Track
track t [] = t
track t (e ∷ es) = track (next t e) es

abbrev pub at_start : Track
at_start = record { incoming = fresh_incoming; seen = nothing_seen }
