-- What is proved of an incoming place over every list of events from a fresh start, in the words of the onlooker
-- (`specs/IncomingHistory.antt`). Each proof is in `proofs/`.
use Rattle.std.specs.Prelude.{◌+◌, ◌≤◌, ◌<◌, ◌≡◌, Bool, true, false, List, ◌↔◌, ◌⊎◌, length}
use Rattle.header.specs.declared.header.Header.{Header}
use Rattle.settings.specs.declared.terms.Terms.{Terms}
use Rattle.place.specs.Message.{Continues, Whole, first_of}
use Rattle.place.specs.Incoming.{primary_of, incoming_length, incoming_is_free, incoming_is_open, incoming_is_complete, incoming_is_replied, incoming_takes, incoming_answered, incoming_sent, incoming_failed, incoming_released}
use Rattle.place.specs.Range.{incoming_in_range}
use Rattle.place.specs.IncomingHistory.{Event, begin, block, tick, answer, sent, failed, release, Shows, nothing, arriving, complete, replying, replied, shows, step, Seen, sees, Track, track, at_start}
use Rattle.place.specs.declared.End.{End}
use Rattle.place.specs.declared.End.TheVariants as end
use Rattle.place.specs.declared.Incoming.{Incoming}

-- what any events at a fresh place leave
pub record Reached (c : Terms) (t : Track) : Type 0 where
  pub events : List (Event c)
  pub so : track at_start events ≡ t

-- a complete message, whatever became of our reply
abbrev pub is_complete : Shows → Bool
is_complete nothing = false
is_complete arriving = false
is_complete complete = true
is_complete replying = true
is_complete (replied e) = true

-- "T4 beyond its limit breaks the message", and so does a block noted 26 or 27
abbrev pub Breaks : Terms → Seen → Type 0
Breaks c s = (s.spoilt ≡ true) ⊎ (c.t4.0 < s.quiet)

-- "each later tick adds 1": a tick adds one to the ticks since the last block kept, and changes nothing else that was seen.
pub record TicksOne (before after : Seen) : Type 0 where
  pub begun : after.begun ≡ before.begun
  pub kept : after.kept ≡ before.kept
  pub bytes : after.bytes ≡ before.bytes
  pub spoilt : after.spoilt ≡ before.spoilt
  pub quiet : after.quiet ≡ before.quiet + 1

-- Each tick does, at any place and whatever was seen of it: T4's limit is in these ticks.
abbrev pub IncomingTicked : Type 0
IncomingTicked = (c : Terms) (i : Incoming) (s : Seen) → TicksOne s (sees {c = c} i s tick)

-- What a place shows, exactly when.
pub record ShowsExactly (c : Terms) (t : Track) : Type 0 where
  -- complete: the blocks kept since it began are a whole message
  pub whole : (is_complete (shows t.incoming) ≡ true) ↔ ((t.seen.begun ≡ true) × Whole t.seen.kept)
  -- open: they are not yet, and nothing broke it
  pub open_yet : (shows t.incoming ≡ arriving) ↔ ((t.seen.begun ≡ true) × (Whole t.seen.kept → ⊥) × (Breaks c t.seen → ⊥))
  -- free: none began since the last release, or it was broken before it was whole
  pub none : (shows t.incoming ≡ nothing) ↔ ((t.seen.begun ≡ false) ⊎ ((t.seen.begun ≡ true) × (Whole t.seen.kept → ⊥) × Breaks c t.seen))

abbrev pub CompleteExactly : Type 0
CompleteExactly = (c : Terms) (t : Track) → Reached c t → ShowsExactly c t

-- The tests by which places are looked for, answered and released, of any place: they say what it shows.
pub record IncomingTested (i : Incoming) : Type 0 where
  pub free : (incoming_is_free i ≡ true) ↔ (shows i ≡ nothing)
  -- "open (not yet complete)"
  pub open_yet : (incoming_is_open i ≡ true) ↔ (shows i ≡ arriving)
  pub unanswered : (incoming_is_complete i ≡ true) ↔ (shows i ≡ complete)
  -- "even if it failed"
  pub ended : (incoming_is_replied i ≡ true) ↔ ((e : End) × (shows i ≡ replied e))
  -- no byte is kept where no message is
  pub none_kept : shows i ≡ nothing → incoming_length i ≡ 0

abbrev pub IncomingTests : Type 0
IncomingTests = (i : Incoming) → IncomingTested i

-- "Continues an open message": a block is for this place exactly if it has the number after the last block kept, and all else of them
abbrev pub TakesExactly : Type 0
TakesExactly =
    (c : Terms) (t : Track) → Reached c t → (h : Header)
    → (incoming_takes t.incoming h ≡ true) ↔ ((shows t.incoming ≡ arriving) × Continues (first_of t.seen.kept) (length t.seen.kept + 1) h)

-- header and length shown are those of the blocks kept
abbrev pub MessageShown : Type 0
MessageShown =
    (c : Terms) (t : Track) → Reached c t → (shows t.incoming ≡ nothing → ⊥)
    → (primary_of t.incoming ≡ first_of t.seen.kept) × (incoming_length t.incoming ≡ t.seen.bytes)

abbrev pub spares : {c : Terms} → Event c → Bool
spares (begin h size q b) = true
spares (block h size q) = true
spares tick = true
spares answer = true
spares sent = true
spares failed = true
spares release = false

-- A complete message stays as it is until it is released, and one reply is taken, which ends sent or failed there.
pub record StaysComplete (c : Terms) (i : Incoming) : Type 0 where
  pub kept : is_complete (shows i) ≡ true → (e : Event c) → spares e ≡ true → (is_complete (shows (step i e)) ≡ true) × ((step i e).header ≡ i.header) × (incoming_length (step i e) ≡ incoming_length i)
  pub taken : shows i ≡ complete → shows (incoming_answered i) ≡ replying
  pub ends_sent : shows i ≡ replying → shows (incoming_sent i) ≡ replied end.Sent
  pub ends_failed : shows i ≡ replying → shows (incoming_failed i) ≡ replied end.Failed
  pub on_its_way : shows i ≡ replying → incoming_released i ≡ i
  pub once : (e : End) → shows i ≡ replied e → incoming_answered i ≡ i
  pub freed : shows i ≡ complete → shows (incoming_released i) ≡ nothing
  pub freed_later : (e : End) → shows i ≡ replied e → shows (incoming_released i) ≡ nothing

abbrev pub CompleteStays : Type 0
CompleteStays = (c : Terms) (i : Incoming) → StaysComplete c i

-- ---- ranges

-- the incoming place's part of refusal 3: with T4 in 01's range, 120 s or 1,200 ticks at most, no place that is reached has a number
-- outside docs/STATE.md
abbrev pub IncomingReachedInRange : Type 0
IncomingReachedInRange = (c : Terms) → c.t4.0 ≤ 1200 → (t : Track) → Reached c t → incoming_in_range t.incoming ≡ true
