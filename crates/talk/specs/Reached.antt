-- The unit that bench's lines are about (01, "Bench program and proved table"): it is one that was started, and of which the calls of lines
-- were made since, the room coming back as the last call left it. So what link proves of all that can be reached (`Always`,
-- link/specs/Inside.antt) holds of it behind every line: which place is free, which verdict a place has, that 3 is never answered.
-- Proved in `proofs/Reached.antt`.
use Rattle.std.specs.Prelude.{ℕ, ◌≤◌, ◌<◌, ◌≡◌, List, [], ◌∷◌, length, Some}
use Rattle.link.specs.History.{Track}
use Rattle.link.specs.Inside.{ReachedBack}
use Rattle.link.specs.declared.Link.{Link}
use Rattle.script.specs.Lines.{shows, LineIs}
use Rattle.talk.specs.Answer.{text_done}
use Rattle.talk.specs.Listing.{talk, talked, silence}

-- a unit and a room as some calls leave them
pub record UnitReached (u : Link) (room : List ℕ) : Type 0 where
  pub track : Track
  pub reached : ReachedBack track
  pub link : track.link ≡ u
  pub kept : track.room ≡ room

-- "before the first start that was not refused" there is none; from then on, whatever lines come
abbrev pub UnitsReached : Type 0
UnitsReached =
    (lines : List (List ℕ)) (u : Link) → (talked silence lines).now.shown.bench ≡ Some u → UnitReached u (talked silence lines).now.room

-- "`9 - 20` for .. one above 3": `V` of any such place, behind any lines
abbrev pub AboveThree : Type 0
AboveThree =
    (lines : List (List ℕ)) (u : Link) → (talked silence lines).now.shown.bench ≡ Some u → (line : List ℕ) (p : ℕ) → LineIs line (shows p) → length line ≤ 1024
    → 3 < p → text_done (talk (talked silence lines) line).now ≡ 0x39 ∷ 0x20 ∷ 0x2D ∷ 0x20 ∷ 0x32 ∷ 0x30 ∷ 0x0A ∷ []
