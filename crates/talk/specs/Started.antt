-- From which line on there is a unit (01, "Bench program and proved table"), by the lines alone: there is one behind a start that was not
-- refused, whatever comes then, and none before. Proved in `proofs/Started.antt`.
use Rattle.std.specs.Prelude.{ℕ, ◌≤◌, ◌≡◌, IsSome, List, [], ◌∷◌, ◌↔◌, length}
use Rattle.link.specs.Refusals.{SetupFits}
use Rattle.link.specs.declared.Setup.{Setup}
use Rattle.script.specs.Lines.{starts, LineIs}
use Rattle.talk.specs.Answer.{text_done}
use Rattle.talk.specs.Listing.{talk, talked, silence}

-- a start that is not refused: no setting is out of range
pub record Starts (line : List ℕ) : Type 0 where
  pub setup : Setup
  pub is : LineIs line (starts setup)
  pub short : length line ≤ 1024
  pub fits : SetupFits setup

-- one of these lines is such a start
pub data StartAmong : List (List ℕ) → Type 0 where
  this : (line : List ℕ) (lines : List (List ℕ)) → Starts line → StartAmong (line ∷ lines)
  later : (line : List ℕ) (lines : List (List ℕ)) → StartAmong lines → StartAmong (line ∷ lines)

abbrev pub StartedExactly : Type 0
StartedExactly = (lines : List (List ℕ)) → IsSome (talked silence lines).now.shown.bench ↔ StartAmong lines

-- "A line .. before the first start that was not refused, prints `?`": any line that is no start (a refused one prints `4 - 20`,
-- docs/READINGS.md, 26)
abbrev pub QuestionBefore : Type 0
QuestionBefore =
    (lines : List (List ℕ)) → (StartAmong lines → ⊥) → (line : List ℕ) → ((s : Setup) → LineIs line (starts s) → ⊥)
    → text_done (talk (talked silence lines) line).now ≡ 0x3F ∷ 0x0A ∷ []
