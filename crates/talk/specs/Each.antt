-- "`bench` reads lines on standard input and prints one line each" (01, "Bench program and proved table"): whatever lines came before.
-- Proved in `proofs/Each.antt`.
use Rattle.std.specs.Prelude.{ℕ, ◌≡◌, List, [], ◌∷◌, ◌++◌}
use Rattle.script.specs.PrintedRules.{OneLine}
use Rattle.talk.specs.Answer.{line_done, text_done}
use Rattle.talk.specs.Listing.{Talk, talked, silence}

-- one line more
pub record LineMore (before after : Talk) (line : List ℕ) : Type 0 where
  -- it is done on the unit, the room and the memory for output that the line before it left
  pub done : after.now ≡ line_done before.now.shown.bench line before.now.room before.now.out
  -- what is printed for it comes behind all that was printed, and is one line
  pub printed : after.printed ≡ before.printed ++ (text_done after.now ∷ [])
  pub one : OneLine (text_done after.now)

-- any lines, from before the first, for which nothing is printed
pub record PrintsEach : Type 0 where
  pub none : (talked silence []).printed ≡ []
  pub more : (lines : List (List ℕ)) (line : List ℕ) → LineMore (talked silence lines) (talked silence (lines ++ (line ∷ []))) line
