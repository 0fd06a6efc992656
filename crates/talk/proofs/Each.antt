-- For each line one is printed (`specs/Each.antt`). Assumes nothing.
use Prim.Native.Nat.{ℕ}
use mathlib.Core.Path.{◌≡◌, refl, sym, subst}
use mathlib.Core.List.{List, [], ◌∷◌, ◌++◌}
use lib.ListN.{take}
use Rattle.script.proofs.PrintedRules.{line_ends}
use Rattle.talk.specs.Answer.{Done}
use Rattle.talk.specs.Listing.{Talk, talk, talked, silence}
use Rattle.talk.specs.Each.{LineMore, PrintsEach}

-- the last of some lines is done behind the others
last_done : (lines : List (List ℕ)) (t : Talk) (line : List ℕ) → talked t (lines ++ (line ∷ [])) ≡ talk (talked t lines) line
unfolding talked
last_done [] t line = refl
last_done (first ∷ lines) t line = last_done lines (talk t first) line

one_more : (t : Talk) (line : List ℕ) → LineMore t (talk t line) line
one_more t line =
    let d : Done = (talk t line).now in
    record { done = refl; printed = refl; one = line_ends d.shown.printed (take d.shown.count d.out) }

pub prints_each : PrintsEach
unfolding talked
prints_each = record {
  none = refl;
  more = λ lines line.
      subst (λ (t : Talk). LineMore (talked silence lines) t line) (sym (last_done lines silence line)) (one_more (talked silence lines) line);
}
