-- `judging::same_bytes` meets its contract: `==` compares arrays pair by pair.
use Prim.Native.Nat.{ℕ}
use mathlib.Core.Path.{◌≡◌, refl, ap, ◌∙◌}
use mathlib.Core.Bool.{◌&&◌}
use mathlib.Core.List.{List, [], ◌∷◌}
use lib.Dec.{eqb}
use lib.Pointwise.{pointwise}
use Rattle.exchange.specs.Judge.{same_bytes}
use Rattle.judging.proofs.judging.same_bytes.Goals as goal

pairwise : (a b : List ℕ) → pointwise eqb a b ≡ same_bytes a b
unfolding same_bytes
pairwise [] [] = refl
pairwise [] (y ∷ b) = refl
pairwise (x ∷ a) [] = refl
pairwise (x ∷ a) (y ∷ b) = ap (λ t. eqb x y && t) (pairwise a b)

pub returns : goal.returns
returns c = c.eq.ensures ∙ pairwise _ _
