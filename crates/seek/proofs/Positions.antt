-- `position` over the marks is `first_of`. Assumes nothing.
use Rattle.std.proofs.Common.{◌≡◌, ℕ, ◌+◌, Bool, true, false, List, [], ◌∷◌, refl}
use Rattle.std.specs.List.{position_from}
use Rattle.table.specs.Find.{first_from}

pub same : (i : ℕ) (bs : List Bool) → position_from (λ b. b) i bs ≡ first_from i bs
unfolding first_from
same i [] = refl
same i (true ∷ bs) = refl
same i (false ∷ bs) = same (i + 1) bs
