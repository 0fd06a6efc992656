-- Rule 7 of judging a block (`specs/Judge.antt`): where it is kept. Assumes nothing.
use Prim.Native.Nat.{ℕ, ◌+◌, ◌≤◌}
use mathlib.Core.Path.{◌≡◌}
use native.Mathlib.Omega.{arith}
use Rattle.wire.specs.Message.{message_limit}
use Rattle.header.specs.declared.header.Header.{Header}
use Rattle.place.specs.Message.{LacksData}
use Rattle.place.specs.Fate.{kept_of, fate_of}
use Rattle.place.proofs.Messages.{by_fate}

-- rule 7: a block that lacks no data and fits is kept
pub fate_kept : (h : Header) (have size : ℕ) → (LacksData h size → ⊥) → have + size ≤ message_limit → fate_of h have size ≡ kept_of h (have + size)
fate_kept h have size has fits =
    by_fate h have size (λ f. f ≡ kept_of h (have + size))
    (λ lacks. absurd (has lacks)) (λ n long. absurd (omega arith)) (λ n e m. rw e) (λ n e m some. rw e)
