-- What 01 asks of every public contract ("How much each contract says"): it asks nothing of the caller, and any two outcomes
-- that it allows are equal. It is said of the contract itself, as the checker reads it: `asked` is what it requires, `post`
-- what it ensures of the result and of the arguments at exit, and `seen` is the outcome: result and lent bytes.
use Rattle.std.specs.Prelude.{◌≡◌, ℕ, List}
use contract.Lifetimes.{Lfts}
use denote.Triple.Clauses.{AtExit}
use borrow.Fn.Kinds.{ParamKind, ResultKind, In, Out, Dens, ended_of, res_t}

abbrev pub Determined :
    (n : ℕ) (ps : List (ParamKind n)) (r : ResultKind n) → In n ps → Out n ps r
    → {O : Type 0} → ((κs : Lfts n) → (res_t r κs).Denot → AtExit (ended_of n ps r) κs → O) → Type 0
Determined n ps r asked post seen =
    (κs : Lfts n) (a : Dens κs ps)
    → asked κs a
    × ((x y : (res_t r κs).Denot) (s t : AtExit (ended_of n ps r) κs) → post κs a x s → post κs a y t → seen κs x s ≡ seen κs y t)
