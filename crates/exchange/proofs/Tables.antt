-- What holds of every place of a table, once one is put anew, and once each is. Assumes nothing.
use Prim.Native.Nat.{ℕ, ◌<◌}
use mathlib.Core.Path.{◌≡◌, sym, subst}
use mathlib.Core.Bool.{Bool, true, false}
use mathlib.Core.List.{List, map}
use lib.Dec.{eqb}
use lib.ListN.{length, get_or, set, get_or-map}
use lib.Seq.{get_or-set_same, get_or-set_other}
use borrow.Author.Tests.{eqb-true, eqb-false}
use Rattle.wire.proofs.Choice.{either}

-- one is put anew
pub set_every : {A : Type 0} (P : ℕ → A → Type 0) (l : List A) (d : A) (q : ℕ) (a : A)
    → ((p : ℕ) → p < length l → (p ≡ q → ⊥) → P p (get_or l p d)) → P q a
    → (p : ℕ) → p < length l → P p (get_or (set l q a) p d)
set_every P l d q a others here p k =
    either (eqb p q) (λ t. P p (get_or (set l q a) p d))
    (λ e. let s = eqb-true p q e in rw (s, get_or-set_same l q a d (subst (λ i. i < length l) s k)) here)
    (λ e. let n = eqb-false p q e in subst (P p) (sym (get_or-set_other l q p a d n)) (others p k n))

-- each is, by a function that leaves what stands for one outside as it is
pub map_every : {A : Type 0} (P : ℕ → A → Type 0) (f : A → A) (l : List A) (d : A) → f d ≡ d → ((p : ℕ) (a : A) → P p a → P p (f a))
    → (p : ℕ) → P p (get_or l p d) → P p (get_or (map f l) p d)
map_every P f l d e g p w = subst (λ z. P p (get_or (map f l) p z)) e (subst (P p) (sym (get_or-map f l p d)) (g p (get_or l p d) w))

-- of place p, once place q is put anew
pub set_one : {A : Type 0} (P : Bool → A → Type 0) (l : List A) (d : A) (q : ℕ) (a : A) (p : ℕ) → p < length l
    → (q ≡ p → P true a) → P false (get_or l p d) → P (eqb q p) (get_or (set l q a) p d)
set_one P l d q a p k here other =
    either (eqb q p) (λ t. P t (get_or (set l q a) p d))
    (λ e. let s = eqb-true q p e in rw (← s, get_or-set_same l q a d (subst (λ i. i < length l) (sym s) k)) (here s))
    (λ e. subst (P false) (sym (get_or-set_other l q p a d (λ s. eqb-false q p e (sym s)))) other)
