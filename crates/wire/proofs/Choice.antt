-- A choice on a test. Assumes nothing.
use Rattle.std.proofs.Common.{◌≡◌, Bool, true, false, cond, ◌&&◌, ◌||◌, ◌⊎◌, ◌↔◌, sym, refl, inl, inr, ⊎_elim}
use mathlib.Core.Bool.{beq, false≢true}

-- what holds where the test is true, and where it is false, holds at the test
pub either : (t : Bool) (P : Bool → Type 0) → (t ≡ true → P true) → (t ≡ false → P false) → P t
either true P held failed = held refl
either false P held failed = failed refl

-- what holds of both results holds of the one chosen
pub chosen : {A : Type 0} (P : A → Type 0) (t : Bool) (x y : A) → (t ≡ true → P x) → (t ≡ false → P y) → P (cond t x y)
chosen P true x y held failed = held refl
chosen P false x y held failed = failed refl

-- the same where the test is true exactly if A holds
pub judged : {A : Type 0} (t : Bool) → (t ≡ true ↔ A) → (P : Bool → Type 0) → (A → P true) → ((A → ⊥) → P false) → P t
judged true w P held failed = held (w.0 refl)
judged false w P held failed = failed (λ a. false≢true (w.1 a))

-- two tests in a row are true exactly if both are
pub both : (a b : Bool) → a && b ≡ true ↔ ((a ≡ true) × (b ≡ true))
both true b = (λ e. (refl, e), λ w. w.1)
both false b = (λ e. absurd (false≢true e), λ w. absurd (false≢true w.0))

-- three tests in a row are true exactly if each is
pub three : (a b c : Bool) → a && b && c ≡ true ↔ ((a ≡ true) × (b ≡ true) × (c ≡ true))
three true true c = (λ e. (refl, refl, e), λ w. w.2)
three true false c = (λ e. absurd (false≢true e), λ w. absurd (false≢true w.1))
three false b c = (λ e. absurd (false≢true e), λ w. absurd (false≢true w.0))

-- one of two tests is true exactly if A holds or B does, where the one is a test of A and the other of B
pub either_of : (a b : Bool) (A B : Type 0) → (a ≡ true ↔ A) → (b ≡ true ↔ B) → a || b ≡ true ↔ (A ⊎ B)
either_of true b A B v w = (λ e. inl (v.0 refl), λ s. refl)
either_of false b A B v w = (λ e. inr (w.0 e), ⊎_elim (λ x. absurd (false≢true (v.1 x))) w.1)

-- two bits are the same exactly if they are equal
pub same_bits : (a b : Bool) → beq a b ≡ true ↔ (a ≡ b)
same_bits true true = (λ e. refl, λ e. refl)
same_bits true false = (λ e. absurd (false≢true e), λ e. absurd (false≢true (sym e)))
same_bits false true = (λ e. absurd (false≢true e), λ e. absurd (false≢true e))
same_bits false false = (λ e. refl, λ e. refl)
