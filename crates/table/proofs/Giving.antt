-- The number that is given is the first after the last that is not passed over, and the system bytes made of it are distinct.
-- Assumes nothing.
use Prim.Native.Nat.{ℕ, zero, suc, ◌+◌, ◌*◌, ◌%◌, ◌≤◌, ◌<◌}
use mathlib.Core.Path.{◌≡◌, refl, sym, ap, subst, ◌∙◌}
use mathlib.Core.Bool.{Bool, true, false, cond, ◌||◌, or-true, false≢true}
use mathlib.Core.List.{List, [], ◌∷◌, map}
use mathlib.Core.Logic.Iff
use mathlib.Core.Logic.{◌↔◌, ◌⊎◌, inl, inr, ⊎_elim, ◌≢◌}
use native.Mathlib.Omega.{arith}
use native.Mathlib.Nat.{not-suc-le-zero}
use lib.Dec.{eqb}
use lib.ListN.{length, get_or, length-map}
use borrow.Author.Tests.{eqb-true, eq-eqb, ne_eqb}
use Rattle.wire.proofs.Choice.{chosen, either, either_of}
use Rattle.header.specs.Header.{header_of}
use Rattle.place.specs.Own.{fresh_own, own_is_free, primary_of}
use Rattle.place.specs.declared.Own.{Own}
use Rattle.table.specs.Number.{number_of, held_number, following, among, first_after, passed_over, next_number}
use Rattle.table.specs.Theorems.{FollowingNumber, number_after, InUse, PassedOver, FirstLeft, NumberGiven, SystemDistinct, NumberTable}
use Rattle.table.proofs.Numbers.{following_fits, wait, wait_le, never_once_more}

pub following_number : FollowingNumber
unfolding following
following_number = (refl, λ n h. rw (ne_eqb n 65535 (λ e. omega arith)))

-- ---- 1 to 65,535

-- what follows a number is not 0
following_some : (n : ℕ) → 1 ≤ following n
unfolding following
following_some n = chosen (λ m. 1 ≤ m) (eqb n 65535) 1 (n + 1) (λ e. omega arith) (λ e. omega arith)

-- each number after n is 1 to 65,535
after_fits : (k n : ℕ) → n ≤ 65535 → 1 ≤ k → (1 ≤ number_after k n) × (number_after k n ≤ 65535)
unfolding number_after
after_fits zero n h some = absurd (not-suc-le-zero some)
after_fits (suc zero) n h some = (following_some n, following_fits n h)
after_fits (suc (suc k)) n h some = after_fits (suc k) (following n) (following_fits n h) (omega arith)

-- ---- the first that is left

-- the candidate after n is passed over, so what is first after it is first after n
one_more : {k : ℕ} {Over : ℕ → Type 0} (n : ℕ) {m : ℕ} → Over (following n) → FirstLeft k Over (following n) m → FirstLeft (suc k) Over n m
unfolding number_after
one_more {k} {Over} n over r = record {
  count = suc r.count;
  some = omega arith;
  few = omega (arith, r.few);
  there = r.there;
  before = upto;
  left = r.left;
}
  where
    upto : (j : ℕ) → 1 ≤ j → j < suc r.count → Over (number_after j n)
    upto zero a b = absurd (not-suc-le-zero a)
    upto (suc zero) a b = over
    upto (suc (suc j)) a b = r.before (suc j) (omega arith) (omega arith)

-- where one of k candidates is left, the first of them is found
first_left : (k : ℕ) (passed : List ℕ) (n : ℕ) → wait k passed n < k → FirstLeft k (λ m. among m passed ≡ true) n (first_after k passed n)
unfolding wait first_after number_after
first_left zero passed n h = absurd (not-suc-le-zero h)
first_left (suc k) passed n h = by (among (following n) passed) refl h (first_left k passed (following n))
  where
    by : (b : Bool) → among (following n) passed ≡ b → cond b (wait k passed (following n) + 1) 0 < suc k
        → (wait k passed (following n) < k → FirstLeft k (λ m. among m passed ≡ true) (following n) (first_after k passed (following n)))
        → FirstLeft (suc k) (λ m. among m passed ≡ true) n (cond b (first_after k passed (following n)) (following n))
    by true e h rest = one_more n e (rest (omega arith))
    by false e h rest = record {
      count = 1;
      some = omega arith;
      few = omega arith;
      there = refl;
      before = λ j a b. absurd (omega arith);
      left = λ t. false≢true (sym e ∙ t);
    }

-- ---- what is passed over

-- a place is in use and has the number m
abbrev Has : ℕ → Own → Type 0
Has m o = (own_is_free o ≡ false) × ((primary_of o).system % 65536 ≡ m)

-- it counts as m exactly then, if m is a number: a free one counts as 0
counts_as : (m : ℕ) → 1 ≤ m → (o : Own) → (held_number o ≡ m) ↔ Has m o
unfolding held_number number_of
counts_as m some o =
    either (own_is_free o) (λ t. (cond t 0 ((primary_of o).system % 65536) ≡ m) ↔ ((t ≡ false) × ((primary_of o).system % 65536 ≡ m)))
    (λ e. (λ z. absurd (omega arith), λ w. absurd (false≢true (sym w.0))))
    (λ e. (λ z. (refl, z), λ w. w.1))

-- the first place of a table has it, or one of the others
in_table : (m : ℕ) (o : Own) (os : List Own) → (Has m o ⊎ InUse os m) ↔ InUse (o ∷ os) m
in_table m o os = (⊎_elim here further, λ w. which w.place w.within (w.not_free, w.number))
  where
    here : Has m o → InUse (o ∷ os) m
    here w = record { place = 0; within = omega arith; not_free = w.0; number = w.1 }

    further : InUse os m → InUse (o ∷ os) m
    further w = record { place = suc w.place; within = omega (arith, w.within); not_free = w.not_free; number = w.number }

    which : (p : ℕ) → p < suc (length os) → Has m (get_or (o ∷ os) p fresh_own) → Has m o ⊎ InUse os m
    which zero h w = inl w
    which (suc p) h w = inr record { place = p; within = omega arith; not_free = w.0; number = w.1 }

-- m is among the numbers of the places exactly if one in use has it
in_use_lem : (m : ℕ) → 1 ≤ m → (os : List Own) → (among m (map held_number os) ≡ true) ↔ InUse os m
unfolding among
in_use_lem m some [] = (λ e. absurd (false≢true e), λ w. absurd (not-suc-le-zero w.within))
in_use_lem m some (o ∷ os) = Iff.trans (either_of _ _ _ _ (Iff.trans (eqb-true _ _, eq-eqb _ _) (counts_as m some o)) (in_use_lem m some os)) (in_table m o os)

-- a number is among those that the search passes over exactly if 01 says that it is
passed_over_lem : (os : List Own) (latest m : ℕ) → 1 ≤ m → (among m (passed_over os latest) ≡ true) ↔ PassedOver os latest m
unfolding among
passed_over_lem os latest m some = either_of _ _ _ _ (λ e. sym (eqb-true latest m e), λ e. eq-eqb latest m (sym e)) (in_use_lem m some os)

-- ---- the theorems

pub number_given_lem : NumberGiven
unfolding next_number
number_given_lem os last latest four h = record {
  first = record {
    count = r.count;
    some = r.some;
    few = r.few;
    there = r.there;
    before = λ j a b. (passed_over_lem os latest (number_after j last) (after_fits j last h a).0).0 (r.before j a b);
    left = λ w. r.left ((passed_over_lem os latest (next_number os last latest) range.0).1 w);
  };
  not_zero = range.0;
  fits = range.1;
}
  where
    five : length (passed_over os latest) ≡ 5
    five = ap suc (length-map os held_number ∙ four)

    r : FirstLeft 6 (λ m. among m (passed_over os latest) ≡ true) last (next_number os last latest)
    r = first_left 6 (passed_over os latest) last (omega (arith, five, wait_le 6 (passed_over os latest) last h (omega (arith, five))))

    range : (1 ≤ next_number os last latest) × (next_number os last latest ≤ 65535)
    range = rw r.there at (after_fits r.count last h r.some)

-- it is never the last given, whatever is in the places and whatever number that is: a start may be told of one that is none
pub next_other : (os : List Own) (last latest : ℕ) → next_number os last latest ≢ last
unfolding next_number
next_other os last latest = never_once_more (passed_over os latest) last

-- ---- the latest, where a place in use has its number

-- such a number is among those of the places
held_there : (m : ℕ) (os : List Own) → InUse os m → among m (map held_number os) ≡ true
unfolding among held_number number_of
held_there m [] w = absurd (not-suc-le-zero w.within)
held_there m (o ∷ os) w =
    ⊎_elim (λ (h : Has m o). rw (eq-eqb (held_number o) m (ap (λ (t : Bool). cond t 0 (number_of o)) h.0 ∙ h.1)))
    (λ (r : InUse os m). rw (held_there m os r) (or-true (eqb (held_number o) m))) ((in_table m o os).1 w)

-- so it bars no other
barred : (passed : List ℕ) (a : ℕ) → among a passed ≡ true → (m : ℕ) → among m (a ∷ passed) ≡ among m passed
unfolding among
barred passed a e m =
    either (eqb a m) (λ t. t || among m passed ≡ among m passed) (λ q. sym (subst (λ n. among n passed ≡ true) (eqb-true a m q) e)) (λ q. refl)

-- a search goes by what is barred
first_alike : (k : ℕ) (ps qs : List ℕ) → ((m : ℕ) → among m ps ≡ among m qs) → (n : ℕ) → first_after k ps n ≡ first_after k qs n
unfolding first_after
first_alike zero ps qs same n = refl
first_alike (suc k) ps qs same n = λ i. cond (same (following n) i) (first_alike k ps qs same (following n) i) (following n)

-- whichever place has it, the next number is the same
pub next_alike : (os : List Own) (last a b : ℕ) → InUse os a → InUse os b → next_number os last a ≡ next_number os last b
unfolding next_number
next_alike os last a b v w =
    let hs = map held_number os in
    first_alike 6 (a ∷ hs) hs (barred hs a (held_there a os v)) last ∙ sym (first_alike 6 (b ∷ hs) hs (barred hs b (held_there b os w)) last)

pub system_distinct : SystemDistinct
system_distinct os source last latest four h =
    let g = number_given_lem os last latest four h in
    let half : (source * 65536 + next_number os last latest) % 65536 ≡ next_number os last latest = omega (arith, g.fits) in
    record {
      from_open = λ p l used e. g.first.left (inr record { place = p; within = omega arith; not_free = used; number = ap (λ (x : ℕ). x % 65536) (sym e) ∙ half });
      from_latest = λ e. g.first.left (inl (sym half ∙ e));
    }

pub number_table : NumberTable
unfolding next_number first_after following among held_number number_of header_of
number_table = record { after_65535 = refl; while_1_is_held = refl; first_of_all = refl }
