-- The laws of `specs/Number.antt`: of six candidates no more are passed over than there are numbers to pass over, so where these are
-- five at most the search ends; and it never ends where it began. Assumes nothing.
use Prim.Native.Nat.{ℕ, zero, suc, ◌+◌, ◌-◌, ◌≤◌, ◌<◌}
use mathlib.Core.Path.{◌≡◌, refl, sym, ap, ◌∙◌}
use mathlib.Core.Bool.{Bool, true, false, cond, ◌||◌, or-true}
use mathlib.Core.List.{List, [], ◌∷◌}
use mathlib.Core.Logic.{◌⊎◌, inl, inr, ◌≢◌}
use native.Mathlib.Omega.{arith}
use native.Mathlib.Numerals.{add-one}
use native.Mathlib.Nat.{not-suc-le-zero}
use lib.Dec.{eqb, leb, ltb}
use lib.ListN.{length, drop, get_or, drop_of_length-le}
use lib.Seq.{drop-cons}
use borrow.Author.Tests.{eq-eqb, ne_eqb, eqb-true, eqb-false, leb-true, leb-false, ltb-true, ltb-false}
use Rattle.wire.proofs.Choice.{either, chosen}
use Rattle.table.specs.Number.{following, among, first_after}

-- ---- how far a candidate is from the start of the search

-- c is o steps after s, gone round or not
abbrev Steps : ℕ → ℕ → ℕ → Type 0
Steps s c o = (c ≡ s + o) ⊎ (c + 65535 ≡ s + o)

-- the one that follows is one step more, and fits
follows : (s c o : ℕ) (t : Bool) → eqb c 65535 ≡ t → s ≤ 65535 → c ≤ 65535 → o ≤ 6 → Steps s c o → (cond t 1 (c + 1) ≤ 65535) × Steps s (cond t 1 (c + 1)) (o + 1)
follows s c o true e hs hc ho (inl a) = let q = eqb-true c 65535 e in (omega arith, inr (omega arith))
follows s c o true e hs hc ho (inr a) = let q = eqb-true c 65535 e in (omega arith, inr (omega arith))
follows s c o false e hs hc ho (inl a) = let q = eqb-false c 65535 e in (omega arith, inl (omega arith))
follows s c o false e hs hc ho (inr a) = let q = eqb-false c 65535 e in (omega arith, inr (omega arith))

pub following_fits : (n : ℕ) → n ≤ 65535 → following n ≤ 65535
unfolding following
following_fits n h = (follows n n 0 (eqb n 65535) refl h h (omega arith) (inl (omega arith))).0

-- how far h is from s, going up and round
abbrev far : ℕ → ℕ → ℕ
far s h = cond (ltb s h) (h - s) (h + 65535 - s)

-- a candidate is as far as the steps to it
far_steps : (s c o : ℕ) (t : Bool) → ltb s c ≡ t → s ≤ 65535 → c ≤ 65535 → o < 65535 → Steps s c (o + 1) → cond t (c - s) (c + 65535 - s) ≡ o + 1
far_steps s c o true e hs hc ho (inl a) = let q = ltb-true s c e in omega arith
far_steps s c o true e hs hc ho (inr a) = let q = ltb-true s c e in omega arith
far_steps s c o false e hs hc ho (inl a) = let q = ltb-false s c e in omega arith
far_steps s c o false e hs hc ho (inr a) = let q = ltb-false s c e in omega arith

-- ---- how many of a list are that near

-- how many of the list are at most o from s
near : ℕ → ℕ → List ℕ → ℕ
near s o [] = 0
near s o (h ∷ t) = cond (leb (far s h) o) 1 0 + near s o t

one_le : (b : Bool) → cond b 1 0 ≤ 1
one_le true = omega arith
one_le false = omega arith

-- not more than there are
near_le : (s o : ℕ) (l : List ℕ) → near s o l ≤ length l
unfolding near
near_le s o [] = omega arith
near_le s o (h ∷ t) = omega (arith, one_le (leb (far s h) o), near_le s o t)

one_more : (p o : ℕ) (a b : Bool) → leb p o ≡ a → leb p (o + 1) ≡ b → cond a 1 0 ≤ cond b 1 0
one_more p o true true e f = omega arith
one_more p o true false e f = omega (arith, leb-true p o e, leb-false p (o + 1) f)
one_more p o false b e f = omega arith

-- within one step more there are not fewer
near_more : (s o : ℕ) (l : List ℕ) → near s o l ≤ near s (o + 1) l
unfolding near
near_more s o [] = omega arith
near_more s o (h ∷ t) = omega (arith, one_more (far s h) o (leb (far s h) o) (leb (far s h) (o + 1)) refl refl, near_more s o t)

one_hit : (p o : ℕ) (a b : Bool) → leb p o ≡ a → leb p (o + 1) ≡ b → p ≡ o + 1 → cond a 1 0 + 1 ≤ cond b 1 0
one_hit p o true b e f q = omega (arith, leb-true p o e)
one_hit p o false true e f q = omega arith
one_hit p o false false e f q = omega (arith, leb-false p (o + 1) f)

-- and one more where c, which is just that far, is in the list: it is the head h, or in the tail
near_hit_at : (s o c h : ℕ) (t : List ℕ) (b : Bool) → eqb h c ≡ b → b || among c t ≡ true → far s c ≡ o + 1
    → (among c t ≡ true → near s o t + 1 ≤ near s (o + 1) t) → near s o (h ∷ t) + 1 ≤ near s (o + 1) (h ∷ t)
unfolding near
near_hit_at s o c h t true k e q rest =
    omega (arith, one_hit (far s h) o (leb (far s h) o) (leb (far s h) (o + 1)) refl refl (ap (far s) (eqb-true h c k) ∙ q), near_more s o t)
near_hit_at s o c h t false k e q rest =
    omega (arith, one_more (far s h) o (leb (far s h) o) (leb (far s h) (o + 1)) refl refl, rest e)

near_hit : (s o c : ℕ) (l : List ℕ) → among c l ≡ true → far s c ≡ o + 1 → near s o l + 1 ≤ near s (o + 1) l
unfolding among
near_hit s o c [] e q = let z : ◌≡◌ {A = ℕ} 0 1 = cc in omega arith
near_hit s o c (h ∷ t) e q = near_hit_at s o c h t (eqb h c) refl e q (λ r. near_hit s o c t r q)

-- ---- how long a search is

-- how many of k candidates after n are passed over before one that is not
unfoldable pub wait : ℕ → List ℕ → ℕ → ℕ
wait zero passed n = 0
wait (suc k) passed n = cond (among (following n) passed) (wait k passed (following n) + 1) 0

-- A search from s that has come to c in o steps, each of which is of one number in the list, has w more to pass over. One step:
wait_at : (passed : List ℕ) (s c o w : ℕ) (b : Bool) → among (following c) passed ≡ b → s ≤ 65535 → c ≤ 65535 → Steps s c o → o ≤ near s o passed → length passed ≤ 6
    → (following c ≤ 65535 → Steps s (following c) (o + 1) → o + 1 ≤ near s (o + 1) passed → o + 1 + w ≤ length passed)
    → o + cond b (w + 1) 0 ≤ length passed
unfolding following
wait_at passed s c o w true e hs hc a h l rest =
    let n = follows s c o (eqb c 65535) refl hs hc (omega (arith, near_le s o passed)) a in
    let f = far_steps s (following c) o (ltb s (following c)) refl hs n.0 (omega (arith, near_le s o passed)) n.1 in
    omega (arith, rest n.0 n.1 (omega (arith, near_hit s o (following c) passed e f)))
wait_at passed s c o w false e hs hc a h l rest = omega (arith, near_le s o passed)

wait_from : (k : ℕ) (passed : List ℕ) (s c o : ℕ) → s ≤ 65535 → c ≤ 65535 → Steps s c o → o ≤ near s o passed → length passed ≤ 6
    → o + wait k passed c ≤ length passed
unfolding wait
wait_from zero passed s c o hs hc a h l = omega (arith, near_le s o passed)
wait_from (suc k) passed s c o hs hc a h l =
    wait_at passed s c o (wait k passed (following c)) (among (following c) passed) refl hs hc a h l (λ x y z. wait_from k passed s (following c) (o + 1) hs x y z l)

-- no more candidates are passed over than there are numbers to pass over
pub wait_le : (k : ℕ) (passed : List ℕ) (n : ℕ) → n ≤ 65535 → length passed ≤ 6 → wait k passed n ≤ length passed
wait_le k passed n h l = omega (arith, wait_from k passed n n 0 h h (inl (omega arith)) (omega arith) l)

-- ---- never the one it began at

-- six steps do not lead round to it
steps_apart : (s c o : ℕ) → s ≤ 65535 → 1 ≤ o → o ≤ 6 → Steps s c o → c ≢ s
steps_apart s c o hs some few (inl a) e = omega arith
steps_apart s c o hs some few (inr a) e = omega arith

-- a search from s that has come to c in o steps does not come back in k more, whatever is passed over
first_apart : (k : ℕ) (passed : List ℕ) (s c o : ℕ) → s ≤ 65535 → c ≤ 65535 → 1 ≤ o → o + k ≤ 6 → Steps s c o → first_after k passed c ≢ s
unfolding first_after following
first_apart zero passed s c o hs hc some few a = steps_apart s c o hs some (omega arith) a
first_apart (suc k) passed s c o hs hc some few a =
    let n = follows s c o (eqb c 65535) refl hs hc (omega arith) a in
    chosen (λ m. m ≢ s) (among (following c) passed) (first_after k passed (following c)) (following c)
    (λ e. first_apart k passed s (following c) (o + 1) hs n.0 (omega arith) (omega arith) n.1)
    (λ e. steps_apart s (following c) (o + 1) hs (omega arith) (omega arith) n.1)

never_again : (passed : List ℕ) (n : ℕ) → n ≤ 65535 → first_after 6 passed n ≢ n
unfolding first_after following
never_again passed n h =
    let f = follows n n 0 (eqb n 65535) refl h h (omega arith) (inl (omega arith)) in
    chosen (λ m. m ≢ n) (among (following n) passed) (first_after 5 passed (following n)) (following n)
    (λ e. first_apart 5 passed n (following n) 1 h f.0 (omega arith) (omega arith) f.1)
    (λ e. steps_apart n (following n) 1 h (omega arith) (omega arith) f.1)

-- above 65,535 each is one on
above_rises : (k : ℕ) (passed : List ℕ) (c : ℕ) → 65535 < c → c ≤ first_after k passed c
unfolding first_after following
above_rises zero passed c h = omega arith
above_rises (suc k) passed c h =
    rw (ne_eqb c 65535 (λ e. omega arith))
    (chosen (λ m. c ≤ m) (among (c + 1) passed) (first_after k passed (c + 1)) (c + 1)
    (λ e. omega (arith, above_rises k passed (c + 1) (omega arith))) (λ e. omega arith))

-- so it does not end there whatever it began at
pub never_once_more : (passed : List ℕ) (n : ℕ) → first_after 6 passed n ≢ n
unfolding first_after following
never_once_more passed n =
    either (leb n 65535) (λ t. first_after 6 passed n ≢ n) (λ e. never_again passed n (leb-true n 65535 e))
    (λ e.
    let above : 65535 < n = leb-false n 65535 e in
    rw (ne_eqb n 65535 (λ z. omega arith))
    (chosen (λ m. m ≢ n) (among (n + 1) passed) (first_after 5 passed (n + 1)) (n + 1)
    (λ t z. omega (arith, above_rises 5 passed (n + 1) (omega arith))) (λ t z. omega arith)))

-- ---- one candidate

-- where one of k candidates is left, looking at one more changes nothing
steady : (k : ℕ) (passed : List ℕ) (n : ℕ) → wait k passed n < k → (first_after (suc k) passed n ≡ first_after k passed n) × (wait (suc k) passed n ≡ wait k passed n)
unfolding wait first_after
steady zero passed n h = absurd (not-suc-le-zero h)
steady (suc k) passed n h = by (among (following n) passed) h (steady k passed (following n))
  where
    by : (b : Bool) → cond b (wait k passed (following n) + 1) 0 < suc k
        → (wait k passed (following n) < k → (first_after (suc k) passed (following n) ≡ first_after k passed (following n)) × (wait (suc k) passed (following n) ≡ wait k passed (following n)))
        → (cond b (first_after (suc k) passed (following n)) (following n) ≡ cond b (first_after k passed (following n)) (following n))
        × (cond b (wait (suc k) passed (following n) + 1) 0 ≡ cond b (wait k passed (following n) + 1) 0)
    by true h rest = let r = rest (omega arith) in (r.0, ap (λ (x : ℕ). x + 1) r.1)
    by false h rest = (refl, refl)

-- a candidate of the list is passed over
passes : (k : ℕ) (passed : List ℕ) (n : ℕ) → among (following n) passed ≡ true
    → (first_after (suc k) passed n ≡ first_after k passed (following n)) × (wait (suc k) passed n ≡ wait k passed (following n) + 1)
unfolding wait first_after
passes k passed n e = (rw e, rw e)

-- the search goes on from it, and is nearer its end
skip : (passed : List ℕ) (n : ℕ) → n ≤ 65535 → length passed ≤ 5 → among (following n) passed ≡ true
    → (first_after 6 passed (following n) ≡ first_after 6 passed n) × (wait 6 passed (following n) < wait 6 passed n)
skip passed n h l e =
    let w = wait_le 6 passed n h (omega arith) in
    let u = passes 5 passed n e in
    let r = steady 5 passed (following n) (omega arith) in
    (r.0 ∙ sym u.0, omega (arith, r.1))

-- a candidate m that is none of the list is the number
pub found : (passed : List ℕ) (n m : ℕ) → m ≡ following n → among m passed ≡ false → m ≡ first_after 6 passed n
unfolding first_after
found passed n m e f = e ∙ rw (rw e at f)

-- ---- the search for a number after `last`, at n; `nums` are those of the four places

abbrev pub Goes : ℕ → ℕ → List ℕ → ℕ → Type 0
Goes last latest nums n = (n ≤ 65535) × (first_after 6 (latest ∷ nums) n ≡ first_after 6 (latest ∷ nums) last)

-- the candidate m after n is passed over, so the search goes on from m
pub goes_on_lem : (last latest : ℕ) (nums : List ℕ) (n m : ℕ) → length nums ≡ 4 → Goes last latest nums n → m ≡ following n → among m (latest ∷ nums) ≡ true
    → Goes last latest nums m × (wait 6 (latest ∷ nums) m < wait 6 (latest ∷ nums) n)
goes_on_lem last latest nums n m l inv e h =
    let r = skip (latest ∷ nums) n inv.0 (omega arith) (rw e at h) in
    rw e ((following_fits n inv.0, r.0 ∙ inv.1), r.1)

-- ---- the walk over the places, at index i, with the candidate m

-- whether m is among those from i on, by the one at i
among_drop : (m : ℕ) (nums : List ℕ) (i : ℕ) → i < length nums → among m (drop i nums) ≡ eqb (get_or nums i 0) m || among m (drop (i + 1) nums)
unfolding among
among_drop m nums i h = rw (add-one, drop-cons nums i 0)

-- m stands at i, so it is passed over
pub hit : (m latest : ℕ) (nums : List ℕ) (i : ℕ) → i < length nums → among m (drop i nums) ≡ among m nums → get_or nums i 0 ≡ m → among m (latest ∷ nums) ≡ true
unfolding among
hit m latest nums i h inv e =
    let here : among m nums ≡ true = sym inv ∙ among_drop m nums i h ∙ rw (eq-eqb (get_or nums i 0) m e) in
    rw here (or-true (eqb latest m))

-- m does not stand at i, so it is looked for after i
pub miss : (m : ℕ) (nums : List ℕ) (i : ℕ) → i < length nums → among m (drop i nums) ≡ among m nums → (get_or nums i 0 ≡ m → ⊥) → among m (drop (i + 1) nums) ≡ among m nums
miss m nums i h inv e = sym (among_drop m nums i h ∙ rw (ne_eqb (get_or nums i 0) m e)) ∙ inv

-- m is not the latest, and no place is left to look at
pub left : (m latest : ℕ) (nums : List ℕ) (i : ℕ) → length nums ≤ i → among m (drop i nums) ≡ among m nums → (m ≡ latest → ⊥) → among m (latest ∷ nums) ≡ false
unfolding among
left m latest nums i h inv e = rw (ne_eqb latest m (λ q. e (sym q)), ← inv, drop_of_length-le nums h)
