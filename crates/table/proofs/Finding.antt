-- What is found is the lowest that is meant: in a list of marks, and in a table by a test of its places. Assumes nothing.
use Rattle.std.specs.Prelude.{Option, Some, None}
use Prim.Native.Nat.{ℕ, zero, suc, ◌+◌, ◌≤◌, ◌<◌}
use mathlib.Core.Path.{◌≡◌, refl, sym, ap, ◌∙◌}
use mathlib.Core.Bool.{Bool, true, false, false≢true}
use mathlib.Core.List.{List, map}
use mathlib.Core.Logic.Iff
use mathlib.Core.Logic.{◌↔◌, ◌⊎◌, inl, inr}
use native.Mathlib.Omega.{arith}
use native.Mathlib.Nat.{eq-or-lt_of_le}
use lib.Dec.{eqb}
use lib.ListN.{length, drop, get_or, length-map, drop_of_length-le}
use borrow.Author.Tests.{eqb-true, eq-eqb}
use Rattle.wire.proofs.Choice.{chosen, both}
use Rattle.header.specs.declared.header.Header.{Header}
use Rattle.place.specs.Own.{fresh_own, own_is_free, own_takes}
use Rattle.place.specs.Incoming.{fresh_incoming, primary_of, incoming_is_free, incoming_is_open, incoming_takes}
use Rattle.place.specs.declared.Own.{Own}
use Rattle.place.specs.declared.Incoming.{Incoming}
use Rattle.table.specs.Find.{first_from, first_of}
use Rattle.table.specs.Own.{free_own, reply_for}
use Rattle.table.specs.Incoming.{free_incoming, message_for, alike, open_alike}
use Rattle.table.specs.Theorems.{Lowest, Alike, FoundExactly, FreeOwnLowest, ReplyLowest, FreeIncomingLowest, MessageLowest, OpenAlikeLowest}
use Rattle.table.proofs.Firsts.{ahead}
use Rattle.table.proofs.Fours.{map_at}

-- none below p is meant
abbrev NoneBelow : (ℕ → Type 0) → ℕ → Type 0
NoneBelow Meant p = (q : ℕ) → q < p → Meant q → ⊥

-- how a search over n places ends
data Ends (n : ℕ) (Meant : ℕ → Type 0) : Option ℕ → Type 0 where
  there : (p : ℕ) → p < n → Meant p → NoneBelow Meant p → Ends n Meant (Some p)
  none : NoneBelow Meant n → Ends n Meant None

-- the lowest is one place and no other
one_lowest : (Meant : ℕ → Type 0) (p q : ℕ) → Meant p → NoneBelow Meant p → Meant q → NoneBelow Meant q → p ≡ q
one_lowest Meant p q mp below_p mq below_q =
    let not_q : q < p → ⊥ = λ h. below_p q h mq in
    let not_p : p < q → ⊥ = λ h. below_q p h mp in
    omega arith

-- so a search that ends so has found it exactly
lowest : {n : ℕ} {Meant : ℕ → Type 0} {found : Option ℕ} → Ends n Meant found → Lowest n Meant found
lowest {n} {Meant} (there p h m below) = record {
  at = λ q. (λ e. let so : (p < n) × Meant p × NoneBelow Meant p = (h, m, below) in let same : p ≡ q = cc in rw same at so, λ w. ap Some (one_lowest Meant p q m below w.1 w.2));
  nowhere = (λ e. let z : ◌≡◌ {A = ℕ} 0 1 = cc in absurd (omega arith), λ w. absurd (w p h m));
}
lowest (none below) = record {
  at = λ q. (λ e. let z : ◌≡◌ {A = ℕ} 0 1 = cc in absurd (omega arith), λ w. absurd (below q w.0 w.1));
  nowhere = (λ e. below, λ w. refl);
}

-- the same places are meant, in other words
in_other_words : {n : ℕ} {Meant Same : ℕ → Type 0} {found : Option ℕ} → ((p : ℕ) → p < n → Meant p ↔ Same p) → Ends n Meant found → Ends n Same found
in_other_words w (there p h m below) = there p h ((w p h).0 m) (λ q l s. below q l ((w q (omega arith)).1 s))
in_other_words w (none below) = none (λ q l s. below q l ((w q l).1 s))

-- ---- in a list of marks

abbrev Marked : List Bool → ℕ → Type 0
Marked marks p = get_or marks p false ≡ true

-- place i is not marked, and none below it
one_further : (marks : List Bool) (i : ℕ) → get_or marks i false ≡ false → NoneBelow (Marked marks) i → NoneBelow (Marked marks) (i + 1)
one_further marks i e below q h m = by (eq-or-lt_of_le (omega arith))
  where
    by : (q ≡ i) ⊎ (q < i) → ⊥
    by (inl same) = false≢true (sym e ∙ rw same at m)
    by (inr less) = below q less m

-- a walk that has come to place i, with k places ahead and none marked behind
walk : (marks : List Bool) (k i : ℕ) → i + k ≡ length marks → NoneBelow (Marked marks) i → Ends (length marks) (Marked marks) (first_from i (drop i marks))
unfolding first_from
walk marks zero i e below = let h : length marks ≤ i = omega arith in rw (drop_of_length-le marks h) (none (λ q h. below q (omega arith)))
walk marks (suc k) i e below =
    rw (ahead marks i (omega arith))
    (chosen (Ends (length marks) (Marked marks)) (get_or marks i false) (Some i) (first_from (i + 1) (drop (i + 1) marks))
    (λ m. there i (omega arith) m below)
    (λ m. walk marks k (i + 1) (omega arith) (one_further marks i m below)))

ends : (marks : List Bool) → Ends (length marks) (Marked marks) (first_of marks)
unfolding first_of
ends marks = walk marks (length marks) 0 (omega arith) (λ q h m. omega arith)

pub found_exactly : FoundExactly
found_exactly marks = lowest (ends marks)

-- ---- in a table of four, by a test

searched : {A : Type 0} (f : A → Bool) (d : A) (l : List A) (Meant : ℕ → Type 0) → length l ≡ 4 → ((p : ℕ) → (f (get_or l p d) ≡ true) ↔ Meant p) → Lowest 4 Meant (first_of (map f l))
searched f d l Meant four test = lowest (in_other_words (λ p h. rw (map_at f l p d false (omega arith)) (test p)) (rw (length-map l f ∙ four) at (ends (map f l))))

pub free_own_lowest : FreeOwnLowest
unfolding free_own
free_own_lowest os four = searched own_is_free fresh_own os _ four (λ p. Iff.rfl)

pub reply_lowest : ReplyLowest
unfolding reply_for
reply_lowest os h four = searched (λ (o : Own). own_takes o h) fresh_own os _ four (λ p. Iff.rfl)

pub free_incoming_lowest : FreeIncomingLowest
unfolding free_incoming
free_incoming_lowest is four = searched incoming_is_free fresh_incoming is _ four (λ p. Iff.rfl)

pub message_lowest : MessageLowest
unfolding message_for
message_lowest is h four = searched (λ (i : Incoming). incoming_takes i h) fresh_incoming is _ four (λ p. Iff.rfl)

-- the test is true exactly if the message is open and has these system bytes
alike_exactly : (h : Header) (i : Incoming) → (alike h i ≡ true) ↔ Alike h i
unfolding alike
alike_exactly h i = Iff.trans (both (incoming_is_open i) (eqb (primary_of i).system h.system)) (Iff.and Iff.rfl (eqb-true _ _, eq-eqb _ _))

pub open_alike_lowest : OpenAlikeLowest
unfolding open_alike
open_alike_lowest is h four = searched (alike h) fresh_incoming is _ four (λ p. alike_exactly h (get_or is p fresh_incoming))
