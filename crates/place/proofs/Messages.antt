-- The laws of a message (`specs/Message.antt`): its first block, one block more, and what the tests of `specs/Fate.antt` and
-- `specs/Arriving.antt` say. Assumes nothing.
use Prim.Native.Nat.{ℕ, zero, suc, ◌+◌, ◌-◌, ◌%◌, ◌≤◌, ◌<◌}
use mathlib.Core.Path.{◌≡◌, refl, sym, subst, ◌∙◌}
use mathlib.Core.Bool.{Bool, true, false, cond, not, ◌&&◌, beq, false≢true}
use mathlib.Core.List.{List, [], ◌∷◌, ◌++◌}
use mathlib.Core.Logic.{◌↔◌, ◌⊎◌, inl, inr, ⊎_elim}
use native.Mathlib.Omega.{arith}
use lib.Dec.{eqb, ltb}
use lib.ListN.{length, length-append, get_or-append}
use lib.Seq.{get_or_at}
use borrow.Author.Tests.{eqb-true, ltb-true, ltb-false, eq-eqb, lt-ltb}
use Rattle.wire.specs.Message.{message_limit}
use Rattle.wire.proofs.Choice.{either, chosen, judged, both, three, either_of, same_bits}
use Rattle.header.specs.Theorems.{SameElse}
use Rattle.header.specs.declared.header.Header.{Header}
use Rattle.settings.specs.declared.terms.Terms.{Terms}
use Rattle.place.specs.Message.{Routed, StartsMessage, Continuing, Continues, LacksData, no_header, block_at, first_of, Whole, Begun}
use Rattle.place.specs.Fate.{starts_message, begins_reply, begins_primary, lacks_data, too_long, kept_of, fate_of}
use Rattle.place.specs.Arriving.{same_kind, continues_arriving}
use Rattle.place.specs.declared.Arriving.{Arriving}
use Rattle.place.specs.declared.Fate.{Fate}
use Rattle.place.specs.declared.Fate.TheVariants.{Empty, TooLong, Last, More}

-- ---- the blocks so far, and one more

-- one block more
pub one_longer : (bs : List Header) (h : Header) → length (bs ++ (h ∷ [])) ≡ length bs + 1
one_longer bs h = length-append bs (h ∷ [])

-- a block of those before, and the one behind them
before : (bs : List Header) (h : Header) (i : ℕ) → i < length bs → block_at (bs ++ (h ∷ [])) i ≡ block_at bs i
before bs h i less = get_or-append bs (h ∷ []) no_header i less

-- what holds of each block, and of one more behind them, holds of each of all
each_more :
    (P : ℕ → Header → Type 0) (bs : List Header) (h : Header)
    → ((i : ℕ) → i < length bs → P i (block_at bs i)) → P (length bs) h
    → (i : ℕ) → i < length (bs ++ (h ∷ [])) → P i (block_at (bs ++ (h ∷ [])) i)
each_more P bs h all one i less =
    either (ltb i (length bs)) (λ t. P i (block_at (bs ++ (h ∷ [])) i))
    (λ e. rw (before bs h i (ltb-true _ _ e)) (all i (ltb-true _ _ e)))
    (λ e.
    let here : length bs ≡ i = omega (arith, ltb-false, one_longer bs h) in
    rw (get_or_at bs h [] no_header i here) (subst (λ k. P k h) here one))

-- what holds of one block holds of each
each_first : (P : ℕ → Header → Type 0) (h : Header) → P 0 h → (i : ℕ) → i < 1 → P i (block_at (h ∷ []) i)
each_first P h one = each_more P [] h (λ i less. absurd (omega arith)) one

-- the first block stays the first
pub first_more : (bs : List Header) (h : Header) → 1 ≤ length bs → first_of (bs ++ (h ∷ [])) ≡ first_of bs
first_more bs h some = before bs h 0 some

-- a header shares all with itself
same_as_itself : (h : Header) → SameElse h h
same_as_itself h = record { r = refl; device = refl; w = refl; stream = refl; function = refl; system = refl }

-- ---- the first block

-- with E = 0 it begins a message
pub begun_first : (h : Header) → h.number ≡ 1 → h.e ≡ false → Begun (h ∷ [])
begun_first h one more =
    record {
      some = omega arith;
      numbers = each_first (λ i b. b.number ≡ i + 1) h one;
      no_last = each_first (λ i b. b.e ≡ false) h more;
      same = each_first (λ i b. SameElse b h) h (same_as_itself h);
    }

-- with E = 1 it is one
pub whole_first : (h : Header) → (h.number ≡ 1) ⊎ (h.number ≡ 0) → h.e ≡ true → Whole (h ∷ [])
whole_first h number last =
    record {
      some = omega arith;
      numbers = ⊎_elim (λ one. inl (each_first (λ i b. b.number ≡ i + 1) h one)) (λ z. inr (record { one = refl; zero = z })) number;
      last_alone = each_first (λ i b. (b.e ≡ true) ↔ (i + 1 ≡ 1)) h (λ e. refl, λ e. last);
      same = each_first (λ i b. SameElse b h) h (same_as_itself h);
    }

-- ---- one block more

-- all of them have one header else
same_more :
    (bs : List Header) (h : Header) → Begun bs → SameElse h (first_of bs)
    → (i : ℕ) → i < length (bs ++ (h ∷ [])) → SameElse (block_at (bs ++ (h ∷ [])) i) (first_of (bs ++ (h ∷ [])))
same_more bs h g same = rw (first_more bs h g.some) (each_more (λ i b. SameElse b (first_of bs)) bs h g.same same)

-- with E = 0 more is to come
pub begun_more : (bs : List Header) (h : Header) → Begun bs → h.number ≡ length bs + 1 → h.e ≡ false → SameElse h (first_of bs) → Begun (bs ++ (h ∷ []))
begun_more bs h g number more same =
    record {
      some = omega (arith, one_longer bs h);
      numbers = each_more (λ i b. b.number ≡ i + 1) bs h g.numbers number;
      no_last = each_more (λ i b. b.e ≡ false) bs h g.no_last more;
      same = same_more bs h g same;
    }

-- with E = 1 it is the last
pub whole_more : (bs : List Header) (h : Header) → Begun bs → h.number ≡ length bs + 1 → h.e ≡ true → SameElse h (first_of bs) → Whole (bs ++ (h ∷ []))
whole_more bs h g number last same =
    record {
      some = omega (arith, one_longer bs h);
      numbers = inl (each_more (λ i b. b.number ≡ i + 1) bs h g.numbers number);
      last_alone =
          each_more (λ i b. (b.e ≡ true) ↔ (i + 1 ≡ length (bs ++ (h ∷ [])))) bs h
          (λ i less. (λ e. absurd (false≢true (sym (g.no_last i less) ∙ e)), λ e. absurd (omega (arith, one_longer bs h))))
          (λ e. sym (one_longer bs h), λ e. last);
      same = same_more bs h g same;
    }

-- ---- a message that has begun is not whole

-- no block is no message
pub none_not_whole : Whole [] → ⊥
none_not_whole w = omega (arith, w.some)

-- its last block would have E = 1
pub begun_not_whole : (bs : List Header) → Begun bs → Whole bs → ⊥
begun_not_whole bs g w =
    let last : length bs - 1 + 1 ≡ length bs = omega (arith, w.some) in
    let within : length bs - 1 < length bs = omega (arith, w.some) in
    false≢true (sym (g.no_last _ within) ∙ (w.last_alone _ within).1 last)

-- ---- what the tests say

-- the number rule of a first block
pub starts : (h : Header) → starts_message h ≡ true ↔ StartsMessage h
unfolding starts_message
starts h =
    either_of (eqb h.number 1) (eqb h.number 0 && h.e) (h.number ≡ 1) ((h.number ≡ 0) × (h.e ≡ true)) (eqb-true _ _, eq-eqb _ _) (
      λ e. let w = (both _ h.e).0 e in (eqb-true _ _ w.0, w.1),
      λ w. (both _ h.e).1 (eq-eqb _ _ w.0, w.1),
    )

-- the first block of a message whose function is odd, or even
pub starts_with : (h : Header) (odd : ℕ) → eqb (h.function % 2) odd && starts_message h ≡ true ↔ ((h.function % 2 ≡ odd) × StartsMessage h)
starts_with h odd = (
  λ t. let w = (both _ (starts_message h)).0 t in (eqb-true _ _ w.0, (starts h).0 w.1),
  λ w. (both _ (starts_message h)).1 (eq-eqb _ _ w.0, (starts h).1 w.1),
)

-- of a reply
pub starts_reply : (h : Header) → begins_reply h ≡ true → StartsMessage h
unfolding begins_reply
starts_reply h t = ((starts_with h 0).0 t).1

-- of a primary
pub starts_primary : (h : Header) → begins_primary h ≡ true → StartsMessage h
unfolding begins_primary
starts_primary h t = ((starts_with h 1).0 t).1

-- the number of a first block
pub number_first : (h : Header) → StartsMessage h → (h.number ≡ 1) ⊎ (h.number ≡ 0)
number_first h s = ⊎_elim inl (λ w. inr w.0) s

-- and of one behind which more come
pub number_one : (h : Header) → StartsMessage h → h.e ≡ false → h.number ≡ 1
number_one h s more = ⊎_elim (λ one. one) (λ w. absurd (false≢true (sym more ∙ w.1))) s

-- all that a further block has to have
pub continues : (id sys : ℕ) (a : Arriving) (h : Header) → continues_arriving id sys a h ≡ true ↔ Continuing id sys a.next a.kind h
unfolding continues_arriving same_kind
continues id sys a h = (
  λ t.
      let w = (both (eqb id h.device && eqb sys h.system && eqb h.number a.next) _).0 t in
      let x = (three (eqb id h.device) (eqb sys h.system) (eqb h.number a.next)).0 w.0 in
      let y = (three (eqb a.kind.stream h.stream) (eqb a.kind.function h.function) (beq a.kind.w h.w)).0 w.1 in
      record {
        device = sym (eqb-true _ _ x.0);
        system = sym (eqb-true _ _ x.1);
        number = eqb-true _ _ x.2;
        stream = sym (eqb-true _ _ y.0);
        function = sym (eqb-true _ _ y.1);
        w = sym ((same_bits a.kind.w h.w).0 y.2);
      },
  λ k.
      (both (eqb id h.device && eqb sys h.system && eqb h.number a.next) _).1 (
        (three _ _ _).1 (eq-eqb _ _ (sym k.device), eq-eqb _ _ (sym k.system), eq-eqb _ _ k.number),
        (three _ _ _).1 (eq-eqb _ _ (sym k.stream), eq-eqb _ _ (sym k.function), (same_bits a.kind.w h.w).1 (sym k.w)),
      ),
)

-- two blocks that passed rule 1 share all else where one continues the message of the other
pub same_else : (c : Terms) (m : Header) (next : ℕ) (h : Header) → Routed c m → Routed c h → Continues m next h → SameElse h m
same_else c m next h q p k =
    record { r = p.r ∙ sym q.r; device = k.device; w = k.w; stream = k.stream; function = k.function; system = k.system }

-- E = 0, as a test
unset : (e : Bool) → not e ≡ true ↔ (e ≡ false)
unset true = (λ x. sym x, λ x. sym x)
unset false = (λ x. refl, λ x. refl)

-- rule 4
pub lacks : (h : Header) (size : ℕ) → lacks_data h size ≡ true ↔ LacksData h size
unfolding lacks_data
lacks h size = (
  λ t.
      let w = (both (eqb size 0) _).0 t in
      record {
        none = eqb-true _ _ w.0;
        wanted = (either_of (not h.e) (ltb 1 h.number) _ _ (unset h.e) (ltb-true _ _, lt-ltb _ _)).0 w.1;
      },
  λ k.
      (both (eqb size 0) _).1
      (eq-eqb _ _ k.none, (either_of (not h.e) (ltb 1 h.number) _ _ (unset h.e) (ltb-true _ _, lt-ltb _ _)).1 k.wanted),
)

-- ---- what becomes of a block

-- a block with E = 0 that has no lack of data has data
some_data : (h : Header) (size : ℕ) → (LacksData h size → ⊥) → h.e ≡ false → 1 ≤ size
some_data h zero n e = absurd (n (record { none = refl; wanted = inl e }))
some_data h (suc size) n e = omega arith

-- rules 4, 5 and 7, each with what is known where it holds
pub by_fate :
    (h : Header) (have size : ℕ) (P : Fate → Type 0)
    → (LacksData h size → P Empty)
    → ((LacksData h size → ⊥) → message_limit < have + size → P TooLong)
    → ((LacksData h size → ⊥) → h.e ≡ true → have + size ≤ message_limit → P (Last (have + size)))
    → ((LacksData h size → ⊥) → h.e ≡ false → have + size ≤ message_limit → 1 ≤ size → P (More (have + size)))
    → P (fate_of h have size)
unfolding fate_of too_long
by_fate h have size P empty long last more =
    judged (lacks_data h size) (lacks h size) (λ t. P (cond t Empty (cond (too_long have size) TooLong (kept_of h (have + size))))) empty
    (λ n.
    chosen P (too_long have size) _ _ (λ l. long n (ltb-true _ _ l))
    (λ l.
    chosen P h.e _ _ (λ e. last n e (ltb-false _ _ l))
    (λ e. more n e (ltb-false _ _ l) (some_data h size n e))))
