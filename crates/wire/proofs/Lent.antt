-- Bytes put into lent memory (`specs/Lent.antt`): what stands there then, and what is as it was. Assumes nothing.
use Rattle.std.proofs.Common.{◌≡◌, ℕ, ◌+◌, ◌-◌, ◌<◌, ◌≤◌, ltb, List, ◌++◌, length, get_or, take, drop, sym, refl, ap, ◌∙◌, append_assoc, add-zero, arith, length-append, length-drop, length-take-le, get_or-drop, get_or-take, take-take, drop-drop, take_at, drop_at, ltb-false, le-ltb, lt-ltb, le-leb}
use native.Mathlib.Nat.{sub_self}
use lib.Seq.{take-append-le, drop-append-add, drop-append-le}
use borrow.Author.Tests.{lt-leb}
use borrow.Rule.Slice.PartMut.{put_mid}
use Rattle.wire.specs.Bytes.{part}
use Rattle.wire.specs.Lent.{splice, put_at, on_front, Filled, filled, onto, filled_with}
use Rattle.wire.specs.Theorems.{PutsAllOrNothing, FillsAllOrNothing}
use Rattle.wire.proofs.Choice.{chosen}
use Rattle.wire.proofs.Parts.{part_of_front}

-- a copy into the part of `out` that begins at index i, once that part is back
pub copied : (out : List ℕ) (i : ℕ) (bs back : List ℕ) → i + length bs ≤ length out
    → back ≡ bs → put_mid i (i + length bs - i) out back ≡ splice out i bs
unfolding splice
copied out i bs back fits e =
    let k : i + length bs - i ≡ length bs = omega arith in
    rw (e, k, drop-drop (length bs) i out) refl

-- bytes put behind a front belong to the front
pub front_more : (out p bs : List ℕ) (n : ℕ) → length p ≡ n → splice (on_front p out) n bs ≡ on_front (p ++ bs) out
unfolding splice on_front
front_more out p bs n e = rw (← e)
    ((λ k. take_at p (drop (length p) out) (length p) refl k
    ++ (bs ++ (drop-append-add p (drop (length p) out) (length bs) ∙ drop-drop (length bs) (length p) out ∙ ap (λ (m : ℕ). drop m out) (sym (length-append p bs))) k))
    ∙ sym (append_assoc p bs (drop (length (p ++ bs)) out)))

-- bytes put from index i on into a list that has room for them
module _ (l : List ℕ) (i : ℕ) (bs : List ℕ) (fits : i + length bs ≤ length l) where
  -- up to the end of the new bytes: what was before them, and they
  splice_front : take (i + length bs) (splice l i bs) ≡ take i l ++ bs
  unfolding splice
  splice_front =
      let before = length-take-le i l (omega arith) in
      rw (← append_assoc (take i l) bs (drop (i + length bs) l)) (take_at (take i l ++ bs) (drop (i + length bs) l) (i + length bs) (omega (arith, length-append (take i l) bs)))

  splice_end : drop (i + length bs) (splice l i bs) ≡ drop (i + length bs) l
  unfolding splice
  splice_end =
      let before = length-take-le i l (omega arith) in
      rw (← append_assoc (take i l) bs (drop (i + length bs) l)) (drop_at (take i l ++ bs) (drop (i + length bs) l) (i + length bs) (omega (arith, length-append (take i l) bs)))

  -- all before them, and all behind them, is as it was
  splice_below : (k : ℕ) → k ≤ i → take k (splice l i bs) ≡ take k l
  splice_below k h =
      let before = length-take-le i l (omega arith) in
      sym (take-take k (i + length bs) (splice l i bs) (omega arith)) ∙ ap (take k) splice_front ∙ take-append-le k (take i l) bs (omega arith) ∙ take-take k i l h

  splice_above : (k : ℕ) → i + length bs ≤ k → drop k (splice l i bs) ≡ drop k l
  splice_above k h =
      let m : ℕ = k - (i + length bs) in
      let whole : i + length bs + m ≡ k = omega arith in
      ap (λ (n : ℕ). drop n (splice l i bs)) (sym whole) ∙ sym (drop-drop m (i + length bs) (splice l i bs)) ∙ ap (drop m) splice_end ∙ drop-drop m (i + length bs) l ∙ ap (λ (n : ℕ). drop n l) whole

  -- there are as many bytes as there were
  pub splice_length : length (splice l i bs) ≡ length l
  unfolding splice
  splice_length =
      let before = length-take-le i l (omega arith) in
      omega (arith, length-append (take i l) (bs ++ drop (i + length bs) l), length-append bs (drop (i + length bs) l), length-drop (i + length bs) l)

  -- a byte before them, and one behind them
  pub byte_below : (j : ℕ) → j < i → get_or (splice l i bs) j 0 ≡ get_or l j 0
  byte_below j h = sym (get_or-take i (splice l i bs) j 0 h) ∙ ap (λ (xs : List ℕ). get_or xs j 0) (splice_below i (omega arith)) ∙ get_or-take i l j 0 h

  pub byte_above : (j : ℕ) → i + length bs ≤ j → get_or (splice l i bs) j 0 ≡ get_or l j 0
  byte_above j h = simp add-zero at (sym (get_or-drop j (splice l i bs) 0 0) ∙ ap (λ (xs : List ℕ). get_or xs 0 0) (splice_above j h) ∙ get_or-drop j l 0 0)

  -- a part that ends before them, and one that begins behind them
  pub part_below : (a e : ℕ) → a ≤ e → e ≤ i → part a e (splice l i bs) ≡ part a e l
  part_below a e order h =
      let size = splice_length in
      part_of_front a e (splice l i bs) order (omega arith) ∙ ap (drop a) (splice_below e h) ∙ sym (part_of_front a e l order (omega arith))

  pub part_above : (a e : ℕ) → i + length bs ≤ a → part a e (splice l i bs) ≡ part a e l
  unfolding part
  part_above a e h = ap (take (e - a)) (splice_above a h)

  -- a part that ends with them: what it had before them, and they
  pub part_joined : (a : ℕ) → a ≤ i → part a (i + length bs) (splice l i bs) ≡ part a i l ++ bs
  part_joined a h =
      let size = splice_length in
      let before = length-take-le i l (omega arith) in
      part_of_front a (i + length bs) (splice l i bs) (omega arith) (omega arith) ∙ ap (drop a) splice_front
      ∙ drop-append-le a (take i l) bs (omega arith) ∙ ap (λ (xs : List ℕ). xs ++ bs) (sym (part_of_front a i l h (omega arith)))

-- bytes that have room are put, and bytes that have none are not
pub put_fits : (l : List ℕ) (i : ℕ) (bs : List ℕ) → i + length bs ≤ length l → put_at l i bs ≡ splice l i bs
unfolding put_at
put_fits l i bs fits = rw (le-leb (i + length bs) (length l) fits)

pub put_none : (l : List ℕ) (i : ℕ) (bs : List ℕ) → length l < i + length bs → put_at l i bs ≡ l
unfolding put_at
put_none l i bs short = rw (lt-leb (i + length bs) (length l) short)

-- bytes put behind a front that they have room behind belong to the front
pub front_put : (out p bs : List ℕ) (n : ℕ) → length p ≡ n → n + length bs ≤ length out → put_at (on_front p out) n bs ≡ on_front (p ++ bs) out
unfolding on_front
front_put out p bs n e fits =
    put_fits (on_front p out) n bs (omega (arith, length-append p (drop (length p) out), length-drop (length p) out)) ∙ front_more out p bs n e

pub puts_all_or_nothing : PutsAllOrNothing
unfolding part
puts_all_or_nothing l i bs = record {
  there = λ fits.
      let whole : length bs ≡ i + length bs - i = omega arith in
      ap (λ (n : ℕ). take n (drop i (put_at l i bs))) whole ∙ ap (part i (i + length bs)) (put_fits l i bs fits)
      ∙ part_joined l i bs fits i (omega arith) ∙ ap (λ (n : ℕ). take n (drop i l) ++ bs) (sub_self i);
  before = λ fits. ap (take i) (put_fits l i bs fits) ∙ splice_below l i bs fits i (omega arith);
  behind = λ fits. ap (drop (i + length bs)) (put_fits l i bs fits) ∙ splice_above l i bs fits (i + length bs) (omega arith);
  no_room = put_none l i bs;
}

-- ---- memory filled from its front

-- where there is no room, and where there is
pub no_room : (p out : List ℕ) → length out < length p → filled 0 out ≡ filled_with p out
unfolding filled_with
no_room p out h = rw (lt-ltb _ _ h)

pub in_room : (p out : List ℕ) → length p ≤ length out → onto p out ≡ filled_with p out
unfolding filled_with
in_room p out h = rw (le-ltb _ _ h)

-- what is put lies within the memory
pub within : (p out : List ℕ) → (filled_with p out).count ≤ length out
unfolding filled_with
within p out = chosen (λ (f : Filled). f.count ≤ length out) (ltb (length out) (length p)) _ _ (λ e. omega arith) (λ e. ltb-false _ _ e)

pub fills_all_or_nothing : FillsAllOrNothing
unfolding on_front
fills_all_or_nothing p out =
    let count : Filled → ℕ = λ f. f.count in
    let memory : Filled → List ℕ = λ f. f.memory in
    record {
      counted = λ fits. ap count (sym (in_room p out fits));
      there = λ fits. ap (λ (f : Filled). take (length p) f.memory) (sym (in_room p out fits)) ∙ take_at p (drop (length p) out) (length p) refl;
      behind = λ fits. ap (λ (f : Filled). drop (length p) f.memory) (sym (in_room p out fits)) ∙ drop_at p (drop (length p) out) (length p) refl;
      no_room = λ short. (ap count (sym (no_room p out short)), ap memory (sym (no_room p out short)));
    }
