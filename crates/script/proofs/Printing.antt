-- Bytes put one behind another, the sizes of a line's fields, and bytes in hex. Assumes nothing.
use Prim.Native.Nat.{ℕ, suc, ◌+◌, ◌-◌, ◌*◌, ◌/◌, ◌≤◌, ◌<◌, max}
use mathlib.Core.Path.{◌≡◌, refl, sym, ap, ◌∙◌}
use mathlib.Core.Bool.{Bool, false}
use mathlib.Core.List.{List, [], ◌∷◌, ◌++◌, append_assoc}
use native.Mathlib.Nat.{add-zero}
use native.Mathlib.Numerals.{add-one}
use native.Mathlib.Omega.{arith}
use lib.Dec.{leb, ltb}
use lib.ListN.{length, take, drop, get_or, set, length-append, take-append-drop}
use lib.Seq.{length-take-le, take-suc, take-set-le, drop-set-add, drop-cons}
use borrow.Author.Tests.{le-leb, lt-leb, ltb-true, ltb-false, leb-true, leb-false}
use Rattle.wire.specs.Lent.{splice, on_front, Filled, filled, onto}
use Rattle.wire.proofs.Choice.{either, chosen}
use Rattle.wire.proofs.Lent.{front_more, splice_length}
use Rattle.script.specs.Hex.{hex_of, two_of}
use Rattle.script.specs.Printed.{ones_of, number_text, number_field, data_field, answer_text, verdict_text, dropped_text, data_fits}
use Rattle.script.proofs.Digits.{number_one, number_more}

pub put_nothing : (out : List ℕ) (i : ℕ) → splice out i [] ≡ out
unfolding splice
put_nothing out i = rw add-zero (take-append-drop i out)

-- bytes put at index 0 are at the front
pub put_first : (out p : List ℕ) → splice out 0 p ≡ on_front p out
unfolding on_front
put_first out p = front_more out [] p 0 refl

-- bytes put at an index, with all before them, are at the front
as_front : (out p : List ℕ) (i : ℕ) → i ≤ length out → splice out i p ≡ on_front (take i out ++ p) out
unfolding splice on_front
as_front out p i h =
    let size : length (take i out ++ p) ≡ i + length p = omega (arith, length-append (take i out) p, length-take-le i out h) in
    rw (size, append_assoc)

-- bytes put where others end
pub put_behind : (out p q : List ℕ) (i n : ℕ) → i ≤ length out → n ≡ i + length p → splice (splice out i p) n q ≡ splice out i (p ++ q)
put_behind out p q i n h e =
    let size : length (take i out ++ p) ≡ n = omega (arith, length-append (take i out) p, length-take-le i out h) in
    ap (λ (l : List ℕ). splice l n q) (as_front out p i h) ∙ front_more out (take i out ++ p) q n size ∙ rw (append_assoc, as_front out (p ++ q) i h)

pub three_length : (p q r : List ℕ) → length (p ++ (q ++ r)) ≡ length p + length q + length r
three_length p q r = omega (arith, length-append p (q ++ r), length-append q r)

-- two fields, and three, each put where the one before it ends
pub put_both : (out p q a b : List ℕ) (i j : ℕ) → a ≡ splice out 0 p → i ≡ 0 + length p → b ≡ splice a i q → j ≡ i + length q → filled j b ≡ onto (p ++ q) out
put_both out p q a b i j first at_q second end =
    let size : j ≡ length (p ++ q) = omega (arith, length-append p q) in
    let all : b ≡ on_front (p ++ q) out = second ∙ rw (first ∙ put_first out p) (front_more out p q i (omega arith)) in
    λ x. filled (size x) (all x)

pub put_three : (out p q r a b c : List ℕ) (i j k : ℕ)
    → a ≡ splice out 0 p → i ≡ 0 + length p → b ≡ splice a i q → j ≡ i + length q → c ≡ splice b j r → k ≡ j + length r → filled k c ≡ onto (p ++ (q ++ r)) out
put_three out p q r a b c i j k first at_q second at_r third end =
    let size : k ≡ length (p ++ (q ++ r)) = omega (arith, three_length p q r) in
    let two = put_both out p q a b i j first at_q second at_r in
    let all : c ≡ on_front (p ++ (q ++ r)) out =
    third ∙ rw (ap (λ (f : Filled). f.memory) two, ← append_assoc p q r) (front_more out (p ++ q) r j (omega (arith, length-append p q))) in
    λ x. filled (size x) (all x)

pub number_length : (n mark : ℕ) → length (number_field n mark) ≡ length (number_text n) + 1
number_length n mark = length-append (number_text n) (mark ∷ [])

-- bytes put with one byte behind them, that one first
put_before : (out p : List ℕ) (i k b : ℕ) → k ≡ i + length p → k < length out → splice (set out k b) i p ≡ splice out i (p ++ (b ∷ []))
unfolding splice
put_before out p i k b e h =
    let next : i + length (p ++ (b ∷ [])) ≡ suc k = omega (arith, length-append p (b ∷ [])) in
    let before : take i (set out k b) ≡ take i out = take-set-le i out k b (omega arith) in
    let behind : drop k (set out k b) ≡ b ∷ drop (suc k) out =
    ap (λ (j : ℕ). drop k (set out j b)) (sym (add-zero k)) ∙ drop-set-add k out 0 b ∙ ap (λ (l : List ℕ). set l 0 b) (drop-cons out k 0 h) in
    rw (next, ← e, before, behind, append_assoc)

-- A number is put from its last digit on, and the byte behind it before that: what is still to be put gives the same.
pub put_mark : (out : List ℕ) (i k n mark : ℕ) → k ≡ i + length (number_text n) → k < length out → splice (set out k mark) i (number_text n) ≡ splice out i (number_field n mark)
put_mark out i k n mark = put_before out (number_text n) i k mark

pub put_last : (out : List ℕ) (i k n : ℕ) → 10 ≤ n → k ≡ i + length (number_text (n / 10)) → k < length out
    → splice (set out k (ones_of n)) i (number_text (n / 10)) ≡ splice out i (number_text n)
put_last out i k n h e fits = put_before out (number_text (n / 10)) i k (ones_of n) e fits ∙ ap (splice out i) (sym (number_more n h))

pub put_first_digit : (out : List ℕ) (i n : ℕ) → n < 10 → i < length out → set out i (ones_of n) ≡ splice out i (number_text n)
put_first_digit out i n h fits =
    sym (put_nothing (set out i (ones_of n)) i) ∙ put_before out [] i i (ones_of n) (sym (add-zero i)) fits ∙ ap (splice out i) (sym (number_one n h))

pub hex_length : (bs : List ℕ) → length (hex_of bs) ≡ 2 * length bs
unfolding hex_of
hex_length [] = refl
hex_length (b ∷ bs) = omega (arith, hex_length bs)

pub hex_append : (xs ys : List ℕ) → hex_of (xs ++ ys) ≡ hex_of xs ++ hex_of ys
unfolding hex_of
hex_append [] ys = refl
hex_append (x ∷ xs) ys = ap (λ (l : List ℕ). two_of x ++ l) (hex_append xs ys)

-- one byte more
pub hex_next : (bs : List ℕ) (i : ℕ) → i < length bs → hex_of (take (i + 1) bs) ≡ hex_of (take i bs) ++ two_of (get_or bs i 0)
unfolding hex_of
hex_next bs i h = rw (add-one, take-suc bs i 0 h) (hex_append (take i bs) (get_or bs i 0 ∷ []))

-- the memory keeps its size while bytes are put in hex one by one
pub hex_room : (out bs : List ℕ) (i k : ℕ) → i + length (hex_of bs) ≤ length out → k ≤ length bs → length (splice out i (hex_of (take k bs))) ≡ length out
hex_room out bs i k fits h =
    splice_length out i (hex_of (take k bs)) (omega (arith, hex_length bs, hex_length (take k bs), length-take-le k bs h))

-- the two digits of the next byte, put where those of the bytes before it end
pub put_two : (out bs a b digits : List ℕ) (i k : ℕ) → i ≤ length out → k < length bs
    → a ≡ splice out i (hex_of (take k bs)) → digits ≡ two_of (get_or bs k 0) → b ≡ splice a (i + 2 * k) digits → b ≡ splice out i (hex_of (take (k + 1) bs))
put_two out bs a b digits i k fits h before two put =
    let size : i + 2 * k ≡ i + length (hex_of (take k bs)) = omega (arith, hex_length (take k bs), length-take-le k bs (omega arith)) in
    put ∙ rw (before, two, hex_next bs k h) (put_behind out (hex_of (take k bs)) (two_of (get_or bs k 0)) i (i + 2 * k) fits size)

-- the field of no bytes, and of some
pub no_data : (bs : List ℕ) → length bs ≡ 0 → data_field bs ≡ 0x2D ∷ 0x20 ∷ []
no_data [] e = refl
no_data (b ∷ bs) e = absurd (omega arith)

pub some_data : (bs : List ℕ) → (length bs ≡ 0 → ⊥) → data_field bs ≡ hex_of bs ++ (0x20 ∷ [])
some_data [] e = absurd (e refl)
some_data (b ∷ bs) e = refl

-- some bytes in hex, and a space put where they end
pub put_some : (out bs a b : List ℕ) (i n : ℕ) → i ≤ length out → (length bs ≡ 0 → ⊥) → n ≡ i + 2 * length bs
    → a ≡ splice out i (hex_of bs) → b ≡ splice a n (0x20 ∷ []) → b ≡ splice out i (data_field bs)
put_some out bs a b i n fits some at_space digits space =
    space ∙ rw (digits, some_data bs some) (put_behind out (hex_of bs) (0x20 ∷ []) i n fits (omega (arith, hex_length bs)))

pub data_length : (bs : List ℕ) → length (data_field bs) ≡ max 2 (2 * length bs + 1)
data_length [] = refl
data_length (b ∷ bs) = omega (arith, length-append (hex_of (b ∷ bs)) (0x20 ∷ []), hex_length (b ∷ bs))

-- the test on the count of the bytes is that of the field's size
pub data_fits_lem : (bs : List ℕ) (room : ℕ) → data_fits (length bs) room ≡ leb (length (data_field bs)) room
unfolding data_fits
data_fits_lem bs room =
    let size = data_length bs in
    chosen (λ (t : Bool). t ≡ leb (length (data_field bs)) room) (ltb room 2) false (leb (length bs) ((room - 1) / 2))
    (λ e. sym (lt-leb (length (data_field bs)) room (omega (arith, ltb-true))))
    (λ e.
    either (leb (length bs) ((room - 1) / 2)) (λ t. t ≡ leb (length (data_field bs)) room)
    (λ f. sym (le-leb (length (data_field bs)) room (omega (arith, ltb-false, leb-true)))) (λ f. sym (lt-leb (length (data_field bs)) room (omega (arith, ltb-false, leb-false)))))

pub answer_length : (number : ℕ) (bs : List ℕ) (note : ℕ)
    → length (answer_text number bs note) ≡ length (number_text number) + 1 + length (data_field bs) + (length (number_text note) + 1)
answer_length number bs note =
    omega (arith, three_length (number_field number 0x20) (data_field bs) (number_field note 0x0A), number_length number 0x20, number_length note 0x0A)

pub verdict_length : (place verdict : ℕ) → length (verdict_text place verdict) ≡ 2 + (length (number_text place) + 1) + (length (number_text verdict) + 1)
verdict_length place verdict =
    omega (arith, length-append (number_field place 0x20) (number_field verdict 0x0A), number_length place 0x20, number_length verdict 0x0A)

pub dropped_length : (count : ℕ) → length (dropped_text count) ≡ 2 + (length (number_text count) + 1)
dropped_length count = omega (arith, number_length count 0x0A)

-- the test on what the two numbers leave is that of the whole answer
pub answer_fits : (number : ℕ) (bs : List ℕ) (note a b room : ℕ) → a ≡ length (number_text number) + 1 → b ≡ length (number_text note) + 1 → a + b ≤ room
    → data_fits (length bs) (room - (a + b)) ≡ leb (length (answer_text number bs note)) room
answer_fits number bs note a b room first last h =
    let size = answer_length number bs note in
    data_fits_lem bs (room - (a + b))
    ∙ either (leb (length (data_field bs)) (room - (a + b))) (λ t. t ≡ leb (length (answer_text number bs note)) room)
    (λ f. sym (le-leb (length (answer_text number bs note)) room (omega (arith, leb-true))))
    (λ f. sym (lt-leb (length (answer_text number bs note)) room (omega (arith, leb-false))))
