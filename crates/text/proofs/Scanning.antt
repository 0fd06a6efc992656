-- Texts as the loops go over them: a byte looked for, a number digit by digit, bytes two digits at a time. Assumes nothing.
use Prim.Native.Nat.{ℕ, zero, suc, ◌+◌, ◌-◌, ◌*◌, ◌/◌, ◌≤◌, ◌<◌}
use mathlib.Core.Path.{◌≡◌, refl, sym, ap, ◌∙◌}
use mathlib.Core.Bool.{Bool, ◌&&◌}
use mathlib.Core.List.{List, [], ◌∷◌, ◌++◌}
use native.Mathlib.Nat.{zero-add}
use native.Mathlib.Omega.{arith}
use lib.Dec.{ltb, leb}
use borrow.Author.Tests.{ltb-false, leb-true}
use lib.ListN.{length, drop, get_or, set, length-drop}
use lib.Seq.{take-length, drop-length, drop-nil, drop-cons, drop-drop, paste, paste-suc}
use Rattle.std.specs.Prelude.{Option, Some, None, is_some, unwrap_or, option_and_then}
use Rattle.std.specs.List.{list_all}
use Rattle.std.proofs.lemmas.Option.{none-some, same_Some}
use Rattle.text.specs.Find.{index_of}
use Rattle.wire.specs.Lent.{on_front}
use Rattle.wire.proofs.Choice.{chosen}
use Rattle.text.specs.Field.{space, behind_of}
use Rattle.text.specs.Number.{with_digit, with_digits, number_of}
use Rattle.text.specs.Hex.{digit_of, are_digits, byte_of, data_of}

-- nothing stands behind the end
pub nothing_behind : (text : List ℕ) (n : ℕ) → length text ≤ n → drop n text ≡ []
nothing_behind text n h =
    let whole : length text + (n - length text) ≡ n = omega arith in
    ap (λ (k : ℕ). drop k text) (sym whole) ∙ sym (drop-drop (n - length text) (length text) text)
    ∙ ap (drop (n - length text)) (drop-length text) ∙ drop-nil (n - length text)

-- what stands behind a field is no longer than the text
pub behind_length : (text : List ℕ) → length (behind_of text) ≤ length text
unfolding behind_of
behind_length text = omega (arith, length-drop (index_of space text + 1) text)

-- ---- numbers

-- a number is never above the highest that any may say
pub digit_most : (n b m : ℕ) → with_digit n b ≡ Some m → m ≤ 100000
unfolding with_digit
digit_most n b m =
    chosen (λ (o : Option ℕ). o ≡ Some m → m ≤ 100000) (ltb b 0x30) _ _ (λ e o. absurd (none-some _ o))
    (λ e. chosen (λ (o : Option ℕ). o ≡ Some m → m ≤ 100000) (ltb 0x39 b) _ _ (λ e o. absurd (none-some _ o))
    (λ e. chosen (λ (o : Option ℕ). o ≡ Some m → m ≤ 100000) (ltb 100000 (n * 10 + (b - 0x30))) _ _ (λ e o. absurd (none-some _ o))
    (λ e o. omega (arith, ltb-false 100000 (n * 10 + (b - 0x30)) e, same_Some _ _ o))))

-- one digit more, and the digits behind it; and where there is none more
digits_on : (text : List ℕ) (i n : ℕ) → i < length text
    → with_digits n (drop i text) ≡ option_and_then (λ (m : ℕ). with_digits m (drop (i + 1) text)) (with_digit n (get_or text i 0))
unfolding with_digits
digits_on text i n h =
    let next : suc i ≡ i + 1 = omega arith in
    ap (with_digits n) (drop-cons text i 0 h) ∙ ap (λ (k : ℕ). option_and_then (λ (m : ℕ). with_digits m (drop k text)) (with_digit n (get_or text i 0))) next

pub digits_some : (text : List ℕ) (i n m : ℕ) → i < length text → with_digit n (get_or text i 0) ≡ Some m
    → with_digits n (drop i text) ≡ with_digits m (drop (i + 1) text)
digits_some text i n m h e = digits_on text i n h ∙ ap (option_and_then (λ (k : ℕ). with_digits k (drop (i + 1) text))) e

pub digits_none : (text : List ℕ) (i n : ℕ) → i < length text → with_digit n (get_or text i 0) ≡ None → with_digits n (drop i text) ≡ None
digits_none text i n h e = digits_on text i n h ∙ ap (option_and_then (λ (k : ℕ). with_digits k (drop (i + 1) text))) e

pub digits_end : (text : List ℕ) (i n : ℕ) → length text ≤ i → with_digits n (drop i text) ≡ Some n
unfolding with_digits
digits_end text i n h = ap (with_digits n) (nothing_behind text i h)

pub some_digits : (text : List ℕ) → 1 ≤ length text → with_digits 0 text ≡ number_of text
unfolding number_of
some_digits [] h = absurd (omega arith)
some_digits (b ∷ bs) h = refl

pub no_digits : (text : List ℕ) → length text ≡ 0 → None ≡ number_of text
unfolding number_of
no_digits [] e = refl
no_digits (b ∷ bs) e = absurd (omega arith)

-- ---- bytes

-- each byte of some digits is one
pub all_digits : (text : List ℕ) → list_all (λ (b : ℕ). is_some (digit_of b)) text ≡ are_digits text
unfolding are_digits
all_digits [] = refl
all_digits (b ∷ bs) = ap (λ (t : Bool). is_some (digit_of b) && t) (all_digits bs)

-- a digit is worth 15 at most
pub value_most : (b : ℕ) → unwrap_or (digit_of b) 0 ≤ 15
unfolding digit_of
value_most b =
    chosen (λ (o : Option ℕ). unwrap_or o 0 ≤ 15) (ltb b 0x30) _ _ (λ e. omega arith)
    (λ e. chosen (λ (o : Option ℕ). unwrap_or o 0 ≤ 15) (leb b 0x39) _ _ (λ e. omega (arith, leb-true b 0x39 e))
    (λ e. chosen (λ (o : Option ℕ). unwrap_or o 0 ≤ 15) (ltb b 0x41) _ _ (λ e. omega arith)
    (λ e. chosen (λ (o : Option ℕ). unwrap_or o 0 ≤ 15) (leb b 0x46) _ _ (λ e. omega (arith, leb-true b 0x46 e))
    (λ e. chosen (λ (o : Option ℕ). unwrap_or o 0 ≤ 15) (ltb b 0x61) _ _ (λ e. omega arith)
    (λ e. chosen (λ (o : Option ℕ). unwrap_or o 0 ≤ 15) (leb b 0x66) _ _ (λ e. omega (arith, leb-true b 0x66 e)) (λ e. omega arith))))))

pub data_length : (text : List ℕ) → length (data_of text) ≡ length text / 2
unfolding data_of
data_length [] = refl
data_length (x ∷ []) = refl
data_length (x ∷ y ∷ rest) = let more = data_length rest in omega arith

pub data_at : (text : List ℕ) (i : ℕ) → 2 * i + 1 < length text → byte_of (get_or text (2 * i) 0) (get_or text (2 * i + 1) 0) ≡ get_or (data_of text) i 0
unfolding data_of
data_at [] i h = absurd (omega arith)
data_at (x ∷ []) i h = absurd (omega arith)
data_at (x ∷ y ∷ rest) zero h = refl
data_at (x ∷ y ∷ rest) (suc i) h =
    let first : 2 * suc i ≡ suc (suc (2 * i)) = omega arith in
    let second : 2 * suc i + 1 ≡ suc (suc (2 * i + 1)) = omega arith in
    rw (second, first) (data_at rest i (omega arith))

-- one more of some bytes put at the front, and all of them
pub paste_next : (out s : List ℕ) (i : ℕ) → i < length out → i < length s → set (paste out 0 s i) i (get_or s i 0) ≡ paste out 0 s (i + 1)
paste_next out s i fits more =
    let next : suc i ≡ i + 1 = omega arith in
    ap (λ (k : ℕ). set (paste out 0 s i) k (get_or s i 0)) (sym (zero-add i)) ∙ paste-suc out 0 s i 0 (omega arith) more ∙ ap (paste out 0 s) next

pub pasted : (out s : List ℕ) (n : ℕ) → n ≡ length s → paste out 0 s n ≡ on_front s out
unfolding on_front
pasted out s n e = rw (e, take-length s) (ap (λ (k : ℕ). s ++ drop k out) (zero-add (length s)))
