-- A block that comes in on a line that loses nothing, byte by byte: it is acknowledged and judged as it is. Assumes nothing.
use Prim.Native.Nat.{ℕ, zero, suc, ◌+◌, ◌/◌, ◌%◌, ◌≤◌, ◌<◌}
use mathlib.Core.Path.{◌≡◌, refl, sym, ap, ◌∙◌}
use mathlib.Core.Bool.{false}
use mathlib.Core.List.{List, [], ◌∷◌, ◌++◌, append_assoc, append-nil}
use native.Mathlib.Omega.{arith}
use lib.ListN.{length, drop, set, length-append}
use lib.Seq.{set-append_seam}
use borrow.Author.Tests.{le-leb, lt-ltb, le-ltb, eq-eqb, ne_eqb}
use Rattle.wire.specs.Bytes.{Bytes, pair_of, halves_of}
use Rattle.wire.specs.Sum.{plain_sum, checksum_of, sum_with}
use Rattle.wire.proofs.Sums.{sum_append, sum_most, sum_by_byte}
use Rattle.settings.specs.Panel.{between}
use Rattle.block.specs.Block.{framed}
use Rattle.line.specs.Codes.{ENQ, EOT, ACK}
use Rattle.line.specs.Line.{line_at, goes, stays, rises, heard, byte_of, idle_byte, length_byte, body_byte, low_byte, settle_idle, settle_of}
use Rattle.line.specs.Range.{arrival_in_range}
use Rattle.line.specs.declared.phase.Arrival.{Arrival}
use Rattle.line.specs.declared.phase.Phase.{Phase}
use Rattle.line.specs.declared.phase.Phase.TheVariants.{Idle, WaitLength, Body}
use Rattle.line.specs.declared.step.Out.TheVariants.{Nothing, Code}
use Rattle.line.specs.declared.step.Told.TheVariants.{Up}
use Rattle.exchange.specs.Note.{note_number}
use Rattle.exchange.specs.Judge.{Judging}
use Rattle.exchange.specs.Assembly.{passes}
use Rattle.exchange.specs.declared.Exchange.{Exchange}
use Rattle.link.specs.Courier.{carried}
use Rattle.link.specs.Run.{judging, judged_as}
use Rattle.link.specs.SameMessage.{End, end_of, Said, noting, behind, hears, hears_late, hears_all, total}
use Rattle.link.specs.declared.Outcome.TheVariants.{Done}
use Rattle.link.specs.declared.Settings.{Settings}
use Rattle.link.specs.declared.Link.{Link}
use Rattle.link.proofs.same_message.Calls.{said, course_said, courier_rests, unit, Sound, says, quiet_said, Still, Counts, at, heard_late, idle_counts, length_counts, body_counts}

-- ---- bytes, one after the other

-- a byte to which something is said, and the bytes behind it
pub first_heard : (o : List ℕ) (w : ℕ → ℕ) (e : End) (b : ℕ) (bs : List ℕ) (s : Said) → hears_late o (w 0) e b ≡ s
    → hears_all o w e (b ∷ bs) ≡ behind s (hears_all o (λ i. w (suc i)) s.end bs)
unfolding hears_all
first_heard o w e b bs s so = ap (λ (z : Said). behind z (hears_all o (λ i. w (suc i)) z.end bs)) so

-- one byte alone
pub one_heard : (o : List ℕ) (w : ℕ → ℕ) (e : End) (b : ℕ) (s : Said) → hears_late o (w 0) e b ≡ s → hears_all o w e (b ∷ []) ≡ s
unfolding hears_all
one_heard o w e b s so = first_heard o w e b [] s so ∙ (λ i. noting s.end (append-nil s.bytes i) (append-nil s.notes i))

-- ---- the ticks before them

-- before those behind the first n
unfoldable from : (ℕ → ℕ) → ℕ → ℕ → ℕ
from w zero = w
from w (suc n) = from (λ i. w (suc i)) n

from_at : (w : ℕ → ℕ) (n i : ℕ) → from w n i ≡ w (n + i)
unfolding from
from_at w zero i = let e : i ≡ 0 + i = omega arith in ap w e
from_at w (suc n) i = let e : suc (n + i) ≡ suc n + i = omega arith in from_at (λ j. w (suc j)) n i ∙ ap w e

-- in all: the first n, and two more
two_more : (w : ℕ → ℕ) (n : ℕ) → total w (n + 2) ≡ total w n + (from w n 0 + from w n 1)
unfolding total from
two_more w zero = omega arith
two_more w (suc n) =
    let e : suc n + 2 ≡ suc (n + 2) = omega arith in
    ap (total w) e ∙ omega (arith, two_more (λ i. w (suc i)) n)

-- ---- a block

abbrev coming : ℕ → ℕ → ℕ → ℕ → Arrival
coming n got sum high = record { length = n; got = got; sum = sum; high = high }

-- the received bytes once a block of these bytes came
abbrev pub overwritten : List ℕ → List ℕ → List ℕ
overwritten rs bs = bs ++ drop (length bs) rs

-- a block went up: ACK, and what its judge left
abbrev pub ack_of : Settings → List ℕ → ℕ → Judging → Said
ack_of s rs k j = noting (end_of (unit s Idle rs j.answer.exchange k) j.room) (ACK ∷ []) (note_number j.answer.note ∷ [])

-- sums of bytes
plus : (b : ℕ) (xs : List ℕ) → plain_sum (b ∷ xs) ≡ b + plain_sum xs
unfolding plain_sum
plus b xs = refl

none_yet : plain_sum [] ≡ 0
unfolding plain_sum
none_yet = refl

in_sum : (p : List ℕ) → plain_sum p ≤ 64770 → checksum_of p ≤ 64770
unfolding checksum_of
in_sum p small = omega arith

module _ (o : List ℕ) (long : 257 ≤ length o) (s : Settings) (x : Exchange) (k : ℕ) (room : List ℕ)
    (g : (n : ℕ) → Sound s (passes s.terms x n) k room) (most_ticks : ℕ) (still : Still s.terms x most_ticks) where
  abbrev here : Phase → List ℕ → ℕ → End
  here = at s x k room o long g

  -- ENQ gives EOT
  pub enq_heard : (rs : List ℕ) (n : ℕ) → n ≤ most_ticks → hears_all o (λ i. n) (end_of (unit s Idle rs x k) room) (ENQ ∷ [])
      ≡ said (here (WaitLength 0) rs n) (EOT ∷ [])
  unfolding idle_byte passes
  enq_heard rs n early =
      let e : 0 + n ≡ n = omega arith in
      one_heard o (λ i. n) _ ENQ _
      (heard_late s x k room o long g (λ i. Idle) rs 0 n ENQ (idle_counts s.limits n) (λ i l. still i (omega arith)) ∙ ap (λ (t : ℕ). hears o (here Idle rs t) ENQ) e
      ∙ says s (passes s.terms x n) k room o long (g n) Idle rs ENQ _ refl refl
      ∙ quiet_said s (passes s.terms x n) k room o Idle (WaitLength 0) (Code EOT) rs rs refl)

  -- a byte to which nothing is said, and which brings the line to another phase
  byte_taken : (phase : ℕ → Phase) (q : Phase) (w : ℕ → ℕ) (m b : ℕ) (rs ss bs : List ℕ) → Counts s.limits phase (w 0) → m + w 0 ≤ most_ticks
      → byte_of s.limits (line_at false (phase (w 0))) b rs ≡ heard (goes (line_at false (phase (w 0))) q Nothing) ss
      → settle_of (line_at false q) ≡ stays (line_at false q)
      → hears_all o w (here (phase 0) rs m) (b ∷ bs) ≡ hears_all o (λ i. w (suc i)) (here q ss (m + w 0)) bs
  byte_taken phase q w m b rs ss bs c early so z =
      let p : Phase = phase (w 0) in
      let y : Exchange = passes s.terms x (m + w 0) in
      first_heard o w _ b bs _
      (heard_late s x k room o long g phase rs m (w 0) b c (λ i l. still i (omega arith))
      ∙ says s y k room o long (g (m + w 0)) p rs b (heard (goes (line_at false p) q Nothing) ss) (c.ranged (w 0) (omega arith)) so
      ∙ quiet_said s y k room o p q Nothing rs ss z)

  module _ (n : ℕ) (ten : 10 ≤ n) (most : n ≤ 254) where
    -- the numbers of a body that comes in are in their ranges, and T1 runs
    body_goes : (got sum high t : ℕ) → got ≤ 255 → sum ≤ 64770 → t ≤ s.limits.t1.0 → Counts s.limits (λ i. Body i (coming n got sum high)) t
    unfolding arrival_in_range between
    body_goes got sum high t few small fits =
        body_counts s.limits t (coming n got sum high) (simp (le-leb 10 n ten, le-leb n 254 most, le-leb got 255 few, le-leb sum 64770 small)) (g 0).t1 fits

    -- the length byte
    length_heard : (w : ℕ → ℕ) (m : ℕ) (rs bs : List ℕ) → w 0 ≤ s.limits.t2.0 → m + w 0 ≤ most_ticks
        → hears_all o w (here (WaitLength 0) rs m) (n ∷ bs) ≡ hears_all o (λ i. w (suc i)) (here (Body 0 (coming n 0 0 0)) rs (m + w 0)) bs
    unfolding length_byte between
    length_heard w m rs bs fits early =
        byte_taken (λ i. WaitLength i) (Body 0 (coming n 0 0 0)) w m n rs rs bs (length_counts s.limits (w 0) (g 0).t2 fits) early
        (simp (le-leb 10 n ten, le-leb n 254 most)) refl

    -- one of the n bytes
    byte_heard : (w : ℕ → ℕ) (m got sum b : ℕ) (rs bs : List ℕ) → got + 1 ≤ n → sum ≤ 64770 → w 0 ≤ s.limits.t1.0
        → m + w 0 ≤ most_ticks
        → hears_all o w (here (Body 0 (coming n got sum 0)) rs m) (b ∷ bs)
        ≡ hears_all o (λ i. w (suc i)) (here (Body 0 (coming n (got + 1) (sum_with sum b) 0)) (set rs got b) (m + w 0)) bs
    unfolding body_byte
    byte_heard w m got sum b rs bs less small fits early =
        byte_taken (λ i. Body i (coming n got sum 0)) (Body 0 (coming n (got + 1) (sum_with sum b) 0)) w m b rs (set rs got b) bs
        (body_goes got sum 0 (w 0) (omega arith) small fits) early (simp (lt-ltb got n (omega arith))) refl

    -- the two bytes of the sum: equal sums; no message starts or ends with the block
    sum_heard : (w : ℕ → ℕ) (m sum : ℕ) (rs : List ℕ)
        → (judging (unit s Idle rs (passes s.terms x (m + w 0 + w 1)) k) n room).answer.exchange.sending ≡ x.sending
        → m + w 0 + w 1 ≤ most_ticks → sum ≤ 64770 → w 0 ≤ s.limits.t1.0 → w 1 ≤ s.limits.t1.0
        → hears_all o w (here (Body 0 (coming n n sum 0)) rs m) (halves_of sum)
        ≡ ack_of s rs k (judging (unit s Idle rs (passes s.terms x (m + w 0 + w 1)) k) n room)
    unfolding body_byte low_byte settle_idle
    sum_heard w m sum rs kept early small first second =
        let over : pair_of (sum / 256) (sum % 256) ≡ sum = omega arith in
        let y : Exchange = passes s.terms x (m + w 0 + w 1) in
        let u : Link = unit s Idle rs y k in
        let j : Judging = judging u n room in
        let a : Arrival = coming n (n + 1) sum (sum / 256) in
        let c = body_goes (n + 1) sum (sum / 256) (w 1) (omega arith) small second in
        byte_taken (λ i. Body i (coming n n sum 0)) (Body 0 a) w m (sum / 256) rs rs (sum % 256 ∷ [])
        (body_goes n sum 0 (w 0) (omega arith) small first) (omega arith) (simp (le-ltb n n (omega arith), eq-eqb n n refl)) refl
        ∙ one_heard o (λ i. w (suc i)) _ (sum % 256) _
        (heard_late s x k room o long g (λ i. Body i a) rs (m + w 0) (w 1) (sum % 256) c (λ i l. still i (omega arith))
        ∙ says s y k room o long (g (m + w 0 + w 1)) (Body (w 1) a) rs (sum % 256) (heard (rises (line_at false (Body (w 1) a)) n) rs)
        (c.ranged (w 1) (omega arith))
        (simp (le-ltb (n + 1) n (omega arith), ne_eqb (n + 1) n (λ e. omega arith), eq-eqb (pair_of (sum / 256) (sum % 256)) sum over))
        ∙ course_said u (Code ACK) (Up n) (judged_as j.answer) Done j.room o (carried (line_at false Idle) k)
        (courier_rests y.sending j.answer.exchange.sending (Up n) (line_at false Idle) k j.room
        (kept ∙ sym (still (m + w 0 + w 1) early)) refl))

    -- all n bytes, p being those that came
    bytes_heard : (w : ℕ → ℕ) (m : ℕ) (p xs rest zs : List ℕ) → length p + length xs ≡ n → length xs ≤ length rest → plain_sum p + plain_sum xs ≤ 64770
        → ((i : ℕ) → i < length xs → w i ≤ s.limits.t1.0) → m + total w (length xs) ≤ most_ticks
        → hears_all o w (here (Body 0 (coming n (length p) (checksum_of p) 0)) (p ++ rest) m) (xs ++ zs)
        ≡ hears_all o (from w (length xs)) (here (Body 0 (coming n n (checksum_of (p ++ xs)) 0)) ((p ++ xs) ++ drop (length xs) rest) (m + total w (length xs))) zs
    unfolding from total
    bytes_heard w m p [] rest zs e fits small quick early =
        let all : length p ≡ n = omega arith in
        let none : p ≡ p ++ [] = sym (append-nil p) in
        let same : m ≡ m + 0 = omega arith in
        λ i. hears_all o w (here (Body 0 (coming n (all i) (checksum_of (none i)) 0)) (none i ++ rest) (same i)) zs
    bytes_heard w m p (b ∷ xs) [] zs e fits small quick early = absurd (omega arith)
    bytes_heard w m p (b ∷ xs) (y ∷ ys) zs e fits small quick early =
        let got = length-append p (b ∷ []) in
        let later : ℕ → ℕ = λ i. w (suc i) in
        let past : m + w 0 + total later (length xs) ≡ m + (w 0 + total later (length xs)) = omega arith in
        byte_heard w m (length p) (checksum_of p) b (p ++ (y ∷ ys)) (xs ++ zs) (omega arith) (in_sum p (omega (arith, plus b xs))) (quick 0 (omega arith))
        (omega arith)
        ∙ (λ i.
        hears_all o later
        (here (Body 0 (coming n (sym got i) (sym (sum_by_byte.1 p b) i) 0)) ((set-append_seam p y ys b ∙ sym (append_assoc p (b ∷ []) ys)) i) (m + w 0))
        (xs ++ zs))
        ∙ bytes_heard later (m + w 0) (p ++ (b ∷ [])) xs ys zs (omega arith) (omega arith)
        (omega (arith, sum_append p (b ∷ []), plus b xs, plus b [], none_yet)) (λ i less. quick (suc i) (omega arith)) (omega arith)
        ∙ (λ i.
        let back : (p ++ (b ∷ [])) ++ xs ≡ p ++ (b ∷ xs) = append_assoc p (b ∷ []) xs in
        hears_all o (from later (length xs)) (here (Body 0 (coming n n (checksum_of (back i)) 0)) (back i ++ drop (length xs) ys) (past i)) zs)

  -- a whole block: it is acknowledged, and judged as it came, its ticks later
  pub block_heard : (w : ℕ → ℕ) (m : ℕ) (rs bs : List ℕ)
      → (judging (unit s Idle (overwritten rs bs) (passes s.terms x (m + total w (1 + length bs + 2))) k) (length bs) room).answer.exchange.sending ≡ x.sending
      → m + total w (1 + length bs + 2) ≤ most_ticks → length rs ≡ 256 → 10 ≤ length bs → length bs ≤ 254 → Bytes bs
      → w 0 ≤ s.limits.t2.0 → ((i : ℕ) → 1 ≤ i → i < 1 + length bs + 2 → w i ≤ s.limits.t1.0)
      → hears_all o w (end_of (unit s (WaitLength 0) rs (passes s.terms x m) k) room) (framed bs)
      ≡ ack_of s (overwritten rs bs) k (judging (unit s Idle (overwritten rs bs) (passes s.terms x (m + total w (1 + length bs + 2))) k) (length bs) room)
  unfolding framed total
  block_heard w m rs bs kept early fits ten most all first quick =
      let n : ℕ = length bs in
      let small : plain_sum bs ≤ 64770 = omega (arith, sum_most bs all) in
      let later : ℕ → ℕ = λ i. w (suc i) in
      let sum : ℕ = checksum_of bs in
      let high = from_at later n 0 in
      let low = from_at later n 1 in
      let high_fits : w (suc (n + 0)) ≤ s.limits.t1.0 = quick (suc (n + 0)) (omega arith) (omega arith) in
      let low_fits : w (suc (n + 1)) ≤ s.limits.t1.0 = quick (suc (n + 1)) (omega arith) (omega arith) in
      let count : 1 + length bs + 2 ≡ suc (length bs + 2) = omega arith in
      let past : m + w 0 + total later n + from later n 0 + from later n 1 ≡ m + total w (1 + length bs + 2) =
      omega (arith, two_more later n, ap (total w) count) in
      length_heard n ten most w m rs (bs ++ halves_of sum) first (omega (arith, past))
      ∙ (λ i. hears_all o later (here (Body 0 (coming n 0 (sym sum_by_byte.0 i) 0)) rs (m + w 0)) (bs ++ halves_of sum))
      ∙ bytes_heard n ten most later (m + w 0) [] bs rs (halves_of sum) (omega arith) (omega arith) (omega (arith, none_yet))
      (λ i less. quick (suc i) (omega arith) (omega arith)) (omega (arith, past))
      ∙ sum_heard n ten most (from later n) (m + w 0 + total later n) sum (overwritten rs bs)
      (ap (λ (t : ℕ). (judging (unit s Idle (overwritten rs bs) (passes s.terms x t) k) n room).answer.exchange.sending) past ∙ kept)
      (omega (arith, past)) (in_sum bs small)
      (omega (arith, high, high_fits)) (omega (arith, low, low_fits))
      ∙ ap (λ (t : ℕ). ack_of s (overwritten rs bs) k (judging (unit s Idle (overwritten rs bs) (passes s.terms x t) k) n room)) past
