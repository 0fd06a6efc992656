-- What leaves in a call: codes at the front of the output, or a whole block, of a message or of a report. Assumes nothing.
use Prim.Native.Nat.{ℕ, ◌+◌, ◌≤◌}
use mathlib.Core.Path.{◌≡◌, refl, sym, ap, ◌∙◌}
use mathlib.Core.Bool.{false≢true}
use mathlib.Core.List.{List, [], ◌∷◌, ◌++◌, append-nil}
use native.Mathlib.Omega.{arith}
use lib.ListN.{length, set, replicate, take, drop, length-append, length-set, drop_of_length-le}
use lib.Seq.{take_all}
use borrow.Author.Tests.{le-ltb, le-leb, eq-eqb}
use Rattle.wire.specs.Lent.{on_front, put_at as put_bytes}
use Rattle.wire.specs.Sum.{checksum_of}
use Rattle.wire.proofs.Choice.{either}
use Rattle.wire.proofs.Lent.{front_put}
use Rattle.header.specs.Header.{header_bytes}
use Rattle.header.specs.declared.header.Header.{Header}
use Rattle.cut.specs.Blocks.{cut_of, cut_at}
use Rattle.cut.specs.declared.Cut.{Cut}
use Rattle.cut.proofs.Cutting.{cut_blocks}
use Rattle.block.specs.Block.{Writing, writing, write_of, block_of, framed, output_short, length_good, taken_write}
use Rattle.block.specs.declared.Refusal.{Refusal}
use Rattle.block.proofs.Frames.{frame_length}
use Rattle.room.specs.Room.{lies, bytes_in}
use Rattle.room.specs.declared.Message.{Message}
use Rattle.room.proofs.Areas.{lies_exactly}
use Rattle.room.proofs.Reading.{bytes_read, nothing_read}
use Rattle.line.specs.Codes.{bytes_out}
use Rattle.line.specs.declared.step.Out.{Out}
use Rattle.line.specs.declared.step.Out.TheVariants as out
use Rattle.exchange.specs.Reports.{report_body}
use Rattle.exchange.specs.declared.Outgoing.{Outgoing}
use Rattle.exchange.specs.declared.Outgoing.TheVariants as outgoing
use Rattle.link.specs.Run.{codes, bytes_by, block_in}
use Rattle.unit.specs.Put.{put_at}
use Rattle.std.specs.Prelude.{Option, Result, Ok, Err}

-- ---- codes

one_code : (c : ℕ) (bs : List ℕ) → 1 ≤ length bs → set bs 0 c ≡ on_front (c ∷ []) bs
unfolding on_front
one_code c [] k = absurd (omega arith)
one_code c (x ∷ bs) k = refl

two_codes : (a c : ℕ) (bs : List ℕ) → 2 ≤ length bs → set (set bs 0 a) 1 c ≡ on_front (a ∷ c ∷ []) bs
unfolding on_front
two_codes a c [] k = absurd (omega arith)
two_codes a c (x ∷ []) k = absurd (omega arith)
two_codes a c (x ∷ y ∷ bs) k = refl

pub no_code : (bs : List ℕ) → bs ≡ on_front [] bs
unfolding on_front
no_code bs = refl

-- two codes, one put behind the other
pub codes_put : (bs : List ℕ) (a b : Out) → 257 ≤ length bs → put_at (put_at bs 0 a) (length (bytes_out [] a)) b ≡ on_front (codes a b) bs
codes_put bs out.Nothing out.Nothing k = no_code bs
codes_put bs out.Nothing (out.Code c) k = one_code c bs (omega arith)
codes_put bs out.Nothing out.Block k = no_code bs
codes_put bs (out.Code a) out.Nothing k = one_code a bs (omega arith)
codes_put bs (out.Code a) (out.Code c) k = two_codes a c bs (omega arith)
codes_put bs (out.Code a) out.Block k = one_code a bs (omega arith)
codes_put bs out.Block out.Nothing k = no_code bs
codes_put bs out.Block (out.Code c) k = one_code c bs (omega arith)
codes_put bs out.Block out.Block k = no_code bs

-- a code is one byte at most
pub code_short : (a : Out) → length (bytes_out [] a) ≤ 1
code_short out.Nothing = omega arith
code_short (out.Code c) = omega arith
code_short out.Block = omega arith

pub put_length : (bs : List ℕ) (i : ℕ) (a : Out) → length (put_at bs i a) ≡ length bs
put_length bs i out.Nothing = refl
put_length bs i (out.Code c) = length-set bs i c
put_length bs i out.Block = refl

pub codes_length : (a b : Out) → length (codes a b) ≡ length (bytes_out [] a) + length (bytes_out [] b)
codes_length a b = length-append (bytes_out [] a) (bytes_out [] b)

-- ---- the whole block

-- a header and at most 244 data bytes are written, whatever is in the output
whole_write : (h : Header) (d bs : List ℕ) → length d ≤ 244 → 257 ≤ length bs
    → write_of (10 + length d) h d bs ≡ writing (Ok (10 + length d + 3)) (on_front (block_of h d) bs)
unfolding write_of output_short length_good taken_write
whole_write h d bs k room =
    simp (le-ltb (length bs) 257 room, le-leb 10 (10 + length d) (omega arith), le-leb (10 + length d) 254 (omega arith), eq-eqb (10 + length d) (10 + length d) refl)

ten_bytes : (h : Header) → length (header_bytes h) ≡ 10
unfolding header_bytes
ten_bytes h = refl

block_length : (h : Header) (d : List ℕ) → length (block_of h d) ≡ 10 + length d + 3
unfolding framed
block_length h d =
    let all : length (block_of h d) ≡ length (header_bytes h ++ d) + 3 = frame_length (header_bytes h ++ d) (checksum_of (header_bytes h ++ d)) in
    all ∙ (omega (arith, length-append (header_bytes h) d, ten_bytes h))

abbrev count_of : Result ℕ Refusal → ℕ
count_of (Ok n) = n
count_of (Err r) = 0

-- what was written is the block
pub wrote : (h : Header) (d bs now : List ℕ) (n : ℕ) {w : Result ℕ Refusal} → length d ≤ 244 → 257 ≤ length bs → writing w now ≡ write_of (10 + length d) h d bs
    → w ≡ Ok n → (n ≡ length (block_of h d)) × (now ≡ on_front (block_of h d) bs)
wrote h d bs now n k room e q =
    let all = e ∙ whole_write h d bs k room in (
      ap count_of (sym q ∙ ap (λ (x : Writing). x.answer) all) ∙ sym (block_length h d),
      ap (λ (x : Writing). x.out) all,
    )

pub not_refused : {A : Type 0} (h : Header) (d bs now : List ℕ) (r : Refusal) {w : Result ℕ Refusal} → length d ≤ 244 → 257 ≤ length bs
    → writing w now ≡ write_of (10 + length d) h d bs → w ≡ Err r → A
not_refused h d bs now r k room e q =
    let all = e ∙ whole_write h d bs k room in
    let zero : 0 ≡ 10 + length d + 3 = ap count_of (sym q ∙ ap (λ (x : Writing). x.answer) all) in
    absurd (omega arith)

-- the data of a block that was cut, read in the send area
pub part_fits : (h g : Header) (n k start size : ℕ) (room : List ℕ) (m : Message) {c : Option Cut} → c ≡ cut_of h n k → c ≡ cut_at g start size
    → length (bytes_in room m start size) ≤ 244
part_fits h g n k start size room m e q =
    let most = (cut_blocks h g n k start size (sym e ∙ q)).most in
    either (lies room m start size) (λ t. length (bytes_in room m start size) ≤ 244)
    (λ t. omega (arith, (bytes_read room m start size ((lies_exactly room m start size).0 t)).size))
    (λ f. let none = nothing_read room m start size (λ l. false≢true (sym f ∙ (lies_exactly room m start size).1 l)) in
    rw none (omega arith))

pub cut_from : (device : ℕ) (shown : List ℕ) (m : Outgoing) (h : Header) (n k : ℕ) (room : List ℕ) {c : Option Cut} → m ≡ outgoing.Message h n → c ≡ cut_of h n k
    → block_in device shown m k room ≡ bytes_by c room
cut_from device shown m h n k room e q = rw (e, q) refl

-- ---- a report

-- the fixed bytes, and behind them the ten that it shows
abbrev blank : List ℕ
blank = replicate 12 0

abbrev fixed : List ℕ
fixed = 33 ∷ 10 ∷ []

pub report_body_lem : (shown : List ℕ) {a b : List ℕ} → length shown ≡ 10 → a ≡ put_bytes blank 0 fixed → b ≡ put_bytes a 2 shown → b ≡ report_body shown
unfolding on_front
report_body_lem shown ten p q =
    let first : put_bytes blank 0 fixed ≡ on_front fixed blank = front_put blank [] fixed 0 refl (omega arith) in
    let both : put_bytes (on_front fixed blank) 2 shown ≡ on_front (fixed ++ shown) blank = front_put blank fixed shown 2 refl (omega (arith, ten)) in
    let full : length blank ≤ length (fixed ++ shown) = omega (arith, ten) in
    let none : drop (length (fixed ++ shown)) blank ≡ [] = drop_of_length-le blank full in
    let whole : take 10 shown ≡ shown = take_all 10 shown (omega (arith, ten)) in
    q ∙ ap (λ (l : List ℕ). put_bytes l 2 shown) (p ∙ first) ∙ both ∙ ap (λ (l : List ℕ). (fixed ++ shown) ++ l) none ∙ append-nil (fixed ++ shown)
    ∙ ap (λ (l : List ℕ). fixed ++ l) (sym whole)
