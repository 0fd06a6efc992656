-- A line is read exactly if it is one of 01's (`specs/Lines.antt`). Assumes nothing.
use Prim.Native.Nat.{ℕ, zero, suc, ◌≤◌, ◌<◌}
use mathlib.Core.Path.{◌≡◌, refl, sym, ap, subst, ◌∙◌}
use mathlib.Core.Bool.{Bool, true, false}
use mathlib.Core.List.{List, [], ◌∷◌, ◌++◌}
use mathlib.Core.Logic.{◌⊎◌, inl, inr, ⊎_elim}
use native.Mathlib.Omega.{arith}
use lib.Dec.{eqb, ltb}
use lib.ListN.{length}
use Rattle.std.specs.Prelude.{Option, Some, None, option_map}
use Rattle.std.proofs.lemmas.Option.{none-some}
use borrow.Author.Tests.{le-ltb, lt-ltb, ltb-true, ltb-false, eqb-true}
use Rattle.text.specs.Find.{index_of, index_after}
use Rattle.wire.specs.Lent.{on_front}
use Rattle.wire.proofs.Choice.{either, chosen}
use Rattle.text.specs.Field.{field_of, behind_of, letter_of}
use Rattle.text.specs.Hex.{is_data}
use Rattle.text.proofs.FieldRules.{letter_exactly}
use Rattle.exchange.specs.declared.Primary.{Primary}
use Rattle.link.specs.declared.Setup.{Setup}
use Rattle.script.specs.Command.{Told, told, unread, read_then, with_data, start_by, open_by, reply_by, release_by, bytes_by, ticks_by, alone_by, verdict_by, command_by, line_read, from_field, number_in, number_at, last_number, primary_in}
use Rattle.script.specs.ReadingRules.{UnreadLeaves}
use Rattle.script.specs.Lines.{Order, starts, opens, replies, frees_own, frees_incoming, hears, waits, drains, shows, counts, NumberIn, DataIn, role_letter, bit, spaced, LineIs, start_line, open_line, reply_line, own_line, incoming_line, bytes_line, ticks_line, drained_line, verdict_line, dropped_line, command_of, bytes_of, OneOf, LinesRead}
use Rattle.script.specs.declared.Command.{Command}
use Rattle.script.specs.declared.Command.TheVariants.{Start, Open, Reply, ReleaseOwn, ReleaseIncoming, Bytes, Ticks, Drained, Verdict, Dropped}
use Rattle.script.proofs.Fields.{text_is, letter_free, number_free, parted, letter_is, letter_some, one_byte, number_said, number_some, number_read, data_is, data_said, data_some, data_read, field_some}

-- ---- a line that is one of 01's is read

letter_read : (letter : ℕ) (rest bytes : List ℕ) → (letter ≡ 0x20 → ⊥) → length (letter ∷ 0x20 ∷ rest) ≤ 1024
    → line_read (letter ∷ 0x20 ∷ rest) bytes ≡ command_by (Some letter) (letter ∷ 0x20 ∷ rest) rest bytes
unfolding line_read
letter_read letter rest bytes free short =
    let p = parted (letter ∷ []) rest (letter_free letter free) in
    let e : letter_of (letter ∷ []) ≡ Some letter = (letter_exactly (letter ∷ []) letter).1 refl in
    rw (le-ltb 1024 (length (letter ∷ 0x20 ∷ rest)) short, p.first, p.behind, e)

bit_back : (w : Bool) → eqb (bit w) 1 ≡ w
bit_back true = refl
bit_back false = refl

start_said : (s : Setup) (t1 t2 t3 t4 rty device duplicates last : List ℕ) → NumberIn 65535 t1 s.t1.0 → NumberIn 65535 t2 s.t2.0
    → NumberIn 65535 t3 s.t3.0 → NumberIn 65535 t4 s.t4.0 → NumberIn 65535 rty s.rty → NumberIn 65535 device s.device
    → NumberIn 65535 duplicates s.duplicates → NumberIn 65535 last s.last
    → start_by s.host (spaced t1 (t2 ∷ t3 ∷ t4 ∷ rty ∷ device ∷ duplicates ∷ last ∷ [])) ≡ Some (Start s)
unfolding start_by
start_said s t1 t2 t3 t4 rty device duplicates last a b c d e f g h =
    let pa = parted t1 (spaced t2 (t3 ∷ t4 ∷ rty ∷ device ∷ duplicates ∷ last ∷ [])) (number_free a.says) in
    let pb = parted t2 (spaced t3 (t4 ∷ rty ∷ device ∷ duplicates ∷ last ∷ [])) (number_free b.says) in
    let pc = parted t3 (spaced t4 (rty ∷ device ∷ duplicates ∷ last ∷ [])) (number_free c.says) in
    let pd = parted t4 (spaced rty (device ∷ duplicates ∷ last ∷ [])) (number_free d.says) in
    let pe = parted rty (spaced device (duplicates ∷ last ∷ [])) (number_free e.says) in
    let pf = parted device (spaced duplicates (last ∷ [])) (number_free f.says) in
    let pg = parted duplicates last (number_free g.says) in
    rw (
      pa.first,
      pa.behind,
      pb.first,
      pb.behind,
      pc.first,
      pc.behind,
      pd.first,
      pd.behind,
      pe.first,
      pe.behind,
      pf.first,
      pf.behind,
      pg.first,
      pg.behind,
      number_said (omega arith) a,
      number_said (omega arith) b,
      number_said (omega arith) c,
      number_said (omega arith) d,
      number_said (omega arith) e,
      number_said (omega arith) f,
      number_said (omega arith) g,
      number_said (omega arith) h,
    )

-- the bytes of an order, read
abbrev reads : List ℕ → Order → Told
reads bytes o = told (Some (command_of o)) (on_front (bytes_of o) bytes)

role_read : (host : Bool) (line text bytes : List ℕ) → command_by (Some (role_letter host)) line text bytes ≡ told (start_by host text) bytes
unfolding command_by
role_read true line text bytes = refl
role_read false line text bytes = refl

open_said : (q : Primary) (source w stream function field bs bytes : List ℕ) → NumberIn 65535 source q.source → NumberIn 1 w (bit q.w)
    → NumberIn 255 stream q.stream → NumberIn 255 function q.function → DataIn field bs
    → open_by (spaced source (w ∷ stream ∷ function ∷ field ∷ [])) bytes ≡ reads bytes (opens q bs)
unfolding open_by primary_in
open_said q source w stream function field bs bytes a b c d e =
    let pa = parted source (spaced w (stream ∷ function ∷ field ∷ [])) (number_free a.says) in
    let pb = parted w (spaced stream (function ∷ field ∷ [])) (number_free b.says) in
    let pc = parted stream (spaced function (field ∷ [])) (number_free c.says) in
    let pd = parted function field (number_free d.says) in
    rw (
      pa.first,
      pa.behind,
      pb.first,
      pb.behind,
      pc.first,
      pc.behind,
      pd.first,
      pd.behind,
      number_said (omega arith) a,
      number_said (omega arith) b,
      number_said (omega arith) c,
      number_said (omega arith) d,
      bit_back q.w,
      data_is e,
      data_said e,
    )

reply_said : (p f : ℕ) (place function field bs bytes : List ℕ) → NumberIn 255 place p → NumberIn 255 function f → DataIn field bs
    → reply_by (spaced place (function ∷ field ∷ [])) bytes ≡ reads bytes (replies p f bs)
unfolding reply_by
reply_said p f place function field bs bytes a b e =
    let pa = parted place (spaced function (field ∷ [])) (number_free a.says) in
    let pb = parted function field (number_free b.says) in
    rw
    (pa.first, pa.behind, pb.first, pb.behind, number_said (omega arith) a, number_said (omega arith) b, data_is e, data_said e)

own_said : (p : ℕ) (place : List ℕ) → NumberIn 255 place p → release_by (spaced (0x4F ∷ []) (place ∷ [])) ≡ Some (ReleaseOwn p)
unfolding release_by letter_of
own_said p place a =
    let pa = parted (0x4F ∷ []) place (letter_free 0x4F (λ e. omega arith)) in rw (pa.first, pa.behind, number_said (omega arith) a)

incoming_said : (p : ℕ) (place : List ℕ) → NumberIn 255 place p → release_by (spaced (0x49 ∷ []) (place ∷ [])) ≡ Some (ReleaseIncoming p)
unfolding release_by letter_of
incoming_said p place a =
    let pa = parted (0x49 ∷ []) place (letter_free 0x49 (λ e. omega arith)) in rw (pa.first, pa.behind, number_said (omega arith) a)

role_free : (host : Bool) → role_letter host ≡ 0x20 → ⊥
role_free true e = omega arith
role_free false e = omega arith

-- a letter alone
alone_read : (bytes : List ℕ) → (line_read (0x44 ∷ []) bytes ≡ told (Some Drained) bytes) × (line_read (0x4B ∷ []) bytes ≡ told (Some Dropped) bytes)
unfolding line_read command_by alone_by field_of letter_of index_of index_after
alone_read bytes = (refl, refl)

pub said : (line bytes : List ℕ) (o : Order) → LineIs line o → length line ≤ 1024 → line_read line bytes ≡ reads bytes o
unfolding command_by on_front bytes_by ticks_by verdict_by
said _ bytes _ (start_line s t1 t2 t3 t4 rty device duplicates last a b c d e f g h) short =
    letter_read (role_letter s.host) (spaced t1 (t2 ∷ t3 ∷ t4 ∷ rty ∷ device ∷ duplicates ∷ last ∷ [])) bytes (role_free s.host) short
    ∙ role_read s.host _ _ bytes
    ∙ ap (λ (c : Option Command). told c bytes) (start_said s t1 t2 t3 t4 rty device duplicates last a b c d e f g h)
said _ bytes _ (open_line q source w stream function field bs a b c d e) short =
    letter_read 0x4F _ bytes (λ e. omega arith) short ∙ open_said q source w stream function field bs bytes a b c d e
said _ bytes _ (reply_line p f place function field bs a b e) short =
    letter_read 0x52 _ bytes (λ e. omega arith) short ∙ reply_said p f place function field bs bytes a b e
said _ bytes _ (own_line p place a) short =
    letter_read 0x4C _ bytes (λ e. omega arith) short ∙ ap (λ (c : Option Command). told c bytes) (own_said p place a)
said _ bytes _ (incoming_line p place a) short =
    letter_read 0x4C _ bytes (λ e. omega arith) short ∙ ap (λ (c : Option Command). told c bytes) (incoming_said p place a)
said _ bytes _ (bytes_line field bs e) short = letter_read 0x42 _ bytes (λ e. omega arith) short ∙ rw (data_is e, data_said e)
said _ bytes _ (ticks_line n count a) short =
    letter_read 0x54 _ bytes (λ e. omega arith) short ∙ rw (number_said (omega arith) a)
said _ bytes _ drained_line short = (alone_read bytes).0
said _ bytes _ (verdict_line p place a) short =
    letter_read 0x56 _ bytes (λ e. omega arith) short ∙ rw (number_said (omega arith) a)
said _ bytes _ dropped_line short = (alone_read bytes).1

-- ---- a line that is read is one of 01's

-- what reading leaves of a line: it can't be read, or it is one of 01's
abbrev pub Known : List ℕ → List ℕ → Told → Type 0
Known line bytes t = (t ≡ unread bytes) ⊎ OneOf line

abbrev KnownAs : List ℕ → List ℕ → Option Command → Type 0
KnownAs line bytes c = Known line bytes (told c bytes)

-- a line by its letter and by what stands behind it
line_is : (letter : ℕ) (line rest : List ℕ) → field_of line ≡ letter ∷ [] → behind_of line ≡ rest → 1 ≤ length (behind_of line) → line ≡ letter ∷ 0x20 ∷ rest
line_is letter line rest first behind h = text_is line rest behind h ∙ ap (λ (l : List ℕ). l ++ (0x20 ∷ rest)) first

one_of : (line text : List ℕ) (o : Order) → line ≡ text → LineIs text o → OneOf line
one_of line text o e w = record { order = o; is = subst (λ (l : List ℕ). LineIs l o) (sym e) w }

-- what holds where one thing can't be read, and of all that is read behind it, holds of both
on_read : {A B : Type 0} (P : Option B → Type 0) (first : Option A) (next : A → Option B) → P None → ((a : A) → first ≡ Some a → P (next a)) → P (read_then first next)
on_read P None next none some = none
on_read P (Some a) next none some = some a refl

start_only : (host : Bool) (line bytes : List ℕ) → field_of line ≡ role_letter host ∷ [] → KnownAs line bytes (start_by host (behind_of line))
unfolding start_by
start_only host line bytes first =
    let text = behind_of line in
    on_read (KnownAs line bytes) (number_at 65535 0 text) _ (inl refl) (λ t1 e0.
    on_read (KnownAs line bytes) (number_at 65535 1 text) _ (inl refl) (λ t2 e1.
    on_read (KnownAs line bytes) (number_at 65535 2 text) _ (inl refl) (λ t3 e2.
    on_read (KnownAs line bytes) (number_at 65535 3 text) _ (inl refl) (λ t4 e3.
    on_read (KnownAs line bytes) (number_at 65535 4 text) _ (inl refl) (λ rty e4.
    on_read (KnownAs line bytes) (number_at 65535 5 text) _ (inl refl) (λ device e5.
    on_read (KnownAs line bytes) (number_at 65535 6 text) _ (inl refl) (λ duplicates e6.
    on_read (KnownAs line bytes) (last_number 65535 7 text) _ (inl refl) (λ last e7.
    let n0 = number_read (field_of (from_field 0 text)) e0 in
    let n1 = number_read (field_of (from_field 1 text)) e1 in
    let n2 = number_read (field_of (from_field 2 text)) e2 in
    let n3 = number_read (field_of (from_field 3 text)) e3 in
    let n4 = number_read (field_of (from_field 4 text)) e4 in
    let n5 = number_read (field_of (from_field 5 text)) e5 in
    let n6 = number_read (field_of (from_field 6 text)) e6 in
    let n7 = number_read (from_field 7 text) e7 in
    let from6 = text_is (from_field 6 text) _ refl (number_some n7) in
    let from5 = text_is (from_field 5 text) _ from6 (field_some (from_field 6 text) n6) in
    let from4 = text_is (from_field 4 text) _ from5 (field_some (from_field 5 text) n5) in
    let from3 = text_is (from_field 3 text) _ from4 (field_some (from_field 4 text) n4) in
    let from2 = text_is (from_field 2 text) _ from3 (field_some (from_field 3 text) n3) in
    let from1 = text_is (from_field 1 text) _ from2 (field_some (from_field 2 text) n2) in
    let from0 = text_is text _ from1 (field_some (from_field 1 text) n1) in
    inr (one_of line _ (starts _) (line_is (role_letter host) line _ first from0 (field_some text n0)) (start_line _ _ _ _ _ _ _ _ _ n0 n1 n2 n3 n4 n5 n6 n7))))))))))

-- W is read as it is written
bit_read : (n : ℕ) → n ≤ 1 → n ≡ bit (eqb n 1)
bit_read zero h = refl
bit_read (suc zero) h = refl
bit_read (suc (suc n)) h = absurd (omega arith)

-- a command with bytes, whose other fields are read first
on_data : (line bytes field : List ℕ) (command : Option (ℕ → Command))
    → ((c : ℕ → Command) → command ≡ Some c → is_data field ≡ true → OneOf line) → Known line bytes (with_data command field bytes)
on_data line bytes field None known = inl refl
on_data line bytes field (Some c) known = chosen (Known line bytes) (is_data field) _ _ (λ e. inr (known c refl e)) (λ e. inl refl)

open_only : (line bytes : List ℕ) → field_of line ≡ 0x4F ∷ [] → Known line bytes (open_by (behind_of line) bytes)
unfolding open_by primary_in
open_only line bytes first =
    let text = behind_of line in
    on_data line bytes (from_field 4 text) _ (λ c e d.
    let d4 = data_read (from_field 4 text) d in
    on_read (λ (o : Option Primary). option_map (λ primary length. Open primary length) o ≡ Some c → OneOf line) (number_at 65535 0 text) _ (λ e. absurd (none-some _ e)) (λ source e0.
    on_read (λ (o : Option Primary). option_map (λ primary length. Open primary length) o ≡ Some c → OneOf line) (number_at 1 1 text) _ (λ e. absurd (none-some _ e)) (λ written e1.
    on_read (λ (o : Option Primary). option_map (λ primary length. Open primary length) o ≡ Some c → OneOf line) (number_at 255 2 text) _ (λ e. absurd (none-some _ e)) (λ stream e2.
    on_read (λ (o : Option Primary). option_map (λ primary length. Open primary length) o ≡ Some c → OneOf line) (number_at 255 3 text) _ (λ e. absurd (none-some _ e)) (λ function e3 e.
    let n0 = number_read (field_of (from_field 0 text)) e0 in
    let n1 = number_read (field_of (from_field 1 text)) e1 in
    let n2 = number_read (field_of (from_field 2 text)) e2 in
    let n3 = number_read (field_of (from_field 3 text)) e3 in
    let from3 = text_is (from_field 3 text) _ refl (data_some d4) in
    let from2 = text_is (from_field 2 text) _ from3 (field_some (from_field 3 text) n3) in
    let from1 = text_is (from_field 1 text) _ from2 (field_some (from_field 2 text) n2) in
    let from0 = text_is text _ from1 (field_some (from_field 1 text) n1) in
    let w = subst (NumberIn 1 (field_of (from_field 1 text))) (bit_read written n1.within) n1 in
    one_of line _ (opens (record { source = source; w = eqb written 1; stream = stream; function = function }) _) (line_is 0x4F line _ first from0 (field_some text n0)) (open_line _ _ _ _ _ _ _ n0 w n2 n3 d4))))) e)

reply_only : (line bytes : List ℕ) → field_of line ≡ 0x52 ∷ [] → Known line bytes (reply_by (behind_of line) bytes)
unfolding reply_by
reply_only line bytes first =
    let text = behind_of line in
    on_data line bytes (from_field 2 text) _ (λ c e d.
    let d2 = data_read (from_field 2 text) d in
    on_read (λ (o : Option (ℕ → Command)). o ≡ Some c → OneOf line) (number_at 255 0 text) _ (λ e. absurd (none-some _ e)) (λ place e0.
    on_read (λ (o : Option (ℕ → Command)). o ≡ Some c → OneOf line) (number_at 255 1 text) (λ function. Some (λ length. Reply place function length)) (λ e. absurd (none-some _ e)) (λ function e1 e.
    let n0 = number_read (field_of (from_field 0 text)) e0 in
    let n1 = number_read (field_of (from_field 1 text)) e1 in
    let from1 = text_is (from_field 1 text) _ refl (data_some d2) in
    let from0 = text_is text _ from1 (field_some (from_field 1 text) n1) in
    one_of line _ (replies _ _ _) (line_is 0x52 line _ first from0 (field_some text n0)) (reply_line _ _ _ _ _ _ n0 n1 d2))) e)

release_only : (line bytes : List ℕ) → field_of line ≡ 0x4C ∷ [] → KnownAs line bytes (release_by (behind_of line))
unfolding release_by
release_only line bytes first =
    let text = behind_of line in
    on_read (KnownAs line bytes) (letter_of (field_of text)) _ (inl refl) (λ table e0.
    on_read (KnownAs line bytes) (last_number 255 1 text) _ (inl refl) (λ place e1.
    let n1 = number_read (from_field 1 text) e1 in
    chosen (KnownAs line bytes) (eqb table 0x4F) _ _
    (λ own.
    let kind = letter_is (field_of text) table 0x4F e0 own in
    inr (one_of line _ (frees_own _) (line_is 0x4C line _ first (line_is 0x4F text _ kind refl (number_some n1)) (letter_some text kind)) (own_line _ _ n1)))
    (λ z. chosen (KnownAs line bytes) (eqb table 0x49) _ _
    (λ incoming.
    let kind = letter_is (field_of text) table 0x49 e0 incoming in
    inr (one_of line _ (frees_incoming _) (line_is 0x4C line _ first (line_is 0x49 text _ kind refl (number_some n1)) (letter_some text kind)) (incoming_line _ _ n1)))
    (λ z. inl refl))))

bytes_only : (line bytes : List ℕ) → field_of line ≡ 0x42 ∷ [] → Known line bytes (bytes_by (behind_of line) bytes)
unfolding bytes_by
bytes_only line bytes first =
    on_data line bytes (behind_of line) (Some Bytes) (λ c e d.
    let said = data_read (behind_of line) d in one_of line _ (hears _) (line_is 0x42 line _ first refl (data_some said)) (bytes_line _ _ said))

ticks_only : (line bytes : List ℕ) → field_of line ≡ 0x54 ∷ [] → KnownAs line bytes (ticks_by (behind_of line))
unfolding ticks_by
ticks_only line bytes first =
    on_read (KnownAs line bytes) (number_in 100000 (behind_of line)) (λ count. Some (Ticks count)) (inl refl)
    (λ count e. let n = number_read (behind_of line) e in inr (one_of line _ (waits _) (line_is 0x54 line _ first refl (number_some n)) (ticks_line _ _ n)))

verdict_only : (line bytes : List ℕ) → field_of line ≡ 0x56 ∷ [] → KnownAs line bytes (verdict_by (behind_of line))
unfolding verdict_by
verdict_only line bytes first =
    on_read (KnownAs line bytes) (number_in 255 (behind_of line)) (λ place. Some (Verdict place)) (inl refl)
    (λ place e. let n = number_read (behind_of line) e in inr (one_of line _ (shows _) (line_is 0x56 line _ first refl (number_some n)) (verdict_line _ _ n)))

alone_only : (letter : ℕ) (o : Order) → LineIs (letter ∷ []) o → (line bytes : List ℕ) → field_of line ≡ letter ∷ [] → KnownAs line bytes (alone_by (command_of o) line)
unfolding alone_by
alone_only letter o is line bytes first =
    chosen (KnownAs line bytes) (eqb (length line) 1) _ _
    (λ e. inr (one_of line _ o (one_byte line letter first (eqb-true (length line) 1 e)) is)) (λ z. inl refl)

by_letter : (line bytes : List ℕ) (letter : Option ℕ) → letter_of (field_of line) ≡ letter → Known line bytes (command_by letter line (behind_of line) bytes)
unfolding command_by
by_letter line bytes None letter = inl refl
by_letter line bytes (Some x) letter =
    let is : (b : ℕ) → eqb x b ≡ true → field_of line ≡ b ∷ [] = λ b e. letter_is (field_of line) x b letter e in
    chosen (Known line bytes) (eqb x 0x48) _ _ (λ e. start_only true line bytes (is 0x48 e))
    (λ z. chosen (Known line bytes) (eqb x 0x45) _ _ (λ e. start_only false line bytes (is 0x45 e))
    (λ z. chosen (Known line bytes) (eqb x 0x4F) _ _ (λ e. open_only line bytes (is 0x4F e))
    (λ z. chosen (Known line bytes) (eqb x 0x52) _ _ (λ e. reply_only line bytes (is 0x52 e))
    (λ z. chosen (Known line bytes) (eqb x 0x4C) _ _ (λ e. release_only line bytes (is 0x4C e))
    (λ z. chosen (Known line bytes) (eqb x 0x42) _ _ (λ e. bytes_only line bytes (is 0x42 e))
    (λ z. chosen (Known line bytes) (eqb x 0x54) _ _ (λ e. ticks_only line bytes (is 0x54 e))
    (λ z. chosen (Known line bytes) (eqb x 0x44) _ _ (λ e. alone_only 0x44 drains drained_line line bytes (is 0x44 e))
    (λ z. chosen (Known line bytes) (eqb x 0x56) _ _ (λ e. verdict_only line bytes (is 0x56 e))
    (λ z. chosen (Known line bytes) (eqb x 0x4B) _ _ (λ e. alone_only 0x4B counts dropped_line line bytes (is 0x4B e)) (λ z. inl refl))))))))))

pub known : (line bytes : List ℕ) → Known line bytes (line_read line bytes)
unfolding line_read
known line bytes = chosen (Known line bytes) (ltb 1024 (length line)) _ _ (λ z. inl refl) (λ z. by_letter line bytes (letter_of (field_of line)) refl)

too_long_lem : (line bytes : List ℕ) → 1024 < length line → line_read line bytes ≡ unread bytes
unfolding line_read
too_long_lem line bytes h = rw (lt-ltb 1024 (length line) h)

pub lines_read : LinesRead
lines_read line lent = record { said = said line lent; unsaid = λ no. ⊎_elim (λ e. e) (λ w. absurd (no w)) (known line lent); long = too_long_lem line lent }

pub unread_leaves : UnreadLeaves
unread_leaves line bytes e =
    ⊎_elim (λ no. ap (λ (t : Told). t.bytes) no)
    (λ w.
    either (ltb 1024 (length line)) (λ t. (line_read line bytes).bytes ≡ bytes) (λ long. ap (λ (t : Told). t.bytes) (too_long_lem line bytes (ltb-true 1024 (length line) long)))
    (λ short.
    let read = said line bytes w.order w.is (ltb-false 1024 (length line) short) in
    absurd (none-some _ (sym e ∙ ap (λ (t : Told). t.command) read))))
    (known line bytes)
