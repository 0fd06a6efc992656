-- A line as a command: what stands behind its fields, the letter that it goes by, and the memory for its bytes. Assumes nothing.
use Prim.Native.Nat.{ℕ, zero, suc, ◌≤◌}
use mathlib.Core.Path.{◌≡◌, refl, sym, ap, ◌∙◌}
use mathlib.Core.List.{List}
use native.Mathlib.Nat.{le_refl, le_trans}
use native.Mathlib.Omega.{arith}
use lib.Dec.{eqb, ltb}
use lib.ListN.{length, drop, length-drop, length-append}
use borrow.Author.Tests.{le-ltb, ltb-false}
use Rattle.std.specs.Prelude.{Option, Some, None, option_map}
use Rattle.wire.specs.Lent.{on_front, Filled, filled, onto, filled_with}
use Rattle.wire.proofs.Choice.{chosen}
use Rattle.wire.proofs.Lent.{in_room}
use Rattle.text.specs.Field.{field_of, behind_of, letter_of}
use Rattle.text.specs.Hex.{is_data, data_of}
use Rattle.script.specs.Command.{Told, told, read_then, within, number_in, from_field, with_data, open_by, reply_by, bytes_by, command_by, line_read}
use Rattle.script.specs.declared.Command.{Command}
use Rattle.script.specs.declared.Command.TheVariants.{Bytes}
use Rattle.text.specs.Number.{number_of}
use Rattle.text.proofs.NumberRules.{number_exactly}
use Rattle.text.proofs.Scanning.{behind_length, data_length}

-- what stands behind some fields is no longer than the text
pub from_length : (k : ℕ) (text : List ℕ) → length (from_field k text) ≤ length text
from_length zero text = le_refl (length text)
from_length (suc k) text = le_trans (from_length k (behind_of text)) (behind_length text)

-- a line that is not too long goes by its letter
pub arm : (line text bytes : List ℕ) (letter : Option ℕ) → length line ≤ 1024 → letter ≡ letter_of (field_of line) → text ≡ behind_of line
    → command_by letter line text bytes ≡ line_read line bytes
unfolding line_read
arm line text bytes n short letter behind =
    simp (le-ltb _ _ short) (rw (letter, behind))

-- ---- the memory that is lent for the bytes of a line

-- it stays as long as it is
abbrev Full : Told → Type 0
Full t = length t.bytes ≡ 512

-- the bytes that a field says have room in it, and all of them are put there
pub data_put : (field bytes after : List ℕ) (n : ℕ) → length field ≤ 1024 → length bytes ≡ 512
    → filled n after ≡ filled_with (data_of field) bytes → (n ≡ length (data_of field)) × (after ≡ on_front (data_of field) bytes)
data_put field bytes after n short full e =
    let all : filled n after ≡ onto (data_of field) bytes = e ∙ sym (in_room (data_of field) bytes (omega (arith, data_length field))) in
    (ap (λ (f : Filled). f.count) all, ap (λ (f : Filled). f.memory) all)

-- a command that is told how many they are
pub told_by : (f : ℕ → Command) (command : Option Command) (n : Option ℕ) (after : List ℕ) (t : Told) → command ≡ option_map f n → told (option_map f n) after ≡ t → told command after ≡ t
told_by f command n after t e told_n = ap (λ (o : Option Command). told o after) e ∙ told_n

-- a count up to 100,000 is any number that a field says
pub any_count : (text : List ℕ) → number_in 100000 text ≡ number_of text
any_count text = by (number_of text) refl
  where
    by : (o : Option ℕ) → number_of text ≡ o → read_then o (within 100000) ≡ o
    by None e = refl
    by (Some n) e = let few = (((number_exactly text).said n).0 e).0 in rw (le-ltb 100000 n few)

put_full : (text bytes : List ℕ) → length text ≤ 1024 → length bytes ≡ 512 → length (on_front (data_of text) bytes) ≡ 512
unfolding on_front
put_full text bytes short full =
    let half = data_length text in
    omega (arith, length-append (data_of text) (drop (length (data_of text)) bytes), length-drop (length (data_of text)) bytes)

data_full : (command : Option (ℕ → Command)) (field bytes : List ℕ) → length field ≤ 1024 → length bytes ≡ 512 → Full (with_data command field bytes)
data_full None field bytes short full = full
data_full (Some c) field bytes short full = chosen Full (is_data field) _ _ (λ e. put_full field bytes short full) (λ e. full)

by_letter : (letter : Option ℕ) (line text bytes : List ℕ) → length text ≤ 1024 → length bytes ≡ 512 → Full (command_by letter line text bytes)
unfolding command_by open_by reply_by bytes_by
by_letter None line text bytes short full = full
by_letter (Some x) line text bytes short full =
    let opens = from_length 4 text in
    let replies = from_length 2 text in
    chosen Full (eqb x 0x48) _ _ (λ e. full)
    (λ e. chosen Full (eqb x 0x45) _ _ (λ e. full)
    (λ e. chosen Full (eqb x 0x4F) _ _ (λ e. data_full _ (from_field 4 text) bytes (omega arith) full)
    (λ e. chosen Full (eqb x 0x52) _ _ (λ e. data_full _ (from_field 2 text) bytes (omega arith) full)
    (λ e. chosen Full (eqb x 0x4C) _ _ (λ e. full)
    (λ e. chosen Full (eqb x 0x42) _ _ (λ e. data_full (Some (λ n. Bytes n)) text bytes short full)
    (λ e. chosen Full (eqb x 0x54) _ _ (λ e. full)
    (λ e. chosen Full (eqb x 0x44) _ _ (λ e. full)
    (λ e. chosen Full (eqb x 0x56) _ _ (λ e. full)
    (λ e. chosen Full (eqb x 0x4B) _ _ (λ e. full) (λ e. full))))))))))

pub read_length : (line bytes : List ℕ) → length bytes ≡ 512 → length (line_read line bytes).bytes ≡ 512
unfolding line_read
read_length line bytes full =
    chosen Full (ltb 1024 (length line)) _ _ (λ e. full)
    (λ e. by_letter (letter_of (field_of line)) line (behind_of line) bytes (omega (arith, ltb-false 1024 (length line) e, behind_length line)) full)
