-- A line as a command (01, "Bench program and proved table"; `K` is of 02, request 2).
use Rattle.std.specs.Prelude.{ℕ, zero, suc, Bool, true, false, cond, List, eqb, ltb, length, Option, Some, None, option_map, option_and_then}
use Rattle.wire.specs.Lent.{on_front}
use Rattle.exchange.specs.declared.Primary.{Primary}
use Rattle.text.specs.Field.{field_of, behind_of, letter_of}
use Rattle.text.specs.Number.{number_of}
use Rattle.text.specs.Hex.{is_data, data_of}
use Rattle.script.specs.declared.Command.{Command}
use Rattle.script.specs.declared.Command.TheVariants.{Start, Open, Reply, ReleaseOwn, ReleaseIncoming, Bytes, Ticks, Drained, Verdict, Dropped}

-- What reading a line leaves: the command, if it can be read, and every byte of the memory that was lent for the bytes it says.
pub record Told : Type 0 where
  pub command : Option Command
  pub bytes : List ℕ

abbrev pub told : Option Command → List ℕ → Told
told command bytes = record { command = command; bytes = bytes }

-- a line that can't be read says no bytes: none is done in part (docs/READINGS.md, 28)
abbrev pub unread : List ℕ → Told
unread bytes = told None bytes

-- what is read first, and with it what is read next; neither, where one can't be read
abbrev pub read_then : {A B : Type 0} → Option A → (A → Option B) → Option B
read_then first next = option_and_then next first

-- ---- fields

-- a text from its field k on
abbrev pub from_field : ℕ → List ℕ → List ℕ
from_field zero text = text
from_field (suc k) text = from_field k (behind_of text)

-- a number up to its limit
abbrev pub within : ℕ → ℕ → Option ℕ
within most n = cond (ltb most n) None (Some n)

abbrev pub number_in : ℕ → List ℕ → Option ℕ
number_in most text = read_then (number_of text) (within most)

-- the number that field k of a text says
abbrev pub number_at : ℕ → ℕ → List ℕ → Option ℕ
number_at most k text = number_in most (field_of (from_field k text))

-- The last field of a command is all the rest of its line: a space in it makes it unreadable, as it makes a number or bytes.
abbrev pub last_number : ℕ → ℕ → List ℕ → Option ℕ
last_number most k text = number_in most (from_field k text)

-- The bytes of the last field are put at the front of those that are lent, and the command is told how many there are.
abbrev pub with_data : Option (ℕ → Command) → List ℕ → List ℕ → Told
with_data None field bytes = unread bytes
with_data (Some command) field bytes = cond (is_data field) (told (Some (command (length (data_of field)))) (on_front (data_of field) bytes)) (unread bytes)

-- ---- commands

-- "role (H host, E equipment), T1, T2, T3, T4, RTY, DEVID, duplicate check, last number"; "any other number but a count above 65,535"
unfoldable pub start_by : Bool → List ℕ → Option Command
start_by host text =
    read_then (number_at 65535 0 text) (λ t1.
    read_then (number_at 65535 1 text) (λ t2.
    read_then (number_at 65535 2 text) (λ t3.
    read_then (number_at 65535 3 text) (λ t4.
    read_then (number_at 65535 4 text) (λ rty.
    read_then (number_at 65535 5 text) (λ device.
    read_then (number_at 65535 6 text) (λ duplicates.
    read_then (last_number 65535 7 text) (λ last.
    Some (Start (record {
      host = host;
      t1 = record { 0 = t1 };
      t2 = record { 0 = t2 };
      t3 = record { 0 = t3 };
      t4 = record { 0 = t4 };
      rty = rty;
      device = device;
      duplicates = duplicates;
      last = last;
    }))))))))))

-- source W stream function. "W above 1; stream, function or place above 255"
unfoldable pub primary_in : List ℕ → Option Primary
primary_in text =
    read_then (number_at 65535 0 text) (λ source.
    read_then (number_at 1 1 text) (λ w.
    read_then (number_at 255 2 text) (λ stream.
    read_then (number_at 255 3 text) (λ function.
    Some (record { source = source; w = eqb w 1; stream = stream; function = function })))))

-- `O` source W stream function data
unfoldable pub open_by : List ℕ → List ℕ → Told
open_by text bytes = with_data (option_map (λ primary length. Open primary length) (primary_in text)) (from_field 4 text) bytes

-- `R` place function data
unfoldable pub reply_by : List ℕ → List ℕ → Told
reply_by text bytes =
    with_data (read_then (number_at 255 0 text) (λ place. option_map (λ function length. Reply place function length) (number_at 255 1 text))) (from_field 2 text) bytes

-- `L` O or I and place
unfoldable pub release_by : List ℕ → Option Command
release_by text =
    read_then (letter_of (field_of text)) (λ table.
    read_then (last_number 255 1 text) (λ place.
    cond (eqb table 0x4F) (Some (ReleaseOwn place)) (cond (eqb table 0x49) (Some (ReleaseIncoming place)) None)))

-- `B` bytes
unfoldable pub bytes_by : List ℕ → List ℕ → Told
bytes_by text bytes = with_data (Some Bytes) text bytes

-- `T` count: "a count is at most 100,000"
unfoldable pub ticks_by : List ℕ → Option Command
ticks_by text = option_map Ticks (number_in 100000 text)

-- `V` place
unfoldable pub verdict_by : List ℕ → Option Command
verdict_by text = option_map Verdict (number_in 255 text)

-- `D` or `K`, and nothing behind it
unfoldable pub alone_by : Command → List ℕ → Option Command
alone_by command line = cond (eqb (length line) 1) (Some command) None

-- A line by its first field, which is a letter; `text` is what stands behind it.
unfoldable pub command_by : Option ℕ → List ℕ → List ℕ → List ℕ → Told
command_by None line text bytes = unread bytes
command_by (Some letter) line text bytes =
    cond (eqb letter 0x48) (told (start_by true text) bytes)
    (cond (eqb letter 0x45) (told (start_by false text) bytes)
    (cond (eqb letter 0x4F) (open_by text bytes)
    (cond (eqb letter 0x52) (reply_by text bytes)
    (cond (eqb letter 0x4C) (told (release_by text) bytes)
    (cond (eqb letter 0x42) (bytes_by text bytes)
    (cond (eqb letter 0x54) (told (ticks_by text) bytes)
    (cond (eqb letter 0x44) (told (alone_by Drained line) bytes)
    (cond (eqb letter 0x56) (told (verdict_by text) bytes)
    (cond (eqb letter 0x4B) (told (alone_by Dropped line) bytes) (unread bytes))))))))))

-- "A line it can't read .., over 1,024 bytes, .. prints `?`."
unfoldable pub line_read : List ℕ → List ℕ → Told
line_read line bytes = cond (ltb 1024 (length line)) (unread bytes) (command_by (letter_of (field_of line)) line (behind_of line) bytes)
