-- What is proved of the definitions of this crate, over all inputs. Each proof is in `proofs/`.
--
-- Whoever keeps messages in the room needs `front` ("the first n bytes of message m") and these statements, and never an address.
use Rattle.std.specs.Prelude.{ℕ, ◌+◌, ◌≤◌, ◌<◌, ◌≡◌, true, List, [], ◌∷◌, ◌++◌, map, ◌↔◌, ◌⊎◌, length, take, drop, get_or}
use Rattle.wire.specs.Bytes.{part}
use Rattle.room.specs.Room.{place_of, start_of, lies, kept_in, bytes_in, front}
use Rattle.room.specs.declared.Message.{Message}
use Rattle.room.specs.declared.Message.TheVariants.{Reply, Incoming, Send}

-- "4 reply areas, 4 incoming areas, 1 send area": the messages that the room has areas for, "in that order"
abbrev pub in_order : List Message
in_order = Reply 0 ∷ Reply 1 ∷ Reply 2 ∷ Reply 3 ∷ Incoming 0 ∷ Incoming 1 ∷ Incoming 2 ∷ Incoming 3 ∷ Send ∷ []

-- "4,096 each": the areas follow one another from the room's first byte, and the last ends with its last, "36,864 bytes"
pub record AreasInOrder : Type 0 where
  pub starts : map start_of in_order ≡ 0 ∷ 4096 ∷ 8192 ∷ 12288 ∷ 16384 ∷ 20480 ∷ 24576 ∷ 28672 ∷ 32768 ∷ []
  pub ends : start_of Send + 4096 ≡ 36864

-- The bytes of message m from offset o on, n of them, lie in the room: it is as large as it must be, m has one of the four places
-- of its kind, and the bytes are within the area: "4,096 each".
pub record Lies (room : List ℕ) (m : Message) (o n : ℕ) : Type 0 where
  pub whole : length room ≡ 36864
  pub place : place_of m < 4
  pub within : o + n ≤ 4096

abbrev pub LiesExactly : Type 0
LiesExactly = (room : List ℕ) (m : Message) (o n : ℕ) → lies room m o n ≡ true ↔ Lies room m o n

-- "its area begins with the data": the first n bytes of a message are the bytes of the room from the start of its area on, as they lie
-- there
abbrev pub FrontInRoom : Type 0
FrontInRoom = (room : List ℕ) (m : Message) (n : ℕ) → front room m n ≡ take n (drop (start_of m) room)

-- the first n bytes of a message are n bytes
abbrev pub FrontLength : Type 0
FrontLength = (room : List ℕ) (m : Message) (n : ℕ) → length room ≡ 36864 → place_of m < 4 → n ≤ 4096 → length (front room m n) ≡ n

-- and the first n of the first k of them are these
abbrev pub FrontOfFront : Type 0
FrontOfFront = (room : List ℕ) (m : Message) (n k : ℕ) → n ≤ k → k ≤ 4096 → take n (front room m k) ≡ front room m n

-- bytes kept behind the first o of their message are joined to them
abbrev pub KeepJoins : Type 0
KeepJoins =
    (room : List ℕ) (m : Message) (o : ℕ) (d : List ℕ) → Lies room m o (length d)
    → front (kept_in room m o d) m (o + length d) ≡ front room m o ++ d

-- no other message of the room has a byte changed by a keep, whatever is kept and wherever
abbrev pub KeepElsewhere : Type 0
KeepElsewhere =
    (room : List ℕ) (m other : Message) (o n : ℕ) (d : List ℕ) → (m ≡ other → ⊥) → place_of other < 4 → n ≤ 4096
    → front (kept_in room m o d) other n ≡ front room other n

-- A keep changes no byte but those it fills: "A call writes only .. the area bytes it fills" (01). Beside `AreasInOrder` and `FrontInRoom`
-- this alone speaks of addresses, for it is about every byte of a room of any size.
pub record OnlyFills (room : List ℕ) (m : Message) (o : ℕ) (d : List ℕ) : Type 0 where
  pub size : length (kept_in room m o d) ≡ length room
  pub outside : (i : ℕ) → (i < start_of m + o) ⊎ (start_of m + o + length d ≤ i) → get_or (kept_in room m o d) i 0 ≡ get_or room i 0
  pub refused : (Lies room m o (length d) → ⊥) → kept_in room m o d ≡ room

abbrev pub KeepsOnly : Type 0
KeepsOnly = (room : List ℕ) (m : Message) (o : ℕ) (d : List ℕ) → OnlyFills room m o d

-- Where n bytes from offset o on lie in the room, a read gives so many, and they are those of every front of the message that has
-- them.
pub record Reads (room : List ℕ) (m : Message) (o n : ℕ) : Type 0 where
  pub size : length (bytes_in room m o n) ≡ n
  pub of_front : (k : ℕ) → o + n ≤ k → k ≤ 4096 → bytes_in room m o n ≡ part o (o + n) (front room m k)

abbrev pub BytesRead : Type 0
BytesRead = (room : List ℕ) (m : Message) (o n : ℕ) → Lies room m o n → Reads room m o n

-- from the message's start on they are the front
abbrev pub FrontRead : Type 0
FrontRead = (room : List ℕ) (m : Message) (n : ℕ) → Lies room m 0 n → bytes_in room m 0 n ≡ front room m n

-- and where they do not lie in the room there are none
abbrev pub NothingRead : Type 0
NothingRead = (room : List ℕ) (m : Message) (o n : ℕ) → (Lies room m o n → ⊥) → bytes_in room m o n ≡ []

-- what was kept is what is read
abbrev pub KeptIsRead : Type 0
KeptIsRead =
    (room : List ℕ) (m : Message) (o : ℕ) (d : List ℕ) → Lies room m o (length d) → bytes_in (kept_in room m o d) m o (length d) ≡ d
