-- The lent room (01, "Messages"): "Lent room is 36,864 bytes: 4 reply areas, 4 incoming areas, 1 send area, 4,096 each, in that
-- order." Only this file says where the bytes of a message lie.
use Rattle.std.specs.Prelude.{ℕ, ◌+◌, ◌*◌, Bool, cond, ◌&&◌, List, [], eqb, leb, ltb, length}
use Rattle.wire.specs.Bytes.{part}
use Rattle.wire.specs.Lent.{splice}
use Rattle.wire.specs.Message.{message_limit}
use Rattle.room.specs.declared.Message.{Message}
use Rattle.room.specs.declared.Message.TheVariants.{Reply, Incoming, Send}

-- "4 reply areas, 4 incoming areas": as many as there are places of each kind
abbrev pub places : ℕ
places = 4

-- "4,096 each": as many as the longest message has
abbrev pub area : ℕ
area = message_limit

-- "Lent room is 36,864 bytes"
abbrev pub room_size : ℕ
room_size = 36864

-- the place of a message; that of the one being sent is 0, for there is "1 send area"
abbrev pub place_of : Message → ℕ
place_of (Reply p) = p
place_of (Incoming i) = i
place_of Send = 0

-- where the area of a message starts: "4 reply areas, 4 incoming areas, 1 send area, .. in that order"
abbrev pub start_of : Message → ℕ
start_of (Reply p) = p * area
start_of (Incoming i) = (places + i) * area
start_of Send = (places + places) * area

-- the room is as large as it must be
unfoldable pub whole_room : List ℕ → Bool
whole_room room = eqb (length room) room_size

-- there is such a place
unfoldable pub has_place : Message → Bool
has_place m = ltb (place_of m) places

-- n bytes from offset o on are within an area
unfoldable pub in_area : ℕ → ℕ → Bool
in_area o n = leb (o + n) area

-- the bytes o to o + n of a message lie in the room
unfoldable pub lies : List ℕ → Message → ℕ → ℕ → Bool
lies room m o n = whole_room room && has_place m && in_area o n

-- the room with d put in as the bytes of m from offset o on
unfoldable pub filled : List ℕ → Message → ℕ → List ℕ → List ℕ
filled room m o d = splice room (start_of m + o) d

-- the room once d was kept so: "A call writes only .. the area bytes it fills", and none where they do not lie in the room
unfoldable pub kept_in : List ℕ → Message → ℕ → List ℕ → List ℕ
kept_in room m o d = cond (lies room m o (length d)) (filled room m o d) room

-- n bytes of the room, those of m from offset o on
unfoldable pub bytes_at : List ℕ → Message → ℕ → ℕ → List ℕ
bytes_at room m o n = part (start_of m + o) (start_of m + o + n) room

-- what is read of them: none where they do not lie in the room
unfoldable pub bytes_in : List ℕ → Message → ℕ → ℕ → List ℕ
bytes_in room m o n = cond (lies room m o n) (bytes_at room m o n) []

-- the first n bytes of m, for n up to 4,096: "its area begins with" these
unfoldable pub front : List ℕ → Message → ℕ → List ℕ
front room m n = part (start_of m) (start_of m + n) room
