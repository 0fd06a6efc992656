-- Requests: open a primary, reply, release (01, "Messages"; "Refusal numbers and notes").
use Rattle.std.specs.Prelude.{ℕ, ◌+◌, ◌*◌, ◌%◌, Bool, true, false, cond, not, ◌&&◌, ◌||◌, List, eqb, ltb, length, Option, Some, None, Ok, Err}
use Rattle.wire.specs.Message.{message_limit}
use Rattle.cut.specs.Blocks.{block_count}
use Rattle.header.specs.Header.{header_bytes}
use Rattle.header.specs.declared.header.Header.{Header}
use Rattle.settings.specs.declared.terms.Terms.{Terms}
use Rattle.room.specs.Room.{kept_in}
use Rattle.room.specs.declared.Message.TheVariants as message
use Rattle.place.specs.Own.{own_claimed, own_released, own_has_verdict}
use Rattle.place.specs.Incoming.{primary_of, incoming_is_complete, incoming_is_replied, incoming_answered, incoming_released}
use Rattle.place.specs.declared.Incoming.{Incoming}
use Rattle.table.specs.Own.{free_own, own_put}
use Rattle.table.specs.Number.{next_number}
use Rattle.exchange.specs.Exchange.{own_place, incoming_place, put_own, put_incoming, with_sending}
use Rattle.exchange.specs.declared.Sending.{Sending}
use Rattle.exchange.specs.declared.Sending.TheVariants as sending
use Rattle.exchange.specs.declared.Exchange.{Exchange}
use Rattle.exchange.specs.declared.Refusal.{Refusal}
use Rattle.exchange.specs.declared.Refusal.TheVariants as refusal
use Rattle.exchange.specs.declared.Primary.{Primary}
use Rattle.exchange.specs.declared.Requested.{Requested}
use Rattle.exchange.specs.Asked.{Asked}

-- 01's table
abbrev pub refusal_number : Refusal → ℕ
refusal_number refusal.Message = 5
refusal_number refusal.DataLong = 6
refusal_number refusal.Sending = 7
refusal_number refusal.NoPlace = 8
refusal_number refusal.Place = 9
refusal_number refusal.NotWanted = 10
refusal_number refusal.Replied = 11

-- the number of an answer; 0 where it is no refusal
abbrev pub asked_number : Asked → ℕ
asked_number (Ok p) = 0
asked_number (Err r) = refusal_number r

-- What a request leaves: what it answers, and every byte of the room.
pub record Requesting : Type 0 where
  pub answer : Requested
  pub room : List ℕ

abbrev pub requesting : Requested → List ℕ → Requesting
requesting q room = record { answer = q; room = room }

-- a refused request changes nothing
unfoldable pub refused_by : Exchange → Refusal → Requested
refused_by x r = record { exchange = x; asked = Err r }

unfoldable pub refused : Exchange → Refusal → List ℕ → Requesting
refused x r room = requesting (refused_by x r) room

-- ---- the tests, a row of 01's table each

-- 5: "stream above 127; function even in a primary"
unfoldable pub bad_primary : Primary → Bool
bad_primary q = ltb 127 q.stream || eqb (q.function % 2) 0

-- 5: "in a reply, neither primary + 1 nor 0"
unfoldable pub bad_function : Header → ℕ → Bool
bad_function h f = not (eqb f 0) && not (eqb f (h.function + 1))

-- 6: "data above 4,096 bytes"
unfoldable pub data_long : ℕ → Bool
data_long n = ltb message_limit n

-- 7: "a message is being sent or held"; "refusal 7 also covers a report on its way" (02, request 2)
abbrev pub sending_by : Sending → Bool
sending_by sending.Nothing = false
sending_by (sending.Primary p n) = true
sending_by (sending.Reply p f n) = true
sending_by (sending.Report f n) = true

abbrev pub is_sending : Exchange → Bool
is_sending x = sending_by x.sending

-- 9: "on release or reply, an incoming one not complete or with its reply being sent or held"
unfoldable pub not_ready : Incoming → Bool
not_ready i = not (incoming_is_complete i) && not (incoming_is_replied i)

-- ---- open a primary

-- The header of the last block of a primary with n data bytes, which its place keeps: an S9F9 shows it (02, request 2). R = 1 means to the
-- host; "only the last has E = 1"; "System bytes: the caller's 16-bit source ID, then the number."
abbrev pub primary_header : Terms → Primary → ℕ → ℕ → Header
primary_header c q n number = record {
  r = not c.host;
  device = c.device;
  w = q.w;
  stream = q.stream;
  function = q.function;
  e = true;
  number = block_count n;
  system = q.source * 65536 + number;
}

-- a primary of n data bytes takes a place and this number
abbrev pub claimed_as : Terms → Exchange → ℕ → Primary → ℕ → ℕ → Exchange
claimed_as c x p q n number = record {
  own = own_put x.own p (own_claimed (own_place x p) (header_bytes (primary_header c q n number)));
  incoming = x.incoming;
  saved = x.saved;
  numbers = record { last = number; latest = x.numbers.latest };
  sending = sending.Primary p n;
  reports = x.reports;
}

unfoldable pub claimed_at : Terms → Exchange → ℕ → Primary → ℕ → Exchange
claimed_at c x p q n = claimed_as c x p q n (next_number x.own x.numbers.last x.numbers.latest)

-- 8: "all 4 own places in use"
abbrev pub open_by : Option ℕ → Terms → Exchange → Primary → List ℕ → List ℕ → Requesting
open_by (Some p) c x q d room =
    requesting (record { exchange = claimed_at c x p q (length d); asked = Ok p }) (kept_in room message.Send 0 d)
open_by None c x q d room = refused x refusal.NoPlace room

unfoldable pub open_free : Terms → Exchange → Primary → List ℕ → List ℕ → Requesting
open_free c x q d room = open_by (free_own x.own) c x q d room

-- "5, 6, 7, 8"
unfoldable pub open_of : Terms → Exchange → Primary → List ℕ → List ℕ → Requesting
open_of c x q d room =
    cond (bad_primary q) (refused x refusal.Message room)
    (cond (data_long (length d)) (refused x refusal.DataLong room)
    (cond (is_sending x) (refused x refusal.Sending room)
    (open_free c x q d room)))

-- ---- reply

unfoldable pub reply_accepted : Exchange → ℕ → ℕ → List ℕ → List ℕ → Requesting
reply_accepted x p f d room =
    requesting
    (record {
      exchange = with_sending (put_incoming x p (incoming_answered (incoming_place x p))) (sending.Reply p f (length d));
      asked = Ok p;
    })
    (kept_in room message.Send 0 d)

-- "5, 6, 7"
unfoldable pub reply_ready : Exchange → ℕ → ℕ → List ℕ → List ℕ → Requesting
reply_ready x p f d room =
    cond (bad_function (primary_of (incoming_place x p)) f) (refused x refusal.Message room)
    (cond (data_long (length d)) (refused x refusal.DataLong room)
    (cond (is_sending x) (refused x refusal.Sending room)
    (reply_accepted x p f d room)))

-- "9, 10, 11" before those
unfoldable pub reply_of : Exchange → ℕ → ℕ → List ℕ → List ℕ → Requesting
reply_of x p f d room =
    cond (not_ready (incoming_place x p)) (refused x refusal.Place room)
    (cond (not (primary_of (incoming_place x p)).w) (refused x refusal.NotWanted room)
    (cond (incoming_is_replied (incoming_place x p)) (refused x refusal.Replied room)
    (reply_ready x p f d room)))

-- ---- release: "asked for each place by itself"

-- 9: "place above 3 or free; on release, an own place without verdict"
unfoldable pub release_own : Exchange → ℕ → Requested
release_own x p =
    cond (own_has_verdict (own_place x p))
    (record { exchange = put_own x p (own_released (own_place x p)); asked = Ok p })
    (refused_by x refusal.Place)

unfoldable pub release_incoming : Exchange → ℕ → Requested
release_incoming x p =
    cond (not_ready (incoming_place x p)) (refused_by x refusal.Place)
    (record { exchange = put_incoming x p (incoming_released (incoming_place x p)); asked = Ok p })

-- ---- any request

-- A primary, a reply, a release of an own or of an incoming place is asked for.
pub data Request : Type 0 where
  primary : Primary → (d : List ℕ) → Request
  reply : (p f : ℕ) (d : List ℕ) → Request
  freeing_own freeing_incoming : (p : ℕ) → Request

-- what a request leaves; a release leaves the room as it is
abbrev pub answer_of : Terms → Exchange → Request → List ℕ → Requesting
answer_of c x (primary q d) room = open_of c x q d room
answer_of c x (reply p f d) room = reply_of x p f d room
answer_of c x (freeing_own p) room = requesting (release_own x p) room
answer_of c x (freeing_incoming p) room = requesting (release_incoming x p) room

-- whether memory is lent to it: the data of a message to be sent goes into the room, a release is lent none
abbrev pub lends : Request → Bool
lends (primary q d) = true
lends (reply p f d) = true
lends (freeing_own p) = false
lends (freeing_incoming p) = false
