-- The lines of bench as 01 writes them ("Bench program and proved table"), and that a line is read exactly if it is one of these. They are
-- put together from fields, and taken apart nowhere; what a field says is `Says` and `TextSays` of crate `text`. Proved in
-- `proofs/Lines.antt`.
use Rattle.std.specs.Prelude.{ℕ, ◌+◌, ◌/◌, ◌%◌, ◌≤◌, ◌<◌, ◌≡◌, Bool, true, false, List, [], ◌∷◌, ◌++◌, length, Some, None}
use Rattle.wire.specs.Bytes.{Bytes as AreBytes}
use Rattle.wire.specs.Lent.{on_front}
use Rattle.exchange.specs.declared.Primary.{Primary}
use Rattle.link.specs.declared.Setup.{Setup}
use Rattle.text.specs.Theorems.{Says, TextSays}
use Rattle.script.specs.Command.{line_read}
use Rattle.script.specs.Printed.{data_text}
use Rattle.script.specs.declared.Command.{Command}
use Rattle.script.specs.declared.Command.TheVariants.{Start, Open, Reply, ReleaseOwn, ReleaseIncoming, Bytes, Ticks, Drained, Verdict, Dropped}

-- ---- what a line asks for, with the bytes that it says

pub data Order : Type 0 where
  starts : Setup → Order
  opens : Primary → List ℕ → Order
  replies : (place function : ℕ) → List ℕ → Order
  frees_own frees_incoming : (place : ℕ) → Order
  hears : List ℕ → Order
  waits : (count : ℕ) → Order
  drains : Order
  shows : (place : ℕ) → Order
  counts : Order

-- ---- fields

-- "Numbers are decimal": a field that says a number, and one within its limit
pub record NumberIn (most : ℕ) (text : List ℕ) (n : ℕ) : Type 0 where
  pub says : Says text n
  pub within : n ≤ most

-- "bytes hex, `-` no data"
pub data DataIn : List ℕ → List ℕ → Type 0 where
  no_data : DataIn (0x2D ∷ []) []
  some_data : (text bs : List ℕ) → 1 ≤ length bs → TextSays text bs → DataIn text bs

-- "role (H host, E equipment)"
abbrev pub role_letter : Bool → ℕ
role_letter true = 0x48
role_letter false = 0x45

-- W as it is written
abbrev pub bit : Bool → ℕ
bit true = 1
bit false = 0

-- fields, one space between two (docs/READINGS.md, 27)
abbrev pub spaced : List ℕ → List (List ℕ) → List ℕ
spaced field [] = field
spaced field (next ∷ more) = field ++ (0x20 ∷ spaced next more)

-- a line: its letter, and the fields behind it
abbrev pub line_of : ℕ → List (List ℕ) → List ℕ
line_of letter fields = spaced (letter ∷ []) fields

-- ---- the lines: "W above 1; stream, function or place above 255; any other number but a count above 65,535" can't be read, "a count is at
-- most 100,000"

pub data LineIs : List ℕ → Order → Type 0 where
  -- "First line: role .., T1, T2, T3, T4, RTY, DEVID, duplicate check, last number"
  start_line :
      (s : Setup) (t1 t2 t3 t4 rty device duplicates last : List ℕ) → NumberIn 65535 t1 s.t1.0 → NumberIn 65535 t2 s.t2.0
      → NumberIn 65535 t3 s.t3.0 → NumberIn 65535 t4 s.t4.0 → NumberIn 65535 rty s.rty → NumberIn 65535 device s.device
      → NumberIn 65535 duplicates s.duplicates → NumberIn 65535 last s.last
      → LineIs (line_of (role_letter s.host) (t1 ∷ t2 ∷ t3 ∷ t4 ∷ rty ∷ device ∷ duplicates ∷ last ∷ [])) (starts s)
  -- "`O` source W stream function data"
  open_line :
      (q : Primary) (source w stream function field bs : List ℕ) → NumberIn 65535 source q.source → NumberIn 1 w (bit q.w)
      → NumberIn 255 stream q.stream → NumberIn 255 function q.function → DataIn field bs
      → LineIs (line_of 0x4F (source ∷ w ∷ stream ∷ function ∷ field ∷ [])) (opens q bs)
  -- "`R` place function data"
  reply_line :
      (p f : ℕ) (place function field bs : List ℕ) → NumberIn 255 place p → NumberIn 255 function f → DataIn field bs
      → LineIs (line_of 0x52 (place ∷ function ∷ field ∷ [])) (replies p f bs)
  -- "`L` O or I and place"
  own_line : (p : ℕ) (place : List ℕ) → NumberIn 255 place p → LineIs (line_of 0x4C ((0x4F ∷ []) ∷ place ∷ [])) (frees_own p)
  incoming_line : (p : ℕ) (place : List ℕ) → NumberIn 255 place p → LineIs (line_of 0x4C ((0x49 ∷ []) ∷ place ∷ [])) (frees_incoming p)
  -- "`B` bytes"
  bytes_line : (field bs : List ℕ) → DataIn field bs → LineIs (line_of 0x42 (field ∷ [])) (hears bs)
  -- "`T` count"
  ticks_line : (n : ℕ) (count : List ℕ) → NumberIn 100000 count n → LineIs (line_of 0x54 (count ∷ [])) (waits n)
  -- "`D`"
  drained_line : LineIs (line_of 0x44 []) drains
  -- "`V` place"
  verdict_line : (p : ℕ) (place : List ℕ) → NumberIn 255 place p → LineIs (line_of 0x56 (place ∷ [])) (shows p)
  -- `K` alone (02, request 2)
  dropped_line : LineIs (line_of 0x4B []) counts

-- ---- what is read

-- the command of an order, and the bytes that come with it
abbrev pub command_of : Order → Command
command_of (starts s) = Start s
command_of (opens q bs) = Open q (length bs)
command_of (replies p f bs) = Reply p f (length bs)
command_of (frees_own p) = ReleaseOwn p
command_of (frees_incoming p) = ReleaseIncoming p
command_of (hears bs) = Bytes (length bs)
command_of (waits n) = Ticks n
command_of drains = Drained
command_of (shows p) = Verdict p
command_of counts = Dropped

abbrev pub bytes_of : Order → List ℕ
bytes_of (starts s) = []
bytes_of (opens q bs) = bs
bytes_of (replies p f bs) = bs
bytes_of (frees_own p) = []
bytes_of (frees_incoming p) = []
bytes_of (hears bs) = bs
bytes_of (waits n) = []
bytes_of drains = []
bytes_of (shows p) = []
bytes_of counts = []

-- a line that is one of 01's
pub record OneOf (line : List ℕ) : Type 0 where
  pub order : Order
  pub is : LineIs line order

-- Each line is read as what it is, with its bytes at the front of the memory that is lent for them; "A line it can't read .., over 1,024
-- bytes" is one that can't be read, and nothing else is.
pub record LineRead (line lent : List ℕ) : Type 0 where
  pub said :
      (o : Order) → LineIs line o → length line ≤ 1024
      → line_read line lent ≡ record { command = Some (command_of o); bytes = on_front (bytes_of o) lent }
  pub unsaid : (OneOf line → ⊥) → line_read line lent ≡ record { command = None; bytes = lent }
  pub long : 1024 < length line → line_read line lent ≡ record { command = None; bytes = lent }

abbrev pub LinesRead : Type 0
LinesRead = (line lent : List ℕ) → LineRead line lent

-- ---- every order within its limits is one that a line asks for, and no other is

pub record SetupWithin (s : Setup) : Type 0 where
  pub t1 : s.t1.0 ≤ 65535
  pub t2 : s.t2.0 ≤ 65535
  pub t3 : s.t3.0 ≤ 65535
  pub t4 : s.t4.0 ≤ 65535
  pub rty : s.rty ≤ 65535
  pub device : s.device ≤ 65535
  pub duplicates : s.duplicates ≤ 65535
  pub last : s.last ≤ 65535

pub record PrimaryWithin (q : Primary) : Type 0 where
  pub source : q.source ≤ 65535
  pub stream : q.stream ≤ 255
  pub function : q.function ≤ 255

abbrev pub Within : Order → Type 0
Within (starts s) = SetupWithin s
Within (opens q bs) = PrimaryWithin q × AreBytes bs
Within (replies p f bs) = (p ≤ 255) × (f ≤ 255) × AreBytes bs
Within (frees_own p) = p ≤ 255
Within (frees_incoming p) = p ≤ 255
Within (hears bs) = AreBytes bs
Within (waits n) = n ≤ 100000
Within drains = Unit {0}
Within (shows p) = p ≤ 255
Within counts = Unit {0}

-- a number as it may be written: six digits, for zeros before it are read (docs/READINGS.md, 27)
abbrev pub six_digits : ℕ → List ℕ
six_digits n =
    (0x30 + n / 10 / 10 / 10 / 10 / 10 % 10) ∷ (0x30 + n / 10 / 10 / 10 / 10 % 10) ∷ (0x30 + n / 10 / 10 / 10 % 10) ∷ (0x30 + n / 10 / 10 % 10)
    ∷ (0x30 + n / 10 % 10) ∷ (0x30 + n % 10) ∷ []

-- an order as a line, its bytes as bench prints bytes
abbrev pub written : Order → List ℕ
written (starts s) =
    line_of (role_letter s.host)
    (six_digits s.t1.0 ∷ six_digits s.t2.0 ∷ six_digits s.t3.0 ∷ six_digits s.t4.0 ∷ six_digits s.rty ∷ six_digits s.device
    ∷ six_digits s.duplicates ∷ six_digits s.last ∷ [])
written (opens q bs) =
    line_of 0x4F (six_digits q.source ∷ six_digits (bit q.w) ∷ six_digits q.stream ∷ six_digits q.function ∷ data_text bs ∷ [])
written (replies p f bs) = line_of 0x52 (six_digits p ∷ six_digits f ∷ data_text bs ∷ [])
written (frees_own p) = line_of 0x4C ((0x4F ∷ []) ∷ six_digits p ∷ [])
written (frees_incoming p) = line_of 0x4C ((0x49 ∷ []) ∷ six_digits p ∷ [])
written (hears bs) = line_of 0x42 (data_text bs ∷ [])
written (waits n) = line_of 0x54 (six_digits n ∷ [])
written drains = line_of 0x44 []
written (shows p) = line_of 0x56 (six_digits p ∷ [])
written counts = line_of 0x4B []

pub record OrdersWritten : Type 0 where
  -- written and read back, all its values and bytes
  pub back :
      (o : Order) → Within o → length (written o) ≤ 1024
      → (lent : List ℕ) → line_read (written o) lent ≡ record { command = Some (command_of o); bytes = on_front (bytes_of o) lent }
  -- a line that is one of 01's is for an order within the limits
  pub within : (line : List ℕ) (o : Order) → LineIs line o → Within o
