-- What each line does, and what is printed for it (01, "Bench program and proved table"): over every line, unit, room and output memory.
-- Which line asks for what is `LineIs` (script/specs/Lines.antt), the unit's calls are `called` (link/specs/History.antt), and what a user
-- reads of a place is `own_of`, of the reports that were dropped `dropped_of` (link/specs/Reading.antt). Proved in `proofs/Lines.antt`.
use Rattle.std.specs.Prelude.{ℕ, suc, ◌+◌, ◌≤◌, ◌<◌, ◌≡◌, List, [], ◌∷◌, ◌++◌, length, drop, None, Option, Some}
use Rattle.wire.specs.Lent.{on_front}
use Rattle.place.specs.declared.Standing.{Standing}
use Rattle.place.specs.declared.Standing.TheVariants as standing
use Rattle.place.specs.declared.Verdict.TheVariants as verdict
use Rattle.exchange.specs.Request.{primary, reply, freeing_own, freeing_incoming}
use Rattle.exchange.specs.declared.Primary.{Primary}
use Rattle.exchange.specs.declared.OwnReading.{OwnReading}
use Rattle.link.specs.Answer.{outcome_number, note_number}
use Rattle.link.specs.State.{fresh_link}
use Rattle.link.specs.Run.{Left}
use Rattle.link.specs.Reading.{own_of, dropped_of}
use Rattle.link.specs.History.{Call, byte, tick, drained, request, called}
use Rattle.link.specs.Door.{bytes_left}
use Rattle.link.specs.Refusals.{SetupFits, in_ticks}
use Rattle.link.specs.declared.Link.{Link}
use Rattle.link.specs.declared.Setup.{Setup}
use Rattle.script.specs.Lines.{Order, starts, opens, replies, frees_own, frees_incoming, hears, waits, drains, shows, counts, LineIs, OneOf}
use Rattle.script.specs.Printed.{number_text, data_text}
use Rattle.talk.specs.Answer.{Done, line_done, text_done}

-- ---- the calls of a line

-- which calls of the unit an order makes, with all that its line says
pub data Makes : Order → List Call → Type 0 where
  one_open : (q : Primary) (bs : List ℕ) → Makes (opens q bs) (request (primary q bs) ∷ [])
  one_reply : (p f : ℕ) (bs : List ℕ) → Makes (replies p f bs) (request (reply p f bs) ∷ [])
  -- "`L` O or I and place": of the kind and of the place that are named
  one_own : (p : ℕ) → Makes (frees_own p) (request (freeing_own p) ∷ [])
  one_incoming : (p : ℕ) → Makes (frees_incoming p) (request (freeing_incoming p) ∷ [])
  -- "`B` and `T` make many calls": one for each byte, in their order, and one for each tick
  no_byte : Makes (hears []) []
  a_byte : (b : ℕ) (fits : b < 256) (bs : List ℕ) (ks : List Call) → Makes (hears bs) ks → Makes (hears (b ∷ bs)) (byte b fits ∷ ks)
  no_tick : Makes (waits 0) []
  a_tick : (n : ℕ) (ks : List Call) → Makes (waits n) ks → Makes (waits (suc n)) (tick ∷ ks)
  one_drained : Makes drains (drained ∷ [])

-- What each of some calls leaves, made one after the other: a call is made on the unit and the room that the one before it left, and is
-- lent the output memory behind what that one put out.
unfoldable pub made_on : Link → List ℕ → List ℕ → List Call → List Left
made_on u room out [] = []
made_on u room out (k ∷ ks) =
    called u room out k
    ∷ made_on (called u room out k).answer.link (called u room out k).room (drop (called u room out k).answer.count out) ks

-- "outputs joined"
unfoldable pub outputs : List Left → List ℕ
outputs [] = []
outputs (l ∷ ls) = bytes_left l ++ outputs ls

-- "last call's number and note; a zero count prints `0 - 20`"
abbrev pub last_number : List Left → ℕ
last_number [] = 0
last_number (l ∷ []) = outcome_number l.answer.outcome
last_number (l ∷ m ∷ ls) = last_number (m ∷ ls)

abbrev pub last_note : List Left → ℕ
last_note [] = 20
last_note (l ∷ []) = note_number l.answer.note
last_note (l ∷ m ∷ ls) = last_note (m ∷ ls)

-- the unit and the room that the last one left, or those that there were
abbrev pub last_link : Link → List Left → Link
last_link u [] = u
last_link u (l ∷ ls) = last_link l.answer.link ls

abbrev pub last_room : List ℕ → List Left → List ℕ
last_room room [] = room
last_room room (l ∷ ls) = last_room l.room ls

-- "prints one line each: refusal number or 0, bytes out in hex or `-`, note"
abbrev pub answer_line : List Left → List ℕ
answer_line ls = number_text (last_number ls) ++ (0x20 ∷ (data_text (outputs ls) ++ (0x20 ∷ (number_text (last_note ls) ++ (0x0A ∷ [])))))

-- what these calls come to
pub record CallsDone (u : Link) (room out : List ℕ) (ls : List Left) (d : Done) : Type 0 where
  pub text : text_done d ≡ answer_line ls
  pub bench : d.shown.bench ≡ Some (last_link u ls)
  pub kept : d.room ≡ last_room room ls
  -- of the memory for output they fill the front
  pub written : d.out ≡ on_front (outputs ls) out

pub record OrderDone (u : Link) (o : Order) (room out : List ℕ) (d : Done) : Type 0 where
  pub calls : List Call
  pub made : Makes o calls
  pub came : CallsDone u room out (made_on u room out calls) d

-- ---- lines that make no call

-- the unit, if there is one, the room and the memory for output
pub record AsItWas (b : Option Link) (room out : List ℕ) (d : Done) : Type 0 where
  pub bench : d.shown.bench ≡ b
  pub kept : d.room ≡ room
  pub written : d.out ≡ out

-- "prints `?`"
pub record Question (b : Option Link) (room out : List ℕ) (d : Done) : Type 0 where
  pub text : text_done d ≡ 0x3F ∷ 0x0A ∷ []
  pub all : AsItWas b room out d

-- "0 open; 1 sent ..; 2 answered ..; 3 declined ..; 4 other reply; 5 broken; 6 no reply in T3; 7 send failed"
pub data VerdictIs : Standing → ℕ → Type 0 where
  is_open : VerdictIs standing.Open 0
  is_sent_lem : VerdictIs (standing.Given verdict.Sent) 1
  is_answered : VerdictIs (standing.Given verdict.Answered) 2
  is_declined : VerdictIs (standing.Given verdict.Declined) 3
  is_other_lem : VerdictIs (standing.Given verdict.Other) 4
  is_broken : VerdictIs (standing.Given verdict.Broken) 5
  no_reply : VerdictIs (standing.Given verdict.NoReply) 6
  send_failed : VerdictIs (standing.Given verdict.SendFailed) 7

-- "V, place, verdict"
pub record VerdictText (s : Standing) (p : ℕ) (text : List ℕ) : Type 0 where
  pub verdict : ℕ
  pub is : VerdictIs s verdict
  pub whole : text ≡ 0x56 ∷ 0x20 ∷ (number_text p ++ (0x20 ∷ (0x30 + verdict) ∷ 0x0A ∷ []))

-- "`V` place prints V, place, verdict, or `9 - 20` for a free place or one above 3": by what is read of the place
abbrev pub ReadingText : Option OwnReading → ℕ → List ℕ → Type 0
ReadingText None p text = text ≡ 0x39 ∷ 0x20 ∷ 0x2D ∷ 0x20 ∷ 0x32 ∷ 0x30 ∷ 0x0A ∷ []
ReadingText (Some r) p text = VerdictText r.standing p text

pub record VerdictDone (u : Link) (p : ℕ) (room out : List ℕ) (d : Done) : Type 0 where
  pub text : ReadingText (own_of u p) p (text_done d)
  pub all : AsItWas (Some u) room out d

-- "`K n`, decimal" (02, request 2): how many reports were dropped, as it is read of the unit
pub record DroppedDone (u : Link) (room out : List ℕ) (d : Done) : Type 0 where
  pub text : text_done d ≡ 0x4B ∷ 0x20 ∷ (number_text (dropped_of u) ++ (0x0A ∷ []))
  pub all : AsItWas (Some u) room out d

-- a start that is accepted begins anew, and the room is as it was
pub record StartAccepted (s : Setup) (room out : List ℕ) (d : Done) : Type 0 where
  -- `0 - 20`
  pub text : text_done d ≡ 0x30 ∷ 0x20 ∷ 0x2D ∷ 0x20 ∷ 0x32 ∷ 0x30 ∷ 0x0A ∷ []
  pub all : AsItWas (Some (fresh_link (in_ticks s) s.last)) room out d

-- a refused one leaves the unit that there was, or none (docs/READINGS.md, 26)
pub record StartRefused (b : Option Link) (room out : List ℕ) (d : Done) : Type 0 where
  -- `4 - 20`
  pub text : text_done d ≡ 0x34 ∷ 0x20 ∷ 0x2D ∷ 0x20 ∷ 0x32 ∷ 0x30 ∷ 0x0A ∷ []
  pub all : AsItWas b room out d

pub record StartDone (b : Option Link) (s : Setup) (room out : List ℕ) (d : Done) : Type 0 where
  pub accepted : SetupFits s → StartAccepted s room out d
  pub refused : (SetupFits s → ⊥) → StartRefused b room out d

-- ---- all lines

-- a line for a unit that was started
abbrev pub Does : Link → Order → List ℕ → List ℕ → Done → Type 0
Does u (starts s) room out d = StartDone (Some u) s room out d
Does u (opens q bs) room out d = OrderDone u (opens q bs) room out d
Does u (replies p f bs) room out d = OrderDone u (replies p f bs) room out d
Does u (frees_own p) room out d = OrderDone u (frees_own p) room out d
Does u (frees_incoming p) room out d = OrderDone u (frees_incoming p) room out d
Does u (hears bs) room out d = OrderDone u (hears bs) room out d
Does u (waits n) room out d = OrderDone u (waits n) room out d
Does u drains room out d = OrderDone u drains room out d
Does u (shows p) room out d = VerdictDone u p room out d
Does u counts room out d = DroppedDone u room out d

-- "before the first start that was not refused": of all lines a start alone does anything
abbrev pub DoesEarly : Order → List ℕ → List ℕ → Done → Type 0
DoesEarly (starts s) room out d = StartDone None s room out d
DoesEarly (opens q bs) room out d = Question None room out d
DoesEarly (replies p f bs) room out d = Question None room out d
DoesEarly (frees_own p) room out d = Question None room out d
DoesEarly (frees_incoming p) room out d = Question None room out d
DoesEarly (hears bs) room out d = Question None room out d
DoesEarly (waits n) room out d = Question None room out d
DoesEarly drains room out d = Question None room out d
DoesEarly (shows p) room out d = Question None room out d
DoesEarly counts room out d = Question None room out d

pub record LineDoes (b : Option Link) (line room out : List ℕ) (d : Done) : Type 0 where
  -- "A line it can't read .., over 1,024 bytes"
  pub unsaid : (OneOf line → ⊥) → Question b room out d
  pub long : 1024 < length line → Question b room out d
  -- any other
  pub early : b ≡ None → length line ≤ 1024 → (o : Order) → LineIs line o → DoesEarly o room out d
  pub started : (u : Link) → b ≡ Some u → length line ≤ 1024 → (o : Order) → LineIs line o → Does u o room out d

abbrev pub LinesDo : Type 0
LinesDo = (b : Option Link) (line room out : List ℕ) → LineDoes b line room out (line_done b line room out)
