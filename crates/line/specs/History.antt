-- Calls on a line, in any order, and an onlooker. The onlooker sees which calls are made, what goes out, what is told and
-- what is remarked; of the line's own numbers it sees none.
use Rattle.std.specs.Prelude.{ℕ, ◌+◌, ◌<◌, List, [], ◌∷◌, ◌++◌, Bool, true, false, cond, ◌&&◌, ◌||◌, eqb}
use Rattle.line.specs.Codes.{ENQ, EOT, ACK, NAK}
use Rattle.line.specs.Line.{Heard, heard, stays, fresh_line, byte_of, tick_of, drained_of, ask_of, withdraw_of, settle_of}
use Rattle.line.specs.declared.phase.Phase.{Phase}
use Rattle.line.specs.declared.phase.Phase.TheVariants.{Idle, WaitEot, Draining, WaitAck, WaitLength, Body, Silence}
use Rattle.line.specs.declared.step.Out.{Out}
use Rattle.line.specs.declared.step.Out.TheVariants.{Nothing, Code, Block}
use Rattle.line.specs.declared.step.Told.{Told}
use Rattle.line.specs.declared.step.Told.TheVariants as told
use Rattle.line.specs.declared.step.Remark.{Remark}
use Rattle.line.specs.declared.step.Remark.TheVariants as remark
use Rattle.settings.specs.declared.limits.Limits.{Limits}
use Rattle.line.specs.declared.line.Line.{Line}

-- the calls of the line. A call of the unit makes one or more of these, `settle` last.
pub data Call : Type 0 where
  byte : (b : ℕ) → b < 256 → Call
  tick drained ask withdraw settle : Call

-- a choice on a call: what a byte gives, what a tick gives, what any other gives
abbrev pub on : {A : Type 0} → Call → (ℕ → A) → A → A → A
on (byte b fits) at_byte at_tick other = at_byte b
on tick at_byte at_tick other = at_tick
on drained at_byte at_tick other = other
on ask at_byte at_tick other = other
on withdraw at_byte at_tick other = other
on settle at_byte at_tick other = other

-- a choice on a call: what an ask gives, what a withdrawal gives, what any other gives
abbrev pub on_ask : {A : Type 0} → Call → A → A → A → A
on_ask (byte b fits) at_ask at_withdraw other = other
on_ask tick at_ask at_withdraw other = other
on_ask drained at_ask at_withdraw other = other
on_ask ask at_ask at_withdraw other = at_ask
on_ask withdraw at_ask at_withdraw other = at_withdraw
on_ask settle at_ask at_withdraw other = other

-- a choice on a call: what drained gives, what any other gives
abbrev pub on_drained : {A : Type 0} → Call → A → A → A
on_drained (byte b fits) at_drained other = other
on_drained tick at_drained other = other
on_drained drained at_drained other = at_drained
on_drained ask at_drained other = other
on_drained withdraw at_drained other = other
on_drained settle at_drained other = other

-- whether a call is a byte in, and that byte is x
abbrev pub comes : ℕ → Call → Bool
comes x k = on k (λ b. eqb b x) false false

-- what a call leaves of a line, and of the received bytes beside it
abbrev pub called : Limits → Line → List ℕ → Call → Heard
called c l rs (byte b fits) = byte_of c l b rs
called c l rs tick = heard (tick_of c l) rs
called c l rs drained = heard (stays (drained_of l)) rs
called c l rs ask = heard (stays (ask_of l)) rs
called c l rs withdraw = heard (stays (withdraw_of l)) rs
called c l rs settle = heard (settle_of l) rs

-- ---- a block of ours, as the onlooker sees it

-- none is under way; ENQ is out and EOT is waited for; the block is out and not drained; ACK is waited for
pub data Ours : Type 0 where
  none enquired leaving left : Ours

-- what a phase should be to the onlooker
abbrev pub ours_at : Phase → Ours
ours_at Idle = none
ours_at (WaitEot timer tries) = enquired
ours_at (Draining tries) = leaving
ours_at (WaitAck timer tries) = left
ours_at (WaitLength timer) = none
ours_at (Body timer a) = none
ours_at (Silence timer fault) = none

-- whether a call puts out code x alone
abbrev pub puts : ℕ → Out → Bool
puts x Nothing = false
puts x (Code y) = eqb y x
puts x Block = false

-- "until it is sent, fails .."
abbrev pub is_over : Told → Bool
is_over told.Nothing = false
is_over told.PutOut = false
is_over told.Sent = true
is_over told.Failed = true
is_over (told.Up n) = false

-- ".. or gives way"
abbrev pub gives_way : Remark → Bool
gives_way remark.Nothing = false
gives_way remark.GaveWay = true
gives_way remark.NoLength = false
gives_way remark.Gap = false
gives_way (remark.Bad fault) = false

abbrev pub ends : Told → Remark → Bool
ends t r = is_over t || gives_way r

-- "drained (the last block byte has left the wire)"
abbrev pub has_left : Ours → Ours
has_left none = none
has_left enquired = enquired
has_left leaving = left
has_left left = left

abbrev pub drains : Ours → Call → Ours
drains s k = on_drained k (has_left s) s

abbrev pub goes_on : Ours → Call → Out → Ours
goes_on s k Nothing = drains s k
goes_on s k (Code x) = cond (eqb x ENQ) enquired s
goes_on s k Block = leaving

abbrev pub ours_after : Ours → Call → Out → Told → Remark → Ours
ours_after s k o t r = cond (ends t r) none (goes_on s k o)

-- none is under way
abbrev pub is_none : Ours → Bool
is_none none = true
is_none enquired = false
is_none leaving = false
is_none left = false

-- a block's first ENQ: none was under way
abbrev pub begins : Ours → Out → Bool
begins s o = puts ENQ o && is_none s

-- A block is owed from the ask for it, if none is under way, or from giving way, until its first ENQ. A message that is gone is
-- withdrawn: a held block is held no more, and none is owed.
abbrev pub asked : Ours → Call → Bool → Bool
asked s k due = on_ask k (is_none s || due) false due

-- a tick is spent waiting for EOT or ACK
abbrev pub is_waiting : Ours → Bool
is_waiting none = false
is_waiting enquired = true
is_waiting leaving = false
is_waiting left = true

abbrev pub waits : Ours → ℕ → Call → ℕ
waits s n k = on k (λ b. n) (cond (is_waiting s) (n + 1) n) n

-- ---- a block of the far end: from our EOT to our ACK or NAK

-- what a phase should be to the onlooker
abbrev pub theirs_at : Phase → Bool
theirs_at Idle = false
theirs_at (WaitEot timer tries) = false
theirs_at (Draining tries) = false
theirs_at (WaitAck timer tries) = false
theirs_at (WaitLength timer) = true
theirs_at (Body timer a) = true
theirs_at (Silence timer fault) = true

abbrev pub theirs_after : Bool → Out → Bool
theirs_after s o = cond (puts EOT o) true (cond (puts ACK o || puts NAK o) false s)

-- ticks while it lasts
abbrev pub took_after : Bool → ℕ → Call → ℕ
took_after theirs n k = on k (λ b. n) (cond theirs (n + 1) n) n

-- bytes while it lasts
abbrev pub bytes_after : Bool → List ℕ → Call → List ℕ
bytes_after theirs bs k = on k (λ b. cond theirs (bs ++ (b ∷ [])) bs) bs bs

-- ticks since the last of them
abbrev pub silent_after : Bool → ℕ → Call → ℕ
silent_after theirs n k = on k (λ b. cond theirs 0 n) (cond theirs (n + 1) n) n

-- What the onlooker keeps. Each reading starts where what it counts starts, and stays until the next start.
pub record Seen : Type 0 where
  pub ours : Ours
  -- whether a block is owed
  pub owed : Bool
  -- since a block's first ENQ: ticks spent waiting for EOT or ACK, and ENQs put out, the first among them
  pub waited : ℕ
  pub enqs : ℕ
  -- whether a block of the far end is being received
  pub theirs : Bool
  -- since our EOT: ticks, and the bytes that came
  pub took : ℕ
  pub bytes : List ℕ
  -- ticks since the last of these bytes, or since our EOT if none has come
  pub silent : ℕ

abbrev pub sees : Seen → Call → Out → Told → Remark → Seen
sees s k o t r =
    record {
      ours = ours_after s.ours k o t r;
      owed = cond (begins s.ours o) false (gives_way r || asked s.ours k s.owed);
      waited = cond (begins s.ours o) 0 (waits s.ours s.waited k);
      enqs = cond (begins s.ours o) 1 (cond (puts ENQ o) (s.enqs + 1) s.enqs);
      theirs = theirs_after s.theirs o;
      took = cond (puts EOT o) 0 (took_after s.theirs s.took k);
      bytes = cond (puts EOT o) [] (bytes_after s.theirs s.bytes k);
      silent = cond (puts EOT o) 0 (silent_after s.theirs s.silent k);
    }

-- ---- any calls from a fresh line

pub record Track : Type 0 where
  pub line : Line
  pub received : List ℕ
  pub seen : Seen

abbrev pub leaves : Seen → Call → Heard → Track
leaves s k h = record { line = h.step.line; received = h.received; seen = sees s k h.step.out h.step.told h.step.remark }

abbrev pub answered : Limits → Track → Call → Heard
answered c t k = called c t.line t.received k

abbrev pub next : Limits → Track → Call → Track
next c t k = leaves t.seen k (answered c t k)

unfoldable pub track : Limits → Track → List Call → Track
track c t [] = t
track c t (k ∷ ks) = track c (next c t k) ks

abbrev pub nothing_seen : Seen
nothing_seen = record { ours = none; owed = false; waited = 0; enqs = 0; theirs = false; took = 0; bytes = []; silent = 0 }

-- a fresh line, whatever is in the array beside it
abbrev pub at_start : List ℕ → Track
at_start rs = record { line = fresh_line; received = rs; seen = nothing_seen }

-- what any calls leave
abbrev pub history : Limits → List ℕ → List Call → Track
history c rs ks = track c (at_start rs) ks
