-- The line as a function on its states (E4 5.8; 01, "The line"): what a byte, a tick, drained, an ask, a
-- withdrawal and the settling step do.
use Rattle.std.specs.Prelude.{ℕ, ◌+◌, Bool, true, false, cond, ◌||◌, List, set, ltb, eqb, Option, Some, None}
use Rattle.wire.specs.Bytes.{pair_of}
use Rattle.wire.specs.Sum.{sum_with}
use Rattle.settings.specs.Panel.{between}
use Rattle.settings.specs.Timer.{ticked}
use Rattle.line.specs.Codes.{ENQ, EOT, ACK, NAK}
use Rattle.line.specs.declared.phase.Arrival.{Arrival}
use Rattle.line.specs.declared.phase.Phase.{Phase}
use Rattle.line.specs.declared.phase.Phase.TheVariants.{Idle, WaitEot, Draining, WaitAck, WaitLength, Body, Silence}
use Rattle.line.specs.declared.phase.Fault.{Fault}
use Rattle.line.specs.declared.phase.Fault.TheVariants.{Length, Sum}
use Rattle.line.specs.declared.step.Out.{Out}
use Rattle.line.specs.declared.step.Out.TheVariants.{Nothing, Code, Block}
use Rattle.line.specs.declared.step.Told.{Told}
use Rattle.line.specs.declared.step.Told.TheVariants as told
use Rattle.line.specs.declared.step.Remark.{Remark}
use Rattle.line.specs.declared.step.Remark.TheVariants as remark
use Rattle.settings.specs.declared.limits.Limits.{Limits}
use Rattle.line.specs.declared.line.Line.{Line}
use Rattle.line.specs.declared.step.Step.{Step}

-- "Both ends of the communications link are assumed to start in the Idle state" (E4 5.8.1)
abbrev pub fresh_line : Line
fresh_line = record { held = false; phase = Idle }

-- a line from its parts
abbrev pub line_at : Bool → Phase → Line
line_at h p = record { held = h; phase = p }

-- the line at another phase, and what goes out
abbrev pub goes : Line → Phase → Out → Step
goes l p o = record { line = line_at l.held p; out = o; told = told.Nothing; remark = remark.Nothing }

-- the same, and this is told
abbrev pub tells : Line → Phase → Out → Told → Step
tells l p o t = record { line = line_at l.held p; out = o; told = t; remark = remark.Nothing }

-- the same, and this is remarked
abbrev pub remarks : Line → Phase → Out → Remark → Step
remarks l p o r = record { line = line_at l.held p; out = o; told = told.Nothing; remark = r }

-- the line as it is: what came was dropped
abbrev pub stays : Line → Step
stays l = record { line = l; out = Nothing; told = told.Nothing; remark = remark.Nothing }

-- the line with a block held
unfoldable pub holding : Line → Line
holding l = record { held = true; phase = l.phase }

-- a block of ours is under way: ENQ is out, the block is leaving, or ACK is waited for
abbrev pub under_way : Phase → Bool
under_way Idle = false
under_way (WaitEot timer tries) = true
under_way (Draining tries) = true
under_way (WaitAck timer tries) = true
under_way (WaitLength timer) = false
under_way (Body timer a) = false
under_way (Silence timer fault) = false

-- "a message is being sent or held", as the line has it: a block is under way, or held
abbrev pub busy : Line → Bool
busy l = under_way l.phase || l.held

-- ---- sending

-- "tries + 1. Above RTY .."
unfoldable pub spent : Limits → ℕ → Bool
spent c tries = ltb c.rty (tries + 1)

-- "the send has failed and the line is idle"
abbrev pub fails : Line → Step
fails l = tells l Idle Nothing told.Failed

-- "ENQ again"
abbrev pub again : Line → ℕ → Step
again l tries = goes l (WaitEot 0 (tries + 1)) (Code ENQ)

-- Retry: "Above RTY the send has failed ..; else ENQ again."
unfoldable pub retry_of : Limits → Line → ℕ → Step
retry_of c l tries = cond (spent c tries) (fails l) (again l tries)

-- "gives EOT and holds the block"
abbrev pub yields : Line → Step
yields l = remarks (holding l) (WaitLength 0) (Code EOT) remark.GaveWay

-- Waiting for EOT: "ENQ at the slave gives EOT and holds the block; the master drops it."
unfoldable pub give_way : Limits → Line → Step
give_way c l = cond c.master (stays l) (yields l)

-- "puts out the whole block"
abbrev pub sends : Line → ℕ → Step
sends l tries = tells l (Draining tries) Block told.PutOut

-- Waiting for EOT: "EOT puts out the whole block." .. "Other bytes are dropped and do not touch the timer."
unfoldable pub eot_byte : Limits → Line → ℕ → ℕ → Step
eot_byte c l tries b = cond (eqb b EOT) (sends l tries) (cond (eqb b ENQ) (give_way c l) (stays l))

-- "means sent"
abbrev pub succeeds : Line → Step
succeeds l = tells l Idle Nothing told.Sent

-- Waiting for ACK: "ACK means sent;" .. "Any other byte .. : retry."
unfoldable pub ack_byte : Limits → Line → ℕ → ℕ → Step
ack_byte c l tries b = cond (eqb b ACK) (succeeds l) (retry_of c l tries)

-- Waiting for EOT, a tick: "Beyond T2: retry." What the tick made of the timer is given.
abbrev pub eot_tick : Limits → Line → ℕ → Option ℕ → Step
eot_tick c l tries None = retry_of c l tries
eot_tick c l tries (Some timer) = goes l (WaitEot timer tries) Nothing

-- Waiting for ACK, a tick: ".. or T2 exceeded: retry."
abbrev pub ack_tick : Limits → Line → ℕ → Option ℕ → Step
ack_tick c l tries None = retry_of c l tries
ack_tick c l tries (Some timer) = goes l (WaitAck timer tries) Nothing

-- ---- receiving

-- Body: "each byte restarts T1"
abbrev pub takes : Line → Arrival → Step
takes l a = goes l (Body 0 a) Nothing

-- Silence: "bytes are dropped and restart T1"
abbrev pub listens : Line → Fault → Step
listens l f = goes l (Silence 0 f) Nothing

-- a block of N bytes of which none has come
abbrev pub opened : ℕ → Arrival
opened n = record { length = n; got = 0; sum = 0; high = 0 }

-- Waiting for length: "10 to 254 opens the body; another value listens for silence."
unfoldable pub length_byte : Line → ℕ → Step
length_byte l b = cond (between 10 b 254) (takes l (opened b)) (listens l Length)

-- one of the first N bytes, and the first byte of the sum
abbrev pub with_byte : Arrival → ℕ → Arrival
with_byte a b = record { length = a.length; got = a.got + 1; sum = sum_with a.sum b; high = a.high }

abbrev pub with_high : Arrival → ℕ → Arrival
with_high a b = record { length = a.length; got = a.got + 1; sum = a.sum; high = b }

-- "ACK, and the block goes up"
abbrev pub rises : Line → ℕ → Step
rises l n = tells l Idle (Code ACK) (told.Up n)

-- "Equal sums: ACK, and the block goes up. Else listen for silence."
unfoldable pub low_byte : Line → ℕ → ℕ → ℕ → Step
low_byte l n counted received = cond (eqb received counted) (rises l n) (listens l (Sum received counted))

-- what a byte leaves: the step, and the received bytes
pub record Heard : Type 0 where
  pub step : Step
  pub received : List ℕ

abbrev pub heard : Step → List ℕ → Heard
heard s rs = record { step = s; received = rs }

-- Body: "N + 2 bytes are taken." The first N are kept, in their order (E4 5.8.4).
unfoldable pub body_byte : Line → Arrival → ℕ → List ℕ → Heard
body_byte l a b rs =
    cond (ltb a.got a.length) (heard (takes l (with_byte a b)) (set rs a.got b))
    (cond (eqb a.got a.length) (heard (takes l (with_high a b)) rs)
    (heard (low_byte l a.length a.sum (pair_of a.high b)) rs))

-- a receive ends by NAK
abbrev pub naks : Line → Remark → Step
naks l why = remarks l Idle (Code NAK) why

-- Waiting for length, a tick: "Beyond T2: NAK."
abbrev pub length_tick : Line → Option ℕ → Step
length_tick l None = naks l remark.NoLength
length_tick l (Some timer) = goes l (WaitLength timer) Nothing

-- Body, a tick: "Beyond T1: NAK."
abbrev pub body_tick : Line → Arrival → Option ℕ → Step
body_tick l a None = naks l remark.Gap
body_tick l a (Some timer) = goes l (Body timer a) Nothing

-- Silence, a tick: "beyond T1: NAK."
abbrev pub silence_tick : Line → Fault → Option ℕ → Step
silence_tick l fault None = naks l (remark.Bad fault)
silence_tick l fault (Some timer) = goes l (Silence timer fault) Nothing

-- ---- the calls

-- "EOT and a wait for the length"
abbrev pub answers : Line → Step
answers l = goes l (WaitLength 0) (Code EOT)

-- Idle: "ENQ gives EOT and a wait for the length. Other bytes are dropped."
unfoldable pub idle_byte : Line → ℕ → Step
idle_byte l b = cond (eqb b ENQ) (answers l) (stays l)

abbrev pub byte_at : Limits → Phase → Line → ℕ → List ℕ → Heard
byte_at c Idle l b rs = heard (idle_byte l b) rs
byte_at c (WaitEot timer tries) l b rs = heard (eot_byte c l tries b) rs
byte_at c (Draining tries) l b rs = heard (stays l) rs
byte_at c (WaitAck timer tries) l b rs = heard (ack_byte c l tries b) rs
byte_at c (WaitLength timer) l b rs = heard (length_byte l b) rs
byte_at c (Body timer a) l b rs = body_byte l a b rs
byte_at c (Silence timer fault) l b rs = heard (listens l fault) rs

abbrev pub byte_of : Limits → Line → ℕ → List ℕ → Heard
byte_of c l b rs = byte_at c l.phase l b rs

abbrev pub tick_at : Limits → Phase → Line → Step
tick_at c Idle l = stays l
tick_at c (WaitEot timer tries) l = eot_tick c l tries (ticked c.t2 timer)
tick_at c (Draining tries) l = stays l
tick_at c (WaitAck timer tries) l = ack_tick c l tries (ticked c.t2 timer)
tick_at c (WaitLength timer) l = length_tick l (ticked c.t2 timer)
tick_at c (Body timer a) l = body_tick l a (ticked c.t1 timer)
tick_at c (Silence timer fault) l = silence_tick l fault (ticked c.t1 timer)

abbrev pub tick_of : Limits → Line → Step
tick_of c l = tick_at c l.phase l

-- Draining: "drained starts the wait for ACK." "Drained at any other time does nothing."
abbrev pub drained_at : Phase → Line → Line
drained_at Idle l = l
drained_at (WaitEot timer tries) l = l
drained_at (Draining tries) l = line_at l.held (WaitAck 0 tries)
drained_at (WaitAck timer tries) l = l
drained_at (WaitLength timer) l = l
drained_at (Body timer a) l = l
drained_at (Silence timer fault) l = l

abbrev pub drained_of : Line → Line
drained_of l = drained_at l.phase l

-- a block is asked for: held until the line is idle; "one message sent at a time"
abbrev pub ask_at : Phase → Line → Line
ask_at Idle l = holding l
ask_at (WaitEot timer tries) l = l
ask_at (Draining tries) l = l
ask_at (WaitAck timer tries) l = l
ask_at (WaitLength timer) l = holding l
ask_at (Body timer a) l = holding l
ask_at (Silence timer fault) l = holding l

abbrev pub ask_of : Line → Line
ask_of l = ask_at l.phase l

-- a message that is gone is withdrawn: a held block is held no more, and none is owed; one that is under way goes on
abbrev pub withdraw_of : Line → Line
withdraw_of l = line_at false l.phase

-- "is sent at once with a fresh count of tries"
abbrev pub starts : Step
starts = goes (line_at false Idle) (WaitEot 0 0) (Code ENQ)

-- Idle: "A held block .. is sent at once with a fresh count of tries"
unfoldable pub settle_idle : Line → Step
settle_idle l = cond l.held starts (stays l)

abbrev pub settle_at : Phase → Line → Step
settle_at Idle l = settle_idle l
settle_at (WaitEot timer tries) l = stays l
settle_at (Draining tries) l = stays l
settle_at (WaitAck timer tries) l = stays l
settle_at (WaitLength timer) l = stays l
settle_at (Body timer a) l = stays l
settle_at (Silence timer fault) l = stays l

abbrev pub settle_of : Line → Step
settle_of l = settle_at l.phase l
