-- Each bullet of 01's "The line", phase by phase: what every byte and every tick does there, at every limit and whether a block
-- is held or not. `LineRules`, the last, is all of them.
use Rattle.std.specs.Prelude.{ℕ, ◌+◌, ◌≤◌, ◌<◌, ◌≡◌, List, Bool, true, false, ◌≢◌, set}
use Rattle.wire.specs.Bytes.{pair_of}
use Rattle.wire.specs.Sum.{sum_with}
use Rattle.line.specs.Codes.{ENQ, EOT, ACK, NAK}
use Rattle.line.specs.Line.{line_at, byte_of, tick_of, drained_of, ask_of, withdraw_of, settle_of}
use Rattle.line.specs.declared.phase.Arrival.{Arrival}
use Rattle.line.specs.declared.phase.Phase.{Phase}
use Rattle.line.specs.declared.phase.Phase.TheVariants.{Idle, WaitEot, Draining, WaitAck, WaitLength, Body, Silence}
use Rattle.line.specs.declared.phase.Fault.{Fault}
use Rattle.line.specs.declared.phase.Fault.TheVariants.{Length, Sum}
use Rattle.line.specs.declared.step.Out.{Out}
use Rattle.line.specs.declared.step.Out.TheVariants.{Nothing, Code, Block}
use Rattle.line.specs.declared.step.Told.{Told}
use Rattle.line.specs.declared.step.Told.TheVariants as told
use Rattle.line.specs.declared.step.Remark.{Remark}
use Rattle.line.specs.declared.step.Remark.TheVariants as remark
use Rattle.settings.specs.declared.limits.Limits.{Limits}
use Rattle.line.specs.declared.step.Step.{Step}

-- what a step leaves: whether a block is held, and the phase; what goes out
abbrev pub says : Bool → Phase → Out → Step
says h p o = record { line = line_at h p; out = o; told = told.Nothing; remark = remark.Nothing }

-- the same, and what is told
abbrev pub says_told : Bool → Phase → Out → Told → Step
says_told h p o t = record { line = line_at h p; out = o; told = t; remark = remark.Nothing }

-- the same, and what is remarked
abbrev pub says_remark : Bool → Phase → Out → Remark → Step
says_remark h p o r = record { line = line_at h p; out = o; told = told.Nothing; remark = r }

-- what byte b does at a phase
abbrev pub on_byte : Limits → List ℕ → Bool → Phase → ℕ → Step
on_byte c rs h p b = (byte_of c (line_at h p) b rs).step

-- what a tick does at a phase
abbrev pub on_tick : Limits → Bool → Phase → Step
on_tick c h p = tick_of c (line_at h p)

-- the phases of a block of ours, and those of a block of the far end
pub data Sends : Phase → Type 0 where
  wait_eot : (timer tries : ℕ) → Sends (WaitEot timer tries)
  draining : (tries : ℕ) → Sends (Draining tries)
  wait_ack : (timer tries : ℕ) → Sends (WaitAck timer tries)

pub data Receives : Phase → Type 0 where
  wait_length : (timer : ℕ) → Receives (WaitLength timer)
  body : (timer : ℕ) (a : Arrival) → Receives (Body timer a)
  silence : (timer : ℕ) (f : Fault) → Receives (Silence timer f)

-- "Retry: tries + 1. Above RTY the send has failed and the line is idle; else ENQ again."
pub record Retries (c : Limits) (h : Bool) (tries : ℕ) (s : Step) : Type 0 where
  pub above : c.rty < tries + 1 → s ≡ says_told h Idle Nothing told.Failed
  pub else_again : tries + 1 ≤ c.rty → s ≡ says h (WaitEot 0 (tries + 1)) (Code ENQ)

-- "Idle"
pub record IdleRules (c : Limits) (rs : List ℕ) (h : Bool) : Type 0 where
  -- "ENQ gives EOT and a wait for the length."
  pub enq : on_byte c rs h Idle ENQ ≡ says h (WaitLength 0) (Code EOT)
  -- "Other bytes are dropped."
  pub other : (b : ℕ) → b ≢ ENQ → on_byte c rs h Idle b ≡ says h Idle Nothing
  pub ticks : on_tick c h Idle ≡ says h Idle Nothing
  -- "A held block .. is sent at once with a fresh count of tries"
  pub held : settle_of (line_at true Idle) ≡ says false (WaitEot 0 0) (Code ENQ)
  pub none_held : settle_of (line_at false Idle) ≡ says false Idle Nothing
  -- a block asked for is sent at once
  pub asked : ask_of (line_at h Idle) ≡ line_at true Idle

-- "Waiting for EOT"
pub record WaitEotRules (c : Limits) (rs : List ℕ) (h : Bool) (timer tries : ℕ) : Type 0 where
  -- "EOT puts out the whole block.": and that is told (02, request 1)
  pub eot : on_byte c rs h (WaitEot timer tries) EOT ≡ says_told h (Draining tries) Block told.PutOut
  -- "ENQ at the slave gives EOT and holds the block; the master drops it."
  pub enq_slave : c.master ≡ false → on_byte c rs h (WaitEot timer tries) ENQ ≡ says_remark true (WaitLength 0) (Code EOT) remark.GaveWay
  pub enq_master : c.master ≡ true → on_byte c rs h (WaitEot timer tries) ENQ ≡ says h (WaitEot timer tries) Nothing
  -- "Other bytes are dropped and do not touch the timer."
  pub other : (b : ℕ) → b ≢ EOT → b ≢ ENQ → on_byte c rs h (WaitEot timer tries) b ≡ says h (WaitEot timer tries) Nothing
  -- "Beyond T2: retry."
  pub in_time : timer + 1 ≤ c.t2.0 → on_tick c h (WaitEot timer tries) ≡ says h (WaitEot (timer + 1) tries) Nothing
  pub beyond : c.t2.0 < timer + 1 → Retries c h tries (on_tick c h (WaitEot timer tries))

-- "Draining"
pub record DrainingRules (c : Limits) (rs : List ℕ) (h : Bool) (tries : ℕ) : Type 0 where
  -- "bytes are dropped"
  pub bytes : (b : ℕ) → on_byte c rs h (Draining tries) b ≡ says h (Draining tries) Nothing
  -- "drained starts the wait for ACK."
  pub drains : drained_of (line_at h (Draining tries)) ≡ line_at h (WaitAck 0 tries)
  -- "Ticks while draining count for no line timer."
  pub ticks : on_tick c h (Draining tries) ≡ says h (Draining tries) Nothing

-- "Drained at any other time does nothing."
pub record DrainedElsewhere (h : Bool) : Type 0 where
  pub idle : drained_of (line_at h Idle) ≡ line_at h Idle
  pub wait_eot : (timer tries : ℕ) → drained_of (line_at h (WaitEot timer tries)) ≡ line_at h (WaitEot timer tries)
  pub wait_ack : (timer tries : ℕ) → drained_of (line_at h (WaitAck timer tries)) ≡ line_at h (WaitAck timer tries)
  pub receiving : (p : Phase) → Receives p → drained_of (line_at h p) ≡ line_at h p

-- "Waiting for ACK"
pub record WaitAckRules (c : Limits) (rs : List ℕ) (h : Bool) (timer tries : ℕ) : Type 0 where
  -- "ACK means sent;"
  pub ack : on_byte c rs h (WaitAck timer tries) ACK ≡ says_told h Idle Nothing told.Sent
  -- "the message's next block goes out with ENQ in the same call."
  pub then_next : settle_of (ask_of (on_byte c rs h (WaitAck timer tries) ACK).line) ≡ says false (WaitEot 0 0) (Code ENQ)
  -- "Any other byte, or T2 exceeded: retry."
  pub other : (b : ℕ) → b ≢ ACK → Retries c h tries (on_byte c rs h (WaitAck timer tries) b)
  pub in_time : timer + 1 ≤ c.t2.0 → on_tick c h (WaitAck timer tries) ≡ says h (WaitAck (timer + 1) tries) Nothing
  pub beyond : c.t2.0 < timer + 1 → Retries c h tries (on_tick c h (WaitAck timer tries))

-- "Waiting for length"
pub record WaitLengthRules (c : Limits) (rs : List ℕ) (h : Bool) (timer : ℕ) : Type 0 where
  -- "10 to 254 opens the body;"
  pub opens : (b : ℕ) → 10 ≤ b → b ≤ 254 → on_byte c rs h (WaitLength timer) b ≡ says h (Body 0 (record { length = b; got = 0; sum = 0; high = 0 })) Nothing
  -- "another value listens for silence."
  pub short : (b : ℕ) → b < 10 → on_byte c rs h (WaitLength timer) b ≡ says h (Silence 0 Length) Nothing
  pub long : (b : ℕ) → 254 < b → on_byte c rs h (WaitLength timer) b ≡ says h (Silence 0 Length) Nothing
  -- "Beyond T2: NAK."
  pub in_time : timer + 1 ≤ c.t2.0 → on_tick c h (WaitLength timer) ≡ says h (WaitLength (timer + 1)) Nothing
  pub beyond : c.t2.0 < timer + 1 → on_tick c h (WaitLength timer) ≡ says_remark h Idle (Code NAK) remark.NoLength

-- "Body": "each byte restarts T1; N + 2 bytes are taken."
pub record BodyRules (c : Limits) (rs : List ℕ) (h : Bool) (timer n sum high : ℕ) : Type 0 where
  -- the N bytes of the block, kept and added up
  pub one_of_n :
      (got : ℕ) → got < n → (b : ℕ)
      → byte_of c (line_at h (Body timer (record { length = n; got = got; sum = sum; high = high }))) b rs
      ≡ record {
        step = says h (Body 0 (record { length = n; got = got + 1; sum = sum_with sum b; high = high })) Nothing;
        received = set rs got b;
      }
  -- the two bytes of the sum, the high one first
  pub high_byte :
      (b : ℕ)
      → byte_of c (line_at h (Body timer (record { length = n; got = n; sum = sum; high = high }))) b rs
      ≡ record { step = says h (Body 0 (record { length = n; got = n + 1; sum = sum; high = b })) Nothing; received = rs }
  -- "Equal sums: ACK, and the block goes up."
  pub equal :
      (b : ℕ) → pair_of high b ≡ sum
      → byte_of c (line_at h (Body timer (record { length = n; got = n + 1; sum = sum; high = high }))) b rs
      ≡ record { step = says_told h Idle (Code ACK) (told.Up n); received = rs }
  -- "Else listen for silence."
  pub unequal :
      (b : ℕ) → pair_of high b ≢ sum
      → byte_of c (line_at h (Body timer (record { length = n; got = n + 1; sum = sum; high = high }))) b rs
      ≡ record { step = says h (Silence 0 (Sum (pair_of high b) sum)) Nothing; received = rs }
  -- "Beyond T1: NAK."
  pub in_time : (a : Arrival) → timer + 1 ≤ c.t1.0 → on_tick c h (Body timer a) ≡ says h (Body (timer + 1) a) Nothing
  pub beyond : (a : Arrival) → c.t1.0 < timer + 1 → on_tick c h (Body timer a) ≡ says_remark h Idle (Code NAK) remark.Gap

-- "Silence"
pub record SilenceRules (c : Limits) (rs : List ℕ) (h : Bool) (timer : ℕ) (f : Fault) : Type 0 where
  -- "bytes are dropped and restart T1;"
  pub bytes : (b : ℕ) → on_byte c rs h (Silence timer f) b ≡ says h (Silence 0 f) Nothing
  -- "beyond T1: NAK."
  pub in_time : timer + 1 ≤ c.t1.0 → on_tick c h (Silence timer f) ≡ says h (Silence (timer + 1) f) Nothing
  pub beyond : c.t1.0 < timer + 1 → on_tick c h (Silence timer f) ≡ says_remark h Idle (Code NAK) (remark.Bad f)

-- a block asked for "while the line was receiving" is held; "one message sent at a time"; only an idle line settles
pub record HeldRules (h : Bool) : Type 0 where
  pub ask_receiving : (p : Phase) → Receives p → ask_of (line_at h p) ≡ line_at true p
  pub ask_sending : (p : Phase) → Sends p → ask_of (line_at h p) ≡ line_at h p
  pub settle_receiving : (p : Phase) → Receives p → settle_of (line_at h p) ≡ says h p Nothing
  pub settle_sending : (p : Phase) → Sends p → settle_of (line_at h p) ≡ says h p Nothing
  -- a message that is gone is withdrawn: a held block is held no more, and none is owed (02, request 1)
  pub withdrawn : (p : Phase) → withdraw_of (line_at h p) ≡ line_at false p

-- the received bytes change in the body alone
pub record ReceivedElsewhere (c : Limits) (rs : List ℕ) (h : Bool) : Type 0 where
  pub idle : (b : ℕ) → (byte_of c (line_at h Idle) b rs).received ≡ rs
  pub sending : (p : Phase) → Sends p → (b : ℕ) → (byte_of c (line_at h p) b rs).received ≡ rs
  pub length : (timer b : ℕ) → (byte_of c (line_at h (WaitLength timer)) b rs).received ≡ rs
  pub silence : (timer : ℕ) (f : Fault) (b : ℕ) → (byte_of c (line_at h (Silence timer f)) b rs).received ≡ rs

pub record LineRules : Type 0 where
  pub idle : (c : Limits) (rs : List ℕ) (h : Bool) → IdleRules c rs h
  pub wait_eot : (c : Limits) (rs : List ℕ) (h : Bool) (timer tries : ℕ) → WaitEotRules c rs h timer tries
  pub draining : (c : Limits) (rs : List ℕ) (h : Bool) (tries : ℕ) → DrainingRules c rs h tries
  pub drained_elsewhere : (h : Bool) → DrainedElsewhere h
  pub wait_ack : (c : Limits) (rs : List ℕ) (h : Bool) (timer tries : ℕ) → WaitAckRules c rs h timer tries
  pub wait_length : (c : Limits) (rs : List ℕ) (h : Bool) (timer : ℕ) → WaitLengthRules c rs h timer
  pub body : (c : Limits) (rs : List ℕ) (h : Bool) (timer n sum high : ℕ) → BodyRules c rs h timer n sum high
  pub silence : (c : Limits) (rs : List ℕ) (h : Bool) (timer : ℕ) (f : Fault) → SilenceRules c rs h timer f
  pub held : (h : Bool) → HeldRules h
  pub received_elsewhere : (c : Limits) (rs : List ℕ) (h : Bool) → ReceivedElsewhere c rs h
