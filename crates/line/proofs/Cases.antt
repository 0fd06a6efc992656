-- All that a byte, a tick and settling can do at a phase: what holds of each such step holds of the one that is made. Assumes nothing.
use Prim.Native.Nat.{ℕ, ◌+◌}
use mathlib.Core.Bool.{Bool, true, false}
use mathlib.Core.List.{List}
use lib.Dec.{ltb, eqb}
use Rattle.wire.specs.Bytes.{pair_of}
use Rattle.wire.proofs.Choice.{chosen}
use Rattle.settings.specs.Panel.{between}
use Rattle.settings.proofs.Timers.{by_timer}
use Rattle.settings.specs.declared.limits.Limits.{Limits}
use Rattle.line.specs.Codes.{ENQ, EOT, ACK}
use Rattle.line.specs.Line.{goes, stays, fails, again, yields, give_way, sends, eot_byte, succeeds, ack_byte, eot_tick, ack_tick, takes, listens, opened, length_byte, rises, low_byte, Heard, body_byte, naks, length_tick, body_tick, silence_tick, answers, idle_byte, byte_of, tick_of, line_at, starts, settle_idle, settle_of}
use Rattle.line.proofs.Retrying.{retried}
use Rattle.line.specs.declared.phase.Arrival.{Arrival}
use Rattle.line.specs.declared.phase.Phase.{Phase}
use Rattle.line.specs.declared.phase.Phase.TheVariants.{Idle, WaitEot, Draining, WaitAck, WaitLength, Body, Silence}
use Rattle.line.specs.declared.phase.Fault.{Fault}
use Rattle.line.specs.declared.phase.Fault.TheVariants.{Length}
use Rattle.line.specs.declared.step.Out.TheVariants.{Nothing}
use Rattle.line.specs.declared.step.Remark.TheVariants as remark
use Rattle.line.specs.declared.step.Step.{Step}

module _ (P : Step → Type 0) (c : Limits) (h : Bool) where
  -- the steps that byte b can make
  abbrev pub ByByte : Phase → ℕ → Type 0
  ByByte Idle b = let l = line_at h Idle in P (answers l) × P (stays l)
  ByByte (WaitEot timer tries) b =
      let l = line_at h (WaitEot timer tries) in P (sends l tries) × P (yields l) × ((n : ℕ) → P (goes l (WaitEot n tries) Nothing))
  ByByte (Draining tries) b = P (stays (line_at h (Draining tries)))
  ByByte (WaitAck timer tries) b = let l = line_at h (WaitAck timer tries) in P (succeeds l) × P (fails l) × P (again l tries)
  ByByte (WaitLength timer) b = let l = line_at h (WaitLength timer) in P (takes l (opened b)) × P (listens l Length)
  ByByte (Body timer a) b =
      let l = line_at h (Body timer a) in ((x : Arrival) → P (takes l x)) × P (rises l a.length) × ((f : Fault) → P (listens l f))
  ByByte (Silence timer fault) b = P (listens (line_at h (Silence timer fault)) fault)

  pub by_byte : (p : Phase) (b : ℕ) (rs : List ℕ) → ByByte p b → P (byte_of c (line_at h p) b rs).step
  unfolding idle_byte eot_byte give_way ack_byte length_byte body_byte low_byte
  by_byte Idle b rs k = chosen P (eqb b ENQ) _ _ (λ i. k.0) (λ i. k.1)
  by_byte (WaitEot timer tries) b rs k =
      chosen P (eqb b EOT) _ _ (λ i. k.0)
      (λ i. chosen P (eqb b ENQ) _ _ (λ j. chosen P c.master _ _ (λ m. k.2 _) (λ m. k.1)) (λ j. k.2 _))
  by_byte (Draining tries) b rs k = k
  by_byte (WaitAck timer tries) b rs k = chosen P (eqb b ACK) _ _ (λ i. k.0) (λ i. retried P c _ tries (λ j. k.1) (λ j. k.2))
  by_byte (WaitLength timer) b rs k = chosen P (between 10 b 254) _ _ (λ i. k.0) (λ i. k.1)
  by_byte (Body timer a) b rs k =
      let Q : Heard → Type 0 = λ x. P x.step in
      chosen Q (ltb a.got a.length) _ _ (λ i. k.0 _)
      (λ i. chosen Q (eqb a.got a.length) _ _ (λ j. k.0 _)
      (λ j. chosen P (eqb (pair_of a.high b) a.sum) _ _ (λ e. k.1) (λ e. k.2 _)))
  by_byte (Silence timer fault) b rs k = k

  -- the steps that a tick can make
  abbrev pub ByTick : Phase → Type 0
  ByTick Idle = P (stays (line_at h Idle))
  ByTick (WaitEot timer tries) =
      let l = line_at h (WaitEot timer tries) in P (fails l) × P (again l tries) × P (goes l (WaitEot (timer + 1) tries) Nothing)
  ByTick (Draining tries) = P (stays (line_at h (Draining tries)))
  ByTick (WaitAck timer tries) =
      let l = line_at h (WaitAck timer tries) in P (fails l) × P (again l tries) × P (goes l (WaitAck (timer + 1) tries) Nothing)
  ByTick (WaitLength timer) =
      let l = line_at h (WaitLength timer) in P (naks l remark.NoLength) × P (goes l (WaitLength (timer + 1)) Nothing)
  ByTick (Body timer a) = let l = line_at h (Body timer a) in P (naks l remark.Gap) × P (goes l (Body (timer + 1) a) Nothing)
  ByTick (Silence timer fault) =
      let l = line_at h (Silence timer fault) in P (naks l (remark.Bad fault)) × P (goes l (Silence (timer + 1) fault) Nothing)

  pub by_tick : (p : Phase) → ByTick p → P (tick_of c (line_at h p))
  by_tick Idle k = k
  by_tick (WaitEot timer tries) k =
      by_timer c.t2 timer (λ t. P (eot_tick c (line_at h (WaitEot timer tries)) tries t)) (λ i. retried P c _ tries (λ j. k.0) (λ j. k.1)) (λ i. k.2)
  by_tick (Draining tries) k = k
  by_tick (WaitAck timer tries) k =
      by_timer c.t2 timer (λ t. P (ack_tick c (line_at h (WaitAck timer tries)) tries t)) (λ i. retried P c _ tries (λ j. k.0) (λ j. k.1)) (λ i. k.2)
  by_tick (WaitLength timer) k = by_timer c.t2 timer (λ t. P (length_tick (line_at h (WaitLength timer)) t)) (λ i. k.0) (λ i. k.1)
  by_tick (Body timer a) k = by_timer c.t1 timer (λ t. P (body_tick (line_at h (Body timer a)) a t)) (λ i. k.0) (λ i. k.1)
  by_tick (Silence timer fault) k = by_timer c.t1 timer (λ t. P (silence_tick (line_at h (Silence timer fault)) fault t)) (λ i. k.0) (λ i. k.1)

-- settling starts a held block, or leaves the line as it is
pub by_settle : (P : Step → Type 0) (h : Bool) (p : Phase) → P starts → P (stays (line_at h p)) → P (settle_of (line_at h p))
unfolding settle_idle
by_settle P true Idle x y = x
by_settle P false Idle x y = y
by_settle P h (WaitEot timer tries) x y = y
by_settle P h (Draining tries) x y = y
by_settle P h (WaitAck timer tries) x y = y
by_settle P h (WaitLength timer) x y = y
by_settle P h (Body timer a) x y = y
by_settle P h (Silence timer fault) x y = y
