-- When the line is busy with a block of ours: what each step makes of that. Assumes nothing.
use Prim.Native.Nat.{ℕ}
use mathlib.Core.Path.{◌≡◌, refl, sym, ap, subst}
use mathlib.Core.Bool.{Bool, true, false, false≢true, ◌||◌}
use Rattle.line.specs.Line.{line_at, holding, sends, busy, under_way, drained_of, ask_of, settle_idle, settle_of}
use Rattle.line.specs.Theorems.{Turns, BusySteps, BusyTurns, BusyStill}
use Rattle.line.proofs.Cases.{ByByte, by_byte, ByTick, by_tick}
use Rattle.line.proofs.Invariant.{Free}
use Rattle.line.proofs.Always.{always}
use Rattle.line.specs.declared.phase.Phase.{Phase}
use Rattle.line.specs.declared.phase.Phase.TheVariants.{Idle, WaitEot, Draining, WaitAck, WaitLength, Body, Silence}
use Rattle.line.specs.declared.line.Line.{Line}
use Rattle.line.specs.declared.step.Out.{Out}
use Rattle.line.specs.declared.step.Out.TheVariants as out
use Rattle.line.specs.declared.step.Step.{Step}
use Rattle.settings.specs.declared.limits.Limits.{Limits}

-- ---- a byte and a tick

abbrev Puts : Out → Bool → Type 0
Puts out.Nothing before = Unit {0}
Puts (out.Code x) before = Unit {0}
Puts out.Block before = before ≡ true

puts_busy : (o : Out) {before : Bool} → before ≡ true → Puts o before
puts_busy out.Nothing e = tt
puts_busy (out.Code x) e = tt
puts_busy out.Block e = e

abbrev By : Line → Step → Type 0
By l s = Turns s.told (busy l) (busy s.line) × Puts s.out (busy l)

module _ (c : Limits) (h : Bool) where
  byte_turns : (p : Phase) (b : ℕ) → Free p h → ByByte (By (line_at h p)) c h p b
  unfolding holding
  byte_turns Idle b f = ((refl, tt), (refl, tt))
  byte_turns (WaitEot timer tries) b f = (((refl, refl), puts_busy (sends (line_at h (WaitEot timer tries)) tries).out refl), (refl, tt), λ n. (refl, tt))
  byte_turns (Draining tries) b f = (refl, tt)
  byte_turns (WaitAck timer tries) b f = (((refl, f), tt), ((refl, f), tt), (refl, tt))
  byte_turns (WaitLength timer) b f = ((refl, tt), (refl, tt))
  byte_turns (Body timer a) b f = (λ x. (refl, tt), (refl, tt), λ y. (refl, tt))
  byte_turns (Silence timer fault) b f = (refl, tt)

  tick_turns : (p : Phase) → Free p h → ByTick (By (line_at h p)) c h p
  tick_turns Idle f = (refl, tt)
  tick_turns (WaitEot timer tries) f = (((refl, f), tt), (refl, tt), (refl, tt))
  tick_turns (Draining tries) f = (refl, tt)
  tick_turns (WaitAck timer tries) f = (((refl, f), tt), (refl, tt), (refl, tt))
  tick_turns (WaitLength timer) f = ((refl, tt), (refl, tt))
  tick_turns (Body timer a) f = ((refl, tt), (refl, tt))
  tick_turns (Silence timer fault) f = ((refl, tt), (refl, tt))

-- of any line that holds no block while one is under way
pub busy_steps : (c : Limits) (l : Line) → Free l.phase l.held → BusySteps c l
busy_steps c l f =
    record {
      byte = λ b rs.
          let x = by_byte (By l) c l.held l.phase b rs (byte_turns c l.held l.phase b f) in
          record { turns = x.0; block = λ e. subst (λ o. Puts o (busy l)) e x.1 };
      tick =
          let x = by_tick (By l) c l.held l.phase (tick_turns c l.held l.phase f) in
          record { turns = x.0; block = λ e. subst (λ o. Puts o (busy l)) e x.1 };
    }

pub busy_turns : BusyTurns
busy_turns c t w = busy_steps c t.line (always c t w).free

-- ---- the steps that tell nothing

drained_busy : (h : Bool) (p : Phase) → busy (line_at h p) ≡ busy (drained_of (line_at h p))
drained_busy h Idle = refl
drained_busy h (WaitEot timer tries) = refl
drained_busy h (Draining tries) = refl
drained_busy h (WaitAck timer tries) = refl
drained_busy h (WaitLength timer) = refl
drained_busy h (Body timer a) = refl
drained_busy h (Silence timer fault) = refl

ask_busy : (h : Bool) (p : Phase) → busy (ask_of (line_at h p)) ≡ true
unfolding holding
ask_busy h Idle = refl
ask_busy h (WaitEot timer tries) = refl
ask_busy h (Draining tries) = refl
ask_busy h (WaitAck timer tries) = refl
ask_busy h (WaitLength timer) = refl
ask_busy h (Body timer a) = refl
ask_busy h (Silence timer fault) = refl

settle_busy : (h : Bool) (p : Phase) → busy (line_at h p) ≡ busy (settle_of (line_at h p)).line
unfolding settle_idle
settle_busy true Idle = refl
settle_busy false Idle = refl
settle_busy h (WaitEot timer tries) = refl
settle_busy h (Draining tries) = refl
settle_busy h (WaitAck timer tries) = refl
settle_busy h (WaitLength timer) = refl
settle_busy h (Body timer a) = refl
settle_busy h (Silence timer fault) = refl

-- a test and none
or_none : (a : Bool) → a || false ≡ a
or_none true = refl
or_none false = refl

-- neither is true
none_of : (a b : Bool) → a || b ≡ false → b ≡ false
none_of true b e = absurd (false≢true (sym e))
none_of false b e = e

pub busy_still : BusyStill
busy_still l =
    record {
      drained = drained_busy l.held l.phase;
      ask = ask_busy l.held l.phase;
      settle = settle_busy l.held l.phase;
      withdraw = or_none (under_way l.phase);
      nothing_to_withdraw = λ e. sym (ap (λ h. line_at h l.phase) (none_of (under_way l.phase) l.held e));
    }
