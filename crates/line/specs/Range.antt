-- The ranges of docs/STATE.md, field by field: the line's part of refusal 3. First as the line tests them, then as they are read.
use Rattle.std.specs.Prelude.{ℕ, ◌≤◌, Bool, true, ◌&&◌, leb}
use Rattle.settings.specs.Panel.{between}
use Rattle.line.specs.declared.phase.Arrival.{Arrival}
use Rattle.line.specs.declared.phase.Phase.{Phase}
use Rattle.line.specs.declared.phase.Phase.TheVariants.{Idle, WaitEot, Draining, WaitAck, WaitLength, Body, Silence}
use Rattle.line.specs.declared.line.Line.{Line}

unfoldable pub wait_in_range : ℕ → ℕ → Bool
wait_in_range timer tries = leb timer 250 && leb tries 31

unfoldable pub arrival_in_range : Arrival → Bool
arrival_in_range a = between 10 a.length 254 && leb a.got 255 && leb a.sum 64770

unfoldable pub body_in_range : ℕ → Arrival → Bool
body_in_range timer a = leb timer 100 && arrival_in_range a

abbrev pub phase_in_range : Phase → Bool
phase_in_range Idle = true
phase_in_range (WaitEot timer tries) = wait_in_range timer tries
phase_in_range (Draining tries) = leb tries 31
phase_in_range (WaitAck timer tries) = wait_in_range timer tries
phase_in_range (WaitLength timer) = leb timer 250
phase_in_range (Body timer a) = body_in_range timer a
phase_in_range (Silence timer fault) = leb timer 100

abbrev pub line_in_range : Line → Bool
line_in_range l = phase_in_range l.phase

-- ---- a field that is not named here has the range of its type

-- of a body: its timer, N, how many bytes have come, and their sum
pub record ArrivalFits (timer : ℕ) (a : Arrival) : Type 0 where
  pub timer_most : timer ≤ 100
  pub length_least : 10 ≤ a.length
  pub length_most : a.length ≤ 254
  pub got_most : a.got ≤ 255
  pub sum_most : a.sum ≤ 64770

abbrev pub PhaseFits : Phase → Type 0
PhaseFits Idle = Unit {0}
PhaseFits (WaitEot timer tries) = (timer ≤ 250) × (tries ≤ 31)
PhaseFits (Draining tries) = tries ≤ 31
PhaseFits (WaitAck timer tries) = (timer ≤ 250) × (tries ≤ 31)
PhaseFits (WaitLength timer) = timer ≤ 250
PhaseFits (Body timer a) = ArrivalFits timer a
PhaseFits (Silence timer fault) = timer ≤ 100

abbrev pub LineFits : Line → Type 0
LineFits l = PhaseFits l.phase
