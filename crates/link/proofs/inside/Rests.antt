-- Where a block has gone up, none of ours is under way: so a held one can be withdrawn. Assumes nothing.
use Prim.Native.Nat.{ℕ}
use mathlib.Core.Path.{◌≡◌, refl}
use mathlib.Core.Bool.{Bool, false}
use mathlib.Core.List.{List}
use Rattle.settings.specs.declared.limits.Limits.{Limits}
use Rattle.line.specs.Line.{under_way, byte_of, tick_of}
use Rattle.line.proofs.Alone.{ticks_tell}
use Rattle.line.proofs.Cases.{ByByte, by_byte}
use Rattle.line.specs.declared.phase.Phase.{Phase}
use Rattle.line.specs.declared.phase.Phase.TheVariants.{Idle, WaitEot, Draining, WaitAck, WaitLength, Body, Silence}
use Rattle.line.specs.declared.line.Line.{Line}
use Rattle.line.specs.declared.step.Step.{Step}
use Rattle.line.specs.declared.step.Told.{Told}
use Rattle.line.specs.declared.step.Told.TheVariants as told

-- by what a step tells, of the phase that it leaves
abbrev pub Rests : Told → Phase → Type 0
Rests told.Nothing p = Unit {0}
Rests told.PutOut p = Unit {0}
Rests told.Sent p = Unit {0}
Rests told.Failed p = Unit {0}
Rests (told.Up n) p = under_way p ≡ false

abbrev At : Step → Type 0
At s = Rests s.told s.line.phase

rests : (c : Limits) (h : Bool) (p : Phase) (b : ℕ) → ByByte At c h p b
rests c h Idle b = (tt, tt)
rests c h (WaitEot timer tries) b = (tt, tt, λ n. tt)
rests c h (Draining tries) b = tt
rests c h (WaitAck timer tries) b = (tt, tt, tt)
rests c h (WaitLength timer) b = (tt, tt)
rests c h (Body timer a) b = (λ x. tt, refl, λ f. tt)
rests c h (Silence timer fault) b = tt

pub byte_rests : (c : Limits) (l : Line) (b : ℕ) (rs : List ℕ) → At (byte_of c l b rs).step
byte_rests c l b rs = by_byte At c l.held l.phase b rs (rests c l.held l.phase b)

-- none goes up at a tick
no_rise : (t : Told) (p : Phase) → ((n : ℕ) → t ≡ told.Up n → ⊥) → Rests t p
no_rise told.Nothing p no_up = tt
no_rise told.PutOut p no_up = tt
no_rise told.Sent p no_up = tt
no_rise told.Failed p no_up = tt
no_rise (told.Up n) p no_up = absurd (no_up n refl)

pub tick_rests : (c : Limits) (l : Line) → At (tick_of c l)
tick_rests c l = no_rise (tick_of c l).told (tick_of c l).line.phase (ticks_tell c l).not_up
