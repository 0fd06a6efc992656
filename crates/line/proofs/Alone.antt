-- What a step can tell: that the block is put out where the whole block leaves, and nowhere else; nothing by settling; and what no tick tells. Assumes nothing.
use Prim.Native.Nat.{ℕ}
use mathlib.Core.Path.{◌≡◌, refl, sym, subst}
use mathlib.Core.Bool.{Bool}
use mathlib.Core.List.{List}
use Rattle.line.specs.Line.{line_at, sends}
use Rattle.line.specs.History.{Call, byte, tick, drained, ask, withdraw, settle, called}
use Rattle.line.specs.Theorems.{TellsOnly, BlockAlone, TicksTell}
use Rattle.line.proofs.Cases.{ByByte, by_byte, ByTick, by_tick, by_settle}
use Rattle.line.specs.declared.phase.Phase.{Phase}
use Rattle.line.specs.declared.phase.Phase.TheVariants.{Idle, WaitEot, Draining, WaitAck, WaitLength, Body, Silence}
use Rattle.line.specs.declared.step.Out.{Out}
use Rattle.line.specs.declared.step.Out.TheVariants as out
use Rattle.line.specs.declared.step.Told.{Told}
use Rattle.line.specs.declared.step.Told.TheVariants as told
use Rattle.line.specs.declared.step.Remark.{Remark}
use Rattle.line.specs.declared.step.Remark.TheVariants as remark
use Rattle.line.specs.declared.step.Step.{Step}
use Rattle.settings.specs.declared.limits.Limits.{Limits}

-- ---- the whole block

-- anything but that the block is put out
abbrev Else : Told → Type 0
Else told.Nothing = Unit {0}
Else told.PutOut = ⊥
Else told.Sent = Unit {0}
Else told.Failed = Unit {0}
Else (told.Up n) = Unit {0}

abbrev With : Step → Out → Type 0
With s out.Nothing = Else s.told
With s (out.Code x) = Else s.told
With s out.Block = TellsOnly s told.PutOut

abbrev Alone : Step → Type 0
Alone s = With s s.out

-- a step that tells just that, and puts the whole block out
puts_alone : (s : Step) → TellsOnly s told.PutOut → s.out ≡ out.Block → Alone s
puts_alone s t o = subst (With s) (sym o) t

-- where that is told, it is the whole block that leaves
told_with : (s : Step) (o : Out) → With s o → s.told ≡ told.PutOut → o ≡ out.Block
told_with s out.Nothing w e = absurd (subst Else e w)
told_with s (out.Code x) w e = absurd (subst Else e w)
told_with s out.Block w e = refl

module _ (c : Limits) (h : Bool) where
  byte_alone : (p : Phase) (b : ℕ) → ByByte Alone c h p b
  byte_alone Idle b = (tt, tt)
  byte_alone (WaitEot timer tries) b = (puts_alone (sends (line_at h (WaitEot timer tries)) tries) (record { told = refl; remark = refl }) refl, tt, λ n. tt)
  byte_alone (Draining tries) b = tt
  byte_alone (WaitAck timer tries) b = (tt, tt, tt)
  byte_alone (WaitLength timer) b = (tt, tt)
  byte_alone (Body timer a) b = (λ x. tt, tt, λ f. tt)
  byte_alone (Silence timer fault) b = tt

  tick_alone : (p : Phase) → ByTick Alone c h p
  tick_alone Idle = tt
  tick_alone (WaitEot timer tries) = (tt, tt, tt)
  tick_alone (Draining tries) = tt
  tick_alone (WaitAck timer tries) = (tt, tt, tt)
  tick_alone (WaitLength timer) = (tt, tt)
  tick_alone (Body timer a) = (tt, tt)
  tick_alone (Silence timer fault) = (tt, tt)

  alone : (p : Phase) (rs : List ℕ) (k : Call) → Alone (called c (line_at h p) rs k).step
  alone p rs (byte b fits) = by_byte Alone c h p b rs (byte_alone p b)
  alone p rs tick = by_tick Alone c h p (tick_alone p)
  alone p rs drained = tt
  alone p rs ask = tt
  alone p rs withdraw = tt
  alone p rs settle = by_settle Alone h p tt tt

pub block_alone : BlockAlone
block_alone c l rs =
    record {
      block = λ k e. subst (With (called c l rs k).step) e (alone c l.held l.phase rs k);
      only_then = λ k e. told_with (called c l rs k).step (called c l rs k).step.out (alone c l.held l.phase rs k) e;
      settled = by_settle (λ s. TellsOnly s told.Nothing) l.held l.phase (record { told = refl; remark = refl }) (record { told = refl; remark = refl });
    }

-- ---- a tick

abbrev Tells : Told → Type 0
Tells told.Nothing = Unit {0}
Tells told.PutOut = ⊥
Tells told.Sent = ⊥
Tells told.Failed = Unit {0}
Tells (told.Up n) = ⊥

abbrev Remarks : Remark → Type 0
Remarks remark.Nothing = Unit {0}
Remarks remark.GaveWay = ⊥
Remarks remark.NoLength = Unit {0}
Remarks remark.Gap = Unit {0}
Remarks (remark.Bad fault) = Unit {0}

abbrev Ticks : Step → Type 0
Ticks s = Tells s.told × Remarks s.remark

ticks : (c : Limits) (h : Bool) (p : Phase) → ByTick Ticks c h p
ticks c h Idle = (tt, tt)
ticks c h (WaitEot timer tries) = ((tt, tt), (tt, tt), (tt, tt))
ticks c h (Draining tries) = (tt, tt)
ticks c h (WaitAck timer tries) = ((tt, tt), (tt, tt), (tt, tt))
ticks c h (WaitLength timer) = ((tt, tt), (tt, tt))
ticks c h (Body timer a) = ((tt, tt), (tt, tt))
ticks c h (Silence timer fault) = ((tt, tt), (tt, tt))

pub ticks_tell : TicksTell
ticks_tell c l =
    let x = by_tick Ticks c l.held l.phase (ticks c l.held l.phase) in
    record { not_out = λ e. subst Tells e x.0; not_sent = λ e. subst Tells e x.0; not_up = λ n e. subst Tells e x.0; no_way = λ e. subst Remarks e x.1 }
