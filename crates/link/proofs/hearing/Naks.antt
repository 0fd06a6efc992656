-- A NAK is noted with its reason, and nothing else with one (`specs/Hearing.antt`). Assumes nothing.
use Prim.Native.Nat.{ℕ, ◌+◌, ◌≤◌}
use mathlib.Core.Path.{◌≡◌, refl, sym, ap, subst, ◌∙◌}
use mathlib.Core.Bool.{Bool, true, false}
use mathlib.Core.List.{List, [], ◌∷◌, ◌++◌}
use mathlib.Core.Logic.{◌⊎◌, inl, inr, ⊎_elim}
use native.Mathlib.Omega.{arith}
use lib.Dec.{eqb}
use Rattle.settings.specs.declared.limits.Limits.{Limits}
use Rattle.line.specs.Codes.{NAK, bytes_out, note_of}
use Rattle.line.specs.Line.{heard, line_at, busy, tick_of, holding, settle_idle, stays, goes, fails, again, naks}
use Rattle.line.specs.History as line
use Rattle.line.specs.History.{Seen, leaves, track, puts}
use Rattle.line.specs.Theorems.{NakFor, no_length, gap, bad_length, bad_sum}
use Rattle.line.proofs.Cases.{ByTick, by_tick}
use Rattle.line.proofs.Busy.{busy_turns}
use Rattle.line.proofs.Receiving.{nak_in_time, nak_reasons}
use Rattle.line.specs.declared.phase.Phase.{Phase}
use Rattle.line.specs.declared.phase.Phase.TheVariants.{Idle, WaitEot, Draining, WaitAck, WaitLength, Body, Silence}
use Rattle.line.specs.declared.step.Step.{Step}
use Rattle.line.specs.declared.step.Out.TheVariants as out
use Rattle.line.specs.declared.step.Told.{Told}
use Rattle.line.specs.declared.step.Told.TheVariants as told
use Rattle.line.specs.declared.step.Remark.{Remark}
use Rattle.line.specs.declared.step.Remark.TheVariants as remark
use Rattle.exchange.specs.Request.{lends}
use Rattle.exchange.specs.Judge.{judge_of}
use Rattle.link.specs.Answer.{note_number}
use Rattle.link.specs.Run.{block_bytes}
use Rattle.link.specs.Reading.{sending_of}
use Rattle.link.specs.History.{Call, byte, tick, drained, request, Room, step_in, settling, lent_room, Track, line_track, limits_in, terms_in, Made, answered, next}
use Rattle.link.specs.Door.{bytes_left, closes, line_bytes, Watch, AtDoor, made, followed}
use Rattle.link.specs.Verdicts.{Accepted}
use Rattle.link.specs.Hearing.{MessageGets, NakNotes, NakNoted}
use Rattle.link.proofs.Table.{of_line}
use Rattle.link.proofs.inside.Reached.{line_inside}
use Rattle.link.proofs.inside.Courier.{clash}
use Rattle.link.proofs.inside.Agrees.{agrees}
use Rattle.link.proofs.inside.Places.{lent, sound_inside, numbered_inside}
use Rattle.link.proofs.door.Courier.{Fate, going, begun, ended, called_for, May, fate_in, tick_calls, tick_may}
use Rattle.link.proofs.door.OneCall.{Calm}
use Rattle.link.proofs.door.Right.{settled, door_right}
use Rattle.link.proofs.door.Limits.{receive_ends_by}
use Rattle.link.proofs.device.Told.{told_exactly}
use Rattle.link.proofs.device.Remarks.{up_unremarked}
use Rattle.link.proofs.moves.Notes.{to_27, up_noted, remarked}
use Rattle.link.proofs.hearing.Steps.{on_fate, naks_leave}
use Rattle.link.proofs.hearing.Calls.{at_door, each_call_gets}

-- NAK goes before all
abbrev led : List ℕ → Bool
led [] = false
led (a ∷ bs) = eqb a NAK

-- ---- a tick

-- the step puts NAK out, and that leaves; or it does not, and no NAK leaves
abbrev Either : Bool → List ℕ → Bool → Type 0
Either nak bs sending = ((nak ≡ true) × (bs ≡ followed NAK sending)) ⊎ ((nak ≡ false) × (led bs ≡ false))

module _ (c : Limits) (block : List ℕ) (s : Seen) where
  -- whatever becomes of what is being sent, as far as it may
  abbrev Shown : List ℕ → Step → Fate → Type 0
  Shown rs z f =
      let ks = settling (called_for f z.told) in
      Either (puts NAK z.out) (bytes_out block z.out ++ line_bytes c z.line rs block ks) (busy (track c (leaves s line.tick (heard z rs)) ks).line)

  abbrev Shows : Bool → Fate → Step → Type 0
  Shows before f z = (rs : List ℕ) → May z.told before f → Shown rs z f

  naks_show : (before : Bool) (f : Fate) (h : Bool) (p : Phase) (why : Remark) → Shows before f (naks (line_at h p) why)
  naks_show before f h p why rs m = inl (refl, naks_leave c block s f before h p why rs m)

  fails_show : (before : Bool) (f : Fate) (h : Bool) (p : Phase) → Shows before f (fails (line_at h p))
  unfolding settle_idle holding track line_bytes
  fails_show before going h p rs m = absurd m
  fails_show before begun h p rs m = inr (refl, refl)
  fails_show before ended h p rs m = inr (refl, refl)

  -- where nothing is told
  goes_show : (before : Bool) (f : Fate) (z : Step) → z.told ≡ told.Nothing → ((rs : List ℕ) → Shown rs z going × Shown rs z begun) → Shows before f z
  goes_show before f z e w rs m = on_fate (Shown rs z) before (w rs).0 (w rs).1 f (subst (λ (t : Told). May t before f) e m)

  tick_shows : (f : Fate) (h : Bool) (p : Phase) → Calm p h → ByTick (Shows (busy (line_at h p)) f) c h p
  unfolding settle_idle holding track line_bytes
  tick_shows f h Idle d = goes_show _ f (stays (line_at h Idle)) refl (λ rs. (rw d (inr (refl, refl)), inr (refl, refl)))
  tick_shows f h (WaitEot timer tries) d =
      let l = line_at h (WaitEot timer tries) in (
        fails_show true f h (WaitEot timer tries),
        goes_show true f (again l tries) refl (λ rs. (inr (refl, refl), inr (refl, refl))),
        goes_show true f (goes l (WaitEot (timer + 1) tries) out.Nothing) refl (λ rs. (inr (refl, refl), inr (refl, refl))),
      )
  tick_shows f h (Draining tries) d = goes_show true f (stays (line_at h (Draining tries))) refl (λ rs. (inr (refl, refl), inr (refl, refl)))
  tick_shows f h (WaitAck timer tries) d =
      let l = line_at h (WaitAck timer tries) in (
        fails_show true f h (WaitAck timer tries),
        goes_show true f (again l tries) refl (λ rs. (inr (refl, refl), inr (refl, refl))),
        goes_show true f (goes l (WaitAck (timer + 1) tries) out.Nothing) refl (λ rs. (inr (refl, refl), inr (refl, refl))),
      )
  tick_shows f h (WaitLength timer) d = (
    naks_show _ f h (WaitLength timer) remark.NoLength,
    goes_show _ f (goes (line_at h (WaitLength timer)) (WaitLength (timer + 1)) out.Nothing) refl (λ rs. (inr (refl, refl), inr (refl, refl))),
  )
  tick_shows f h (Body timer a) d = (
    naks_show _ f h (Body timer a) remark.Gap,
    goes_show _ f (goes (line_at h (Body timer a)) (Body (timer + 1) a) out.Nothing) refl (λ rs. (inr (refl, refl), inr (refl, refl))),
  )
  tick_shows f h (Silence timer fault) d = (
    naks_show _ f h (Silence timer fault) (remark.Bad fault),
    goes_show _ f (goes (line_at h (Silence timer fault)) (Silence (timer + 1) fault) out.Nothing) refl (λ rs. (inr (refl, refl), inr (refl, refl))),
  )

  shown : (f : Fate) (h : Bool) (p : Phase) (rs : List ℕ) → Calm p h → May (tick_of c (line_at h p)).told (busy (line_at h p)) f
      → (let ks = line.tick ∷ settling (called_for f (tick_of c (line_at h p)).told) in
      Either (puts NAK (tick_of c (line_at h p)).out) (line_bytes c (line_at h p) rs block ks) (busy (track c (record { line = line_at h p; received = rs; seen = s }) ks).line))
  unfolding track line_bytes
  shown f h p rs d = by_tick (Shows (busy (line_at h p)) f) c h p (tick_shows f h p d) rs

-- ---- any accepted call

nak_closes : (sending : Bool) → closes (followed NAK sending) ≡ true
nak_closes true = refl
nak_closes false = refl

message_led : (lent theirs : Bool) (bs : List ℕ) → MessageGets lent theirs bs → led bs ≡ false
message_led false theirs bs e = ap led e
message_led true false bs e = ap led e
message_led true true bs e = ap led e

module _ (t : Track) (w : Watch) (a : AtDoor t w) where
  abbrev Leaves : Made → Type 0
  Leaves m = bytes_left (answered t m) ≡ followed NAK (sending_of (next t m).link)

  abbrev nak : Call → Bool
  nak k = puts NAK (step_in t.link k).step.out

  -- NAK leaves exactly if the line's step puts it out
  abbrev Exactly : Made → Type 0
  Exactly m = (Leaves m → nak m.call ≡ true) × ((Leaves m → ⊥) → nak m.call ≡ false)

  none_leaves : (m : Made) → nak m.call ≡ false → led (bytes_left (answered t m)) ≡ false → Exactly m
  none_leaves m e l = (λ q. clash (sym l ∙ ap led q), λ q. e)

  exactly : (k : Call) (lend : Room) (o : List ℕ) → Accepted t (made k lend o) → Exactly (made k lend o)
  exactly (byte b fits) lend o ok =
      let m = made (byte b fits) lend o in (
        λ q. let is = receive_ends_by t w a m (ap closes q ∙ nak_closes (sending_of (next t m).link)) in clash (sym (ap led is) ∙ ap led q),
        λ q. (nak_in_time (limits_in t) (line_track t) (line_inside t a.reached)).to_no_byte b fits,
      )
  exactly tick lend o ok =
      let r = a.reached in
      let m = made tick lend o in
      let c = limits_in t in
      let room = lent_room lend t.room in
      let block = block_bytes t.link room in
      let l = t.link.line in
      let turns = busy_turns c (line_track t) (line_inside t r) in
      let sound = sound_inside t r in
      let numbered = numbered_inside t r in
      let here : Either (nak tick) (bytes_left (answered t m)) (sending_of (next t m).link) =
      at_door t r m ok (Either (nak tick))
      (subst (λ ks. Either (nak tick) (line_bytes c l t.link.received block ks) (busy (track c (line_track t) ks).line))
      (sym (tick_calls t.link room sound numbered (agrees t r).same turns))
      (shown c block t.seen (fate_in t.link room tick) l.held l.phase t.link.received (settled t r)
      (tick_may t.link room sound numbered (agrees t r).same turns))) in
      ⊎_elim (λ y. (λ q. y.0, λ q. absurd (q y.1))) (λ y. none_leaves m y.0 y.1) here
  exactly drained lend o ok = none_leaves (made drained lend o) refl (ap led (each_call_gets t w a (made drained lend o) ok))
  exactly (request r) lend o ok =
      none_leaves (made (request r) lend o) refl (message_led (lends r) w.theirs _ (each_call_gets t w a (made (request r) lend o) ok))

  -- what the line's step says of it
  step_says : (k : Call)
      → (nak k ≡ true → NakFor t.seen.bytes (step_in t.link k).step.remark) × (nak k ≡ false → note_of (step_in t.link k).step.remark ≡ 20)
  step_says (byte b fits) = let n = nak_reasons (limits_in t) (line_track t) (line_inside t a.reached) (line.byte b fits) in (n.why, n.else_none)
  step_says tick = let n = nak_reasons (limits_in t) (line_track t) (line_inside t a.reached) line.tick in (n.why, n.else_none)
  step_says drained = let n = nak_reasons (limits_in t) (line_track t) (line_inside t a.reached) line.drained in (n.why, n.else_none)
  step_says (request r) = (λ e. clash e, λ e. refl)

-- such a reason has a note of its own
from_28 : (bs : List ℕ) (r : Remark) → NakFor bs r → 28 ≤ note_of r
from_28 bs _ (no_length e) = omega arith
from_28 bs _ (gap n after e ten most short) = omega arith
from_28 bs _ (bad_length n after e out) = omega arith
from_28 bs _ (bad_sum n body high low rest e ten most size other) = omega arith

pub nak_noted : NakNoted
nak_noted t w a m ok =
    let x = exactly t w a m.call m.room m.out ok in
    let says = step_says t w a m.call in
    let r = (step_in t.link m.call).step.remark in
    let n = remarked t m ok in
    subst (λ (v : Watch). NakNotes v.came (bytes_left (answered t m)) (sending_of (next t m).link) (answered t m).answer.note) (sym (door_right t w a))
    (record {
      why = λ q.
          let f = says.0 (x.0 q) in (
            r,
            f,
            ⊎_elim
                (λ g.
                let up = ((told_exactly t m).block g.0 g.1).0 g.2 in
                absurd (omega (arith, from_28 t.seen.bytes r f, ap note_of (up_unremarked t.link m.call up.size up.told.told)))) (λ e. e) n,
          );
      else_none = λ q.
          ⊎_elim (λ g. omega (arith, up_noted t m g.0 g.1 g.2, to_27 (judge_of (terms_in t) t.link.exchange g.0 g.1 (lent t m)).answer.note))
          (λ e. omega (arith, ap note_number e, of_line r, says.1 (x.1 q))) n;
    })
