-- A send fails exactly at a retry above RTY (`specs/Hearing.antt`). Assumes nothing.
use Prim.Native.Nat.{ℕ, ◌+◌, ◌<◌}
use mathlib.Core.Path.{◌≡◌, refl, sym, ap, ◌∙◌}
use mathlib.Core.Bool.{Bool, true, false, false≢true}
use mathlib.Core.List.{List, []}
use mathlib.Core.Logic.{◌↔◌, ◌≢◌}
use native.Mathlib.Omega.{arith}
use lib.Dec.{eqb}
use borrow.Author.Tests.{eqb-false}
use Rattle.wire.proofs.Choice.{chosen}
use Rattle.settings.specs.declared.limits.Limits.{Limits}
use Rattle.settings.proofs.Timers.{by_timer}
use Rattle.line.specs.Codes.{ACK}
use Rattle.line.specs.Line.{line_at, byte_of, tick_of, ack_byte, eot_tick, ack_tick}
use Rattle.line.specs.History as line
use Rattle.line.specs.History.{left, ours_at}
use Rattle.line.specs.Theorems.{Counts}
use Rattle.line.proofs.Rules.{line_rules}
use Rattle.line.proofs.Retrying.{retried}
use Rattle.line.proofs.Cases.{by_byte, by_tick}
use Rattle.line.proofs.Always.{always}
use Rattle.line.proofs.Sending.{tries_are_enqs}
use Rattle.line.specs.declared.phase.Phase.{Phase}
use Rattle.line.specs.declared.phase.Phase.TheVariants.{Idle, WaitEot, Draining, WaitAck, WaitLength, Body, Silence}
use Rattle.line.specs.declared.step.Step.{Step}
use Rattle.line.specs.declared.step.Told.{Told}
use Rattle.line.specs.declared.step.Told.TheVariants as told
use Rattle.exchange.specs.History as exchange
use Rattle.link.specs.History.{Call, byte, tick, drained, request, step_in, Track, line_track, limits_in}
use Rattle.link.specs.Inside.{Reached}
use Rattle.link.specs.Verdicts.{Tells}
use Rattle.link.specs.Door.{on_way, SendTimer, watch_of, Watch}
use Rattle.link.specs.Hearing.{since_seen, Retries, other_byte, t2_exceeded, Fails, FailedExactly}
use Rattle.link.proofs.inside.Reached.{line_inside}
use Rattle.link.proofs.inside.Courier.{clash}
use Rattle.link.proofs.door.Limits.{from_line}
use Rattle.link.proofs.device.Told.{told_exactly}
use Rattle.link.proofs.hearing.Calls.{timed_at}

abbrev is_failed : Told → Bool
is_failed told.Nothing = false
is_failed told.PutOut = false
is_failed told.Sent = false
is_failed told.Failed = true
is_failed (told.Up n) = false

-- a step that does not tell it
abbrev Goes : Step → Type 0
Goes z = z.told ≡ told.Failed → ⊥

other : {e : Told} → is_failed e ≡ false → e ≡ told.Failed → ⊥
other f e = false≢true (sym f ∙ ap is_failed e)

module _ (c : Limits) (h : Bool) (enqs : ℕ) where
  -- a byte
  abbrev ByteFails : Phase → ℕ → Told → Type 0
  ByteFails p b z = (z ≡ told.Failed) ↔ ((ours_at p ≡ left) × (b ≢ ACK) × (c.rty < enqs))

  never : (p : Phase) (b : ℕ) (z : Told) → (z ≡ told.Failed → ⊥) → (ours_at p ≡ left → ⊥) → ByteFails p b z
  never p b z goes not_left = (λ e. absurd (goes e), λ w. absurd (not_left w.0))

  byte_fails : (p : Phase) (b : ℕ) (rs : List ℕ) → Counts p enqs → ByteFails p b (byte_of c (line_at h p) b rs).step.told
  unfolding ack_byte
  byte_fails Idle b rs n = never Idle b _ (by_byte Goes c h Idle b rs (other refl, other refl)) (λ e. false≢true (ap on_way e))
  byte_fails (WaitEot timer tries) b rs n =
      never (WaitEot timer tries) b _ (by_byte Goes c h (WaitEot timer tries) b rs (other refl, other refl, λ k. other refl)) (λ e. false≢true cc)
  byte_fails (Draining tries) b rs n = never (Draining tries) b _ (other refl) (λ e. false≢true cc)
  byte_fails (WaitAck timer tries) b rs n = (
    chosen (λ (z : Step). z.told ≡ told.Failed → (left ≡ left) × (b ≢ ACK) × (c.rty < enqs)) (eqb b ACK) _ _ (λ i e. absurd (other refl e))
        (λ i. retried (λ z. z.told ≡ told.Failed → (left ≡ left) × (b ≢ ACK) × (c.rty < enqs)) c _ tries
        (λ j e. (refl, eqb-false b ACK i, omega (arith, n))) (λ j e. absurd (other refl e))),
    λ w. ap (λ (z : Step). z.told) (((line_rules.wait_ack c rs h timer tries).other b w.1).above (omega (arith, n, w.2))),
  )
  byte_fails (WaitLength timer) b rs n =
      never (WaitLength timer) b _ (by_byte Goes c h (WaitLength timer) b rs (other refl, other refl)) (λ e. false≢true (ap on_way e))
  byte_fails (Body timer a) b rs n =
      never (Body timer a) b _ (by_byte Goes c h (Body timer a) b rs (λ x. other refl, other refl, λ x. other refl)) (λ e. false≢true (ap on_way e))
  byte_fails (Silence timer fault) b rs n = never (Silence timer fault) b _ (other refl) (λ e. false≢true (ap on_way e))

  -- a tick
  abbrev TickFails : Phase → ℕ → Told → Type 0
  TickFails p since z = (z ≡ told.Failed) ↔ ((line.is_waiting (ours_at p) ≡ true) × (c.t2.0 < since + 1) × (c.rty < enqs))

  tick_never : (p : Phase) (since : ℕ) (z : Told) → (z ≡ told.Failed → ⊥) → line.is_waiting (ours_at p) ≡ false → TickFails p since z
  tick_never p since z goes not_waiting = (λ e. absurd (goes e), λ w. clash (sym not_waiting ∙ w.0))

  tick_fails : (p : Phase) (since : ℕ) → Counts p enqs → SendTimer p since → TickFails p since (tick_of c (line_at h p)).told
  tick_fails Idle since n i = tick_never Idle since _ (other refl) refl
  tick_fails (WaitEot timer tries) since n i =
      let P : Step → Type 0 = λ z. z.told ≡ told.Failed → (true ≡ true) × (c.t2.0 < since + 1) × (c.rty < enqs) in (
        by_timer c.t2 timer (λ t. P (eot_tick c (line_at h (WaitEot timer tries)) tries t))
            (λ j. retried P c _ tries (λ k e. (refl, omega (arith, i), omega (arith, n))) (λ k e. absurd (other refl e))) (λ j e. absurd (other refl e)),
        λ w. ap (λ (z : Step). z.told) (((line_rules.wait_eot c [] h timer tries).beyond (omega (arith, i, w.1))).above (omega (arith, n, w.2))),
      )
  tick_fails (Draining tries) since n i = tick_never (Draining tries) since _ (other refl) refl
  tick_fails (WaitAck timer tries) since n i =
      let P : Step → Type 0 = λ z. z.told ≡ told.Failed → (true ≡ true) × (c.t2.0 < since + 1) × (c.rty < enqs) in (
        by_timer c.t2 timer (λ t. P (ack_tick c (line_at h (WaitAck timer tries)) tries t))
            (λ j. retried P c _ tries (λ k e. (refl, omega (arith, i), omega (arith, n))) (λ k e. absurd (other refl e))) (λ j e. absurd (other refl e)),
        λ w. ap (λ (z : Step). z.told) (((line_rules.wait_ack c [] h timer tries).beyond (omega (arith, i, w.1))).above (omega (arith, n, w.2))),
      )
  tick_fails (WaitLength timer) since n i = tick_never (WaitLength timer) since _ (by_tick Goes c h (WaitLength timer) (other refl, other refl)) refl
  tick_fails (Body timer a) since n i = tick_never (Body timer a) since _ (by_tick Goes c h (Body timer a) (other refl, other refl)) refl
  tick_fails (Silence timer fault) since n i = tick_never (Silence timer fault) since _ (by_tick Goes c h (Silence timer fault) (other refl, other refl)) refl

-- by the call
abbrev asks : Call → Bool
asks (byte b fits) = true
asks tick = true
asks drained = false
asks (request q) = false

module _ (t : Track) (r : Reached t) (since : ℕ) (timed : SendTimer t.link.line.phase since) where
  abbrev c : Limits
  c = limits_in t

  abbrev w : Watch
  w = watch_of t.seen

  ours : t.seen.ours ≡ ours_at t.link.line.phase
  ours = (always c (line_track t) (line_inside t r)).ours

  enqs : Counts t.link.line.phase t.seen.enqs
  enqs = tries_are_enqs c (line_track t) (line_inside t r)

  -- drained, or a request, asks for none
  may : (k : Call) → Retries c w since k → asks k ≡ true
  may _ (other_byte b fits o n) = refl
  may _ (t2_exceeded o n) = refl

  call_fails : (k : Call) → ((step_in t.link k).step.told ≡ told.Failed) ↔ (Retries c w since k × (c.rty < t.seen.enqs))
  call_fails (byte b fits) =
      let l = t.link.line in
      let z = byte_fails c l.held t.seen.enqs l.phase b t.link.received enqs in
      (λ e. let y = z.0 e in (other_byte b fits (ours ∙ y.0) y.1, y.2), λ y. z.1 ((of_byte y.0).0, (of_byte y.0).1, y.1))
    where
      of_byte : Retries c w since (byte b fits) → (ours_at t.link.line.phase ≡ left) × (b ≢ ACK)
      of_byte (other_byte _ _ o n) = (sym ours ∙ o, n)
  call_fails tick =
      let l = t.link.line in
      let z = tick_fails c l.held t.seen.enqs l.phase since enqs timed in
      (λ e. let y = z.0 e in (t2_exceeded (ap line.is_waiting ours ∙ y.0) y.1, y.2), λ y. z.1 ((of_tick y.0).0, (of_tick y.0).1, y.1))
    where
      of_tick : Retries c w since tick → (line.is_waiting (ours_at t.link.line.phase) ≡ true) × (c.t2.0 < since + 1)
      of_tick (t2_exceeded o n) = (ap line.is_waiting (sym ours) ∙ o, n)
  call_fails drained = (λ e. absurd (other refl e), λ y. clash (may _ y.0))
  call_fails (request q) = (λ e. absurd (other refl e), λ y. clash (may _ y.0))

pub failed_exactly : FailedExactly
failed_exactly t w a m =
    let n = since_seen t w a in
    let told = (told_exactly t m).failed in
    let z = call_fails t a.reached n (timed_at t w a) m.call in
    from_line (λ c v. Tells t m exchange.failed ↔ Fails c v n t m) t w a (
      λ e. let s = told.0 e in let y = z.0 s.told in record { accepted = s.accepted; retry = y.0; above = y.1 },
      λ f. told.1 (record { accepted = f.accepted; told = z.1 (f.retry, f.above) }),
    )
