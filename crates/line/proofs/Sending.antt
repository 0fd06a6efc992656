-- A block of ours: how long it is waited for, how often it is tried, and what ends it. Assumes nothing.
use Prim.Native.Nat.{ℕ, ◌+◌, ◌≤◌, ◌<◌}
use mathlib.Core.Path.{◌≡◌, refl, sym, subst, ◌∙◌}
use mathlib.Core.Bool.{true, false≢true}
use native.Mathlib.Omega.{arith}
use lib.Dec.{eqb}
use lib.ListN.{length}
use Rattle.line.specs.Codes.{EOT, ACK}
use Rattle.line.specs.Line.{line_at, eot_byte, ack_byte, byte_of}
use Rattle.line.specs.History.{Call, byte, tick, drained, ask, withdraw, settle, comes, none, enquired, left, ours_at, answered, next}
use Rattle.line.specs.Theorems.{SendEnds, send_limit, Counts, TriesAreEnqs, EachEnqItsBlock, AckMeansSent, SendEndsBy, OnlookerRight}
use Rattle.line.proofs.Invariant.{At, Cause, Occasion, fewer}
use Rattle.line.proofs.Always.{always, after_one}
use Rattle.line.specs.declared.phase.Phase.{Phase}
use Rattle.line.specs.declared.phase.Phase.TheVariants.{Idle, WaitEot, Draining, WaitAck, WaitLength, Body, Silence}
use Rattle.line.specs.declared.step.Out.TheVariants.{Block}
use Rattle.line.specs.declared.step.Told.TheVariants as told
use Rattle.settings.specs.declared.limits.Limits.{Limits}

pub onlooker_right : OnlookerRight
onlooker_right c t w = let g = always c t w in record { ours = g.ours; theirs = g.theirs }

-- while a block is under way, less than the limit was waited
short : (c : Limits) (p : Phase) (w e r n q : ℕ) → At c p w e r n q → (w ≤ send_limit c) × (w ≡ send_limit c → ours_at p ≡ none)
short c Idle w e r n q g = (g.0, λ z. refl)
short c (WaitEot timer tries) w e r n q g = let l = fewer c tries (w + 1) g.1 (omega arith) in (omega arith, λ z. absurd (omega arith))
short c (Draining tries) w e r n q g = let l = fewer c tries (w + 1) g.0 (omega arith) in (omega arith, λ z. absurd (omega arith))
short c (WaitAck timer tries) w e r n q g = let l = fewer c tries (w + 1) g.1 (omega arith) in (omega arith, λ z. absurd (omega arith))
short c (WaitLength timer) w e r n q g = (g.1, λ z. refl)
short c (Body timer a) w e r n q g = (g.1, λ z. refl)
short c (Silence timer fault) w e r n q g = (g.1, λ z. refl)

pub send_ends : SendEnds
send_ends c t w =
    let g = always c t w in
    let s = short c t.line.phase t.seen.waited t.seen.enqs t.seen.took (length t.seen.bytes) t.seen.silent g.counts in
    record { at_most = s.0; over_by_then = λ z. g.ours ∙ s.1 z }

counted : (c : Limits) (p : Phase) (w e r n q : ℕ) → At c p w e r n q → Counts p e
counted c Idle w e r n q g = tt
counted c (WaitEot timer tries) w e r n q g = sym g.3
counted c (Draining tries) w e r n q g = sym g.2
counted c (WaitAck timer tries) w e r n q g = sym g.3
counted c (WaitLength timer) w e r n q g = tt
counted c (Body timer a) w e r n q g = tt
counted c (Silence timer fault) w e r n q g = tt

pub tries_are_enqs : TriesAreEnqs
tries_are_enqs c t w =
    let g = always c t w in
    counted c t.line.phase t.seen.waited t.seen.enqs t.seen.took (length t.seen.bytes) t.seen.silent g.counts

-- what holds of a byte holds of the call in which it comes
by_coming : (x : ℕ) (P : Call → Type 0) → ((b : ℕ) (fits : b < 256) → eqb b x ≡ true → P (byte b fits)) → (k : Call) → comes x k ≡ true → P k
by_coming x P w (byte b fits) i = w b fits i
by_coming x P w tick i = absurd (false≢true i)
by_coming x P w drained i = absurd (false≢true i)
by_coming x P w ask i = absurd (false≢true i)
by_coming x P w withdraw i = absurd (false≢true i)
by_coming x P w settle i = absurd (false≢true i)

-- only where EOT is waited for
at_enquired : (P : Phase → Type 0) → ((timer tries : ℕ) → P (WaitEot timer tries)) → (p : Phase) → ours_at p ≡ enquired → P p
at_enquired P w Idle e = absurd (false≢true cc)
at_enquired P w (WaitEot timer tries) e = w timer tries
at_enquired P w (Draining tries) e = absurd (false≢true cc)
at_enquired P w (WaitAck timer tries) e = absurd (false≢true cc)
at_enquired P w (WaitLength timer) e = absurd (false≢true cc)
at_enquired P w (Body timer a) e = absurd (false≢true cc)
at_enquired P w (Silence timer fault) e = absurd (false≢true cc)

-- only where ACK is
at_left : (P : Phase → Type 0) → ((timer tries : ℕ) → P (WaitAck timer tries)) → (p : Phase) → ours_at p ≡ left → P p
at_left P w Idle e = absurd (false≢true cc)
at_left P w (WaitEot timer tries) e = absurd (false≢true cc)
at_left P w (Draining tries) e = absurd (false≢true cc)
at_left P w (WaitAck timer tries) e = w timer tries
at_left P w (WaitLength timer) e = absurd (false≢true cc)
at_left P w (Body timer a) e = absurd (false≢true cc)
at_left P w (Silence timer fault) e = absurd (false≢true cc)

pub each_enq_its_block : EachEnqItsBlock
unfolding eot_byte
each_enq_its_block c t w e =
    let l = t.line in
    by_coming EOT (λ k. (answered c t k).step.out ≡ Block)
    (λ b fits i. at_enquired (λ p. (byte_of c (line_at l.held p) b t.received).step.out ≡ Block) (λ timer tries. simp i) l.phase (sym (always c t w).ours ∙ e))

pub ack_means_sent : AckMeansSent
unfolding ack_byte
ack_means_sent c t w e =
    let l = t.line in
    by_coming ACK (λ k. (answered c t k).step.told ≡ told.Sent)
    (λ b fits i. at_left (λ p. (byte_of c (line_at l.held p) b t.received).step.told ≡ told.Sent) (λ timer tries. simp i) l.phase (sym (always c t w).ours ∙ e))

pub send_ends_by : SendEndsBy
send_ends_by c t w k =
    let x = after_one c t w k in
    let why = Cause c k t.seen (next c t k).seen (next c t k).received (answered c t k).step.out in
    record { sent = λ e. subst why e x.cause; failed = λ e. subst why e x.cause; gave_way = λ e. subst (Occasion c k t.seen) e x.occasion }
