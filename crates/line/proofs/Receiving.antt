-- A block of the far end: how long a receive takes, when NAK leaves, and what goes up. Assumes nothing.
use Prim.Native.Nat.{ℕ, ◌≤◌, ◌<◌}
use mathlib.Core.Path.{◌≡◌, refl, sym, ap, subst, ◌∙◌}
use mathlib.Core.List.{List, [], ◌∷◌, ◌++◌}
use mathlib.Core.Bool.{Bool, true, false, false≢true}
use native.Mathlib.Omega.{arith}
use lib.Dec.{ltb, eqb}
use lib.ListN.{length}
use borrow.Author.Tests.{le-ltb, eq-eqb, ne_eqb}
use Rattle.wire.specs.Bytes.{pair_of}
use Rattle.line.specs.Line.{line_at, body_byte, low_byte}
use Rattle.line.specs.Codes.{NAK, note_of}
use Rattle.line.specs.History.{Call, byte, tick, drained, ask, withdraw, settle, puts, theirs_at, Track, called, answered, next}
use Rattle.line.specs.Theorems.{receive_limit, ReceiveEnds, NakInTime, patience, NakFor, NakReasons, Reached, IsBlock, UpIsWhatCame, WholeGoesUp}
use Rattle.line.specs.Theorems as why
use Rattle.line.proofs.Cases.{ByByte, by_byte, ByTick, by_tick, by_settle}
use Rattle.line.proofs.Arrivals.{coming_last, coming_short, Refused, bad_length, bad_sum, refused_last, after_count}
use Rattle.line.proofs.Invariant.{At, Holds, Cause, after_refused}
use Rattle.line.proofs.Always.{always, after_one}
use Rattle.line.specs.declared.phase.Phase.{Phase}
use Rattle.line.specs.declared.phase.Phase.TheVariants.{Idle, WaitEot, Draining, WaitAck, WaitLength, Body, Silence}
use Rattle.line.specs.declared.phase.Fault.{Fault}
use Rattle.line.specs.declared.step.Remark.TheVariants as remark
use Rattle.line.specs.declared.step.Told.TheVariants as told
use Rattle.line.specs.declared.step.Step.{Step}
use Rattle.settings.specs.declared.limits.Limits.{Limits}

-- while a block is received, less than the limit was taken
short : (c : Limits) (p : Phase) (w e r q : ℕ) (rs bs : List ℕ) → At c p w e r (length bs) q → (r ≤ receive_limit c (length bs)) × (r ≡ receive_limit c (length bs) → theirs_at p ≡ false)
short c Idle w e r q rs bs g = (g.1, λ z. refl)
short c (WaitEot timer tries) w e r q rs bs g = (g.4, λ z. refl)
short c (Draining tries) w e r q rs bs g = (g.3, λ z. refl)
short c (WaitAck timer tries) w e r q rs bs g = (g.4, λ z. refl)
short c (WaitLength timer) w e r q rs bs g = (omega arith, λ z. absurd (omega arith))
short c (Body timer a) w e r q rs bs g = (omega arith, λ z. absurd (omega arith))
short c (Silence timer fault) w e r q rs bs g = (omega arith, λ z. absurd (omega arith))

pub receive_ends : ReceiveEnds
receive_ends c t w =
    let g = always c t w in
    let s = short c t.line.phase t.seen.waited t.seen.enqs t.seen.took t.seen.silent t.received t.seen.bytes g.counts in
    record { at_most = s.0; over_by_then = λ z. g.theirs ∙ s.1 z }

-- while a block is received, the sender was silent no longer than it may be
patient : (c : Limits) (p : Phase) (w e r q : ℕ) (rs bs : List ℕ) → At c p w e r (length bs) q → Holds p rs bs → theirs_at p ≡ true → q ≤ patience c bs
patient c Idle w e r q rs bs g x z = absurd (false≢true z)
patient c (WaitEot timer tries) w e r q rs bs g x z = absurd (false≢true z)
patient c (Draining tries) w e r q rs bs g x z = absurd (false≢true z)
patient c (WaitAck timer tries) w e r q rs bs g x z = absurd (false≢true z)
patient c (WaitLength timer) w e r q rs bs g x z = rw x (omega arith)
patient c (Body timer a) w e r q rs bs g x z = rw x.came (omega arith)
patient c (Silence timer fault) w e r q rs bs g x z = rw (after_refused c bs fault x) (omega arith)

-- a byte is never answered by NAK
abbrev Mute : Step → Type 0
Mute s = puts NAK s.out ≡ false

no_nak : (c : Limits) (h : Bool) (p : Phase) (b : ℕ) → ByByte Mute c h p b
no_nak c h Idle b = (refl, refl)
no_nak c h (WaitEot timer tries) b = (refl, refl, λ n. refl)
no_nak c h (Draining tries) b = refl
no_nak c h (WaitAck timer tries) b = (refl, refl, refl)
no_nak c h (WaitLength timer) b = (refl, refl)
no_nak c h (Body timer a) b = (λ x. refl, refl, λ f. refl)
no_nak c h (Silence timer fault) b = refl

pub nak_in_time : NakInTime
nak_in_time c t w =
    let g = always c t w in
    record {
      to_no_byte = λ b fits. by_byte Mute c t.line.held t.line.phase b t.received (no_nak c t.line.held t.line.phase b);
      no_sooner = λ k e. (after_one c t w k).nak e;
      no_later = λ e. patient c t.line.phase t.seen.waited t.seen.enqs t.seen.took t.seen.silent t.received t.seen.bytes g.counts g.bytes (sym g.theirs ∙ e);
    }

pub up_is_what_came : UpIsWhatCame
up_is_what_came c t w k n e =
    let x = subst (Cause c k t.seen (next c t k).seen (next c t k).received (answered c t k).step.out) e (after_one c t w k).cause in
    record { whole = x.0; acknowledged = x.1 }

whole_up : (c : Limits) (h : Bool) (p : Phase) (w e r q : ℕ) (rs bs : List ℕ) (b : ℕ) (fits : b < 256) (n : ℕ) (body : List ℕ) → At c p w e r (length bs) q → length rs ≡ 256 → Holds p rs bs → theirs_at p ≡ true → IsBlock n body (bs ++ (b ∷ [])) → (called c (line_at h p) rs (byte b fits)).step.told ≡ told.Up n
unfolding body_byte low_byte
whole_up c h Idle w e r q rs bs b fits n body g m x z k = absurd (false≢true z)
whole_up c h (WaitEot timer tries) w e r q rs bs b fits n body g m x z k = absurd (false≢true z)
whole_up c h (Draining tries) w e r q rs bs b fits n body g m x z k = absurd (false≢true z)
whole_up c h (WaitAck timer tries) w e r q rs bs b fits n body g m x z k = absurd (false≢true z)
whole_up c h (WaitLength timer) w e r q rs bs b fits n body g m x z k =
    absurd (omega (arith, after_count n b body [] (bs ++ (b ∷ [])) (rw x refl) k))
whole_up c h (Body timer a) w e r q rs bs b fits n body g m x z k =
    let l = coming_last a b n rs bs body m g.5 x k in
    let over : ltb a.got a.length ≡ false = le-ltb a.got a.length (omega (arith, l.1)) in
    let not_high : eqb a.got a.length ≡ false = ne_eqb a.got a.length (λ same. omega (arith, l.1)) in
    simp (over, not_high, eq-eqb (pair_of a.high b) a.sum l.2) (ap told.Up (sym l.0))
whole_up c h (Silence timer fault) w e r q rs bs b fits n body g m x z k = absurd (refused_last bs b n body fault x k)

pub whole_goes_up : WholeGoesUp
whole_goes_up c t w e b fits n body k =
    let g = always c t w in
    whole_up c t.line.held t.line.phase t.seen.waited t.seen.enqs t.seen.took t.seen.silent t.received t.seen.bytes b fits n body
    g.counts g.room g.bytes (sym g.theirs ∙ e) k

-- ---- why a NAK leaves

refused_for : (bs : List ℕ) (f : Fault) → Refused bs f → NakFor bs (remark.Bad f)
refused_for bs _ (bad_length x xs e out) = why.bad_length x xs e out
refused_for bs _ (bad_sum n body high low rest e ten most size other) = why.bad_sum n body high low rest e ten most size other

abbrev Says : List ℕ → Step → Type 0
Says bs z = (puts NAK z.out ≡ true → NakFor bs z.remark) × (puts NAK z.out ≡ false → note_of z.remark ≡ 20)

-- no NAK
silent : {A B : Type 0} → B → (false ≡ true → A) × (false ≡ false → B)
silent b = (λ e. absurd (false≢true e), λ e. b)

-- one for this reason
for : {A B : Type 0} → A → (true ≡ true → A) × (true ≡ false → B)
for a = (λ e. a, λ e. absurd (false≢true (sym e)))

byte_says : (bs : List ℕ) (c : Limits) (h : Bool) (p : Phase) (b : ℕ) → ByByte (Says bs) c h p b
byte_says bs c h Idle b = (silent refl, silent refl)
byte_says bs c h (WaitEot timer tries) b = (silent refl, silent refl, λ n. silent refl)
byte_says bs c h (Draining tries) b = silent refl
byte_says bs c h (WaitAck timer tries) b = (silent refl, silent refl, silent refl)
byte_says bs c h (WaitLength timer) b = (silent refl, silent refl)
byte_says bs c h (Body timer a) b = (λ x. silent refl, silent refl, λ f. silent refl)
byte_says bs c h (Silence timer fault) b = silent refl

tick_says : (c : Limits) (h : Bool) (p : Phase) (w e r q : ℕ) (rs bs : List ℕ) → At c p w e r (length bs) q → length rs ≡ 256 → Holds p rs bs → ByTick (Says bs) c h p
tick_says c h Idle w e r q rs bs g m x = silent refl
tick_says c h (WaitEot timer tries) w e r q rs bs g m x = (silent refl, silent refl, silent refl)
tick_says c h (Draining tries) w e r q rs bs g m x = silent refl
tick_says c h (WaitAck timer tries) w e r q rs bs g m x = (silent refl, silent refl, silent refl)
tick_says c h (WaitLength timer) w e r q rs bs g m x = (for (why.no_length x), silent refl)
tick_says c h (Body timer a) w e r q rs bs g m x =
    (for (why.gap a.length x.after x.came g.4 g.5 (coming_short a rs bs g.5 m x)), silent refl)
tick_says c h (Silence timer fault) w e r q rs bs g m x = (for (refused_for bs fault x), silent refl)

said_by : (c : Limits) (t : Track) → Reached c t → (k : Call) → Says t.seen.bytes (answered c t k).step
said_by c t w (byte b fits) =
    by_byte (Says t.seen.bytes) c t.line.held t.line.phase b t.received (byte_says t.seen.bytes c t.line.held t.line.phase b)
said_by c t w tick =
    let g = always c t w in
    by_tick (Says t.seen.bytes) c t.line.held t.line.phase
    (tick_says c t.line.held t.line.phase t.seen.waited t.seen.enqs t.seen.took t.seen.silent t.received t.seen.bytes g.counts g.room g.bytes)
said_by c t w drained = silent refl
said_by c t w ask = silent refl
said_by c t w withdraw = silent refl
said_by c t w settle = by_settle (Says t.seen.bytes) t.line.held t.line.phase (silent refl) (silent refl)

pub nak_reasons : NakReasons
nak_reasons c t w k = let s = said_by c t w k in record { why = s.0; else_none = s.1 }
