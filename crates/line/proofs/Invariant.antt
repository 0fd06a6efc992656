-- What holds of a line and its onlooker after any calls from a fresh start, and what one call more leaves. Assumes nothing.
use Prim.Native.Nat.{ℕ, ◌+◌, ◌*◌, ◌≤◌, ◌<◌}
use mathlib.Core.Path.{◌≡◌, refl, sym, ◌∙◌}
use mathlib.Core.List.{List, []}
use mathlib.Core.Bool.{Bool, true, false, cond, false≢true}
use native.Mathlib.Omega.{arith}
use native.Mathlib.Nat.{mul-le-mul_right}
use lib.Dec.{ltb, eqb}
use lib.ListN.{length, take, length-set}
use borrow.Author.Tests.{ltb-true, ltb-false, eqb-true, eqb-false}
use Rattle.wire.proofs.Choice.{chosen, judged}
use Rattle.wire.specs.Bytes.{pair_of}
use Rattle.wire.specs.Sum.{sum_with}
use Rattle.settings.specs.Panel.{between}
use Rattle.settings.proofs.Panels.{in_between}
use Rattle.settings.proofs.Timers.{by_timer}
use Rattle.line.specs.Codes.{ENQ, EOT, ACK, NAK}
use Rattle.line.specs.Line.{line_at, holding, give_way, eot_byte, ack_byte, eot_tick, ack_tick, length_byte, low_byte, body_byte, length_tick, body_tick, silence_tick, idle_byte, settle_idle, Heard, heard, stays, yields, takes, listens, opened}
use Rattle.line.specs.History.{Call, byte, tick, drained, ask, withdraw, settle, comes, enquired, left, ours_at, theirs_at, begins, Seen, Track, leaves, called, puts}
use Rattle.line.specs.Theorems.{send_limit, receive_limit, patience, IsBlock}
use Rattle.line.proofs.Retrying.{retried}
use Rattle.line.proofs.Arrivals.{snoc, Coming, coming_opened, coming_byte, coming_high, coming_low, coming_wrong, Refused, bad_length, bad_sum, refused_more}
use Rattle.line.specs.declared.phase.Phase.{Phase}
use Rattle.line.specs.declared.phase.Phase.TheVariants.{Idle, WaitEot, Draining, WaitAck, WaitLength, Body, Silence}
use Rattle.line.specs.declared.phase.Fault.{Fault}
use Rattle.line.specs.declared.phase.Fault.TheVariants.{Length}
use Rattle.line.specs.declared.step.Out.{Out}
use Rattle.line.specs.declared.step.Out.TheVariants.{Code}
use Rattle.line.specs.declared.step.Told.{Told}
use Rattle.line.specs.declared.step.Told.TheVariants as told
use Rattle.line.specs.declared.step.Remark.{Remark}
use Rattle.line.specs.declared.step.Remark.TheVariants as remark
use Rattle.settings.specs.declared.limits.Limits.{Limits}
use Rattle.line.specs.declared.step.Step.{Step}

-- ---- the counts

-- ticks that one attempt may wait
abbrev pub per_try : Limits → ℕ
per_try c = 2 * c.t2.0 + 1

-- at each phase, of the line's numbers and the onlooker's: waited w, enqs e, took r, n bytes came, silent q
abbrev pub At : Limits → Phase → ℕ → ℕ → ℕ → ℕ → ℕ → Type 0
At c Idle w e r n q = (w ≤ send_limit c) × (r ≤ receive_limit c n)
At c (WaitEot timer tries) w e r n q =
    (timer ≤ c.t2.0) × (tries ≤ c.rty) × (w ≤ tries * per_try c + timer) × (e ≡ tries + 1) × (r ≤ receive_limit c n)
At c (Draining tries) w e r n q = (tries ≤ c.rty) × (w ≤ tries * per_try c + c.t2.0) × (e ≡ tries + 1) × (r ≤ receive_limit c n)
At c (WaitAck timer tries) w e r n q =
    (timer ≤ c.t2.0) × (tries ≤ c.rty) × (w ≤ tries * per_try c + c.t2.0 + timer) × (e ≡ tries + 1) × (r ≤ receive_limit c n)
At c (WaitLength timer) w e r n q = (timer ≤ c.t2.0) × (w ≤ send_limit c) × (r ≡ timer) × (q ≡ timer)
At c (Body timer a) w e r n q =
    (timer ≤ c.t1.0) × (w ≤ send_limit c) × (r + c.t1.0 ≤ c.t2.0 + n * c.t1.0 + timer) × (q ≡ timer)
    × (10 ≤ a.length) × (a.length ≤ 254) × (a.got ≤ a.length + 1) × (a.sum ≤ 255 * a.got) × (a.sum ≤ 255 * a.length)
At c (Silence timer fault) w e r n q =
    (timer ≤ c.t1.0) × (w ≤ send_limit c) × (r + c.t1.0 ≤ c.t2.0 + n * c.t1.0 + timer) × (q ≡ timer)

-- ---- the bytes

-- no block is held while one is under way
abbrev pub Free : Phase → Bool → Type 0
Free Idle h = Unit {0}
Free (WaitEot timer tries) h = h ≡ false
Free (Draining tries) h = h ≡ false
Free (WaitAck timer tries) h = h ≡ false
Free (WaitLength timer) h = Unit {0}
Free (Body timer a) h = Unit {0}
Free (Silence timer fault) h = Unit {0}

-- at each phase, of the received bytes rs and the bytes bs since our EOT
abbrev pub Holds : Phase → List ℕ → List ℕ → Type 0
Holds Idle rs bs = Unit {0}
Holds (WaitEot timer tries) rs bs = Unit {0}
Holds (Draining tries) rs bs = Unit {0}
Holds (WaitAck timer tries) rs bs = Unit {0}
Holds (WaitLength timer) rs bs = bs ≡ []
Holds (Body timer a) rs bs = Coming a rs bs
Holds (Silence timer fault) rs bs = Refused bs fault

pub record Good (c : Limits) (t : Track) : Type 0 where
  pub ours : t.seen.ours ≡ ours_at t.line.phase
  pub theirs : t.seen.theirs ≡ theirs_at t.line.phase
  pub owed : t.seen.owed ≡ t.line.held
  pub counts : At c t.line.phase t.seen.waited t.seen.enqs t.seen.took (length t.seen.bytes) t.seen.silent
  pub free : Free t.line.phase t.line.held
  pub room : length t.received ≡ 256
  pub bytes : Holds t.line.phase t.received t.seen.bytes

-- ---- what a call answers

-- why something is told: the onlooker before the call saw s, and after it s'
abbrev pub Cause : Limits → Call → Seen → Seen → List ℕ → Out → Told → Type 0
Cause c k s s' rs o told.Nothing = Unit {0}
Cause c k s s' rs o told.PutOut = (s.ours ≡ enquired) × (comes EOT k ≡ true)
Cause c k s s' rs o told.Sent = (s.ours ≡ left) × (comes ACK k ≡ true)
Cause c k s s' rs o told.Failed = s'.enqs ≡ c.rty + 1
Cause c k s s' rs o (told.Up n) = IsBlock n (take n rs) s'.bytes × (o ≡ Code ACK)

-- why something is remarked
abbrev pub Occasion : Limits → Call → Seen → Remark → Type 0
Occasion c k s remark.Nothing = Unit {0}
Occasion c k s remark.GaveWay = (c.master ≡ false) × (s.ours ≡ enquired) × (comes ENQ k ≡ true)
Occasion c k s remark.NoLength = Unit {0}
Occasion c k s remark.Gap = Unit {0}
Occasion c k s (remark.Bad fault) = Unit {0}

pub record Kept (c : Limits) (s : Seen) (k : Call) (h : Heard) : Type 0 where
  pub good : Good c (leaves s k h)
  pub cause : Cause c k s (leaves s k h).seen h.received h.step.out h.step.told
  pub occasion : Occasion c k s h.step.remark
  pub nak : puts NAK h.step.out ≡ true → (leaves s k h).seen.silent ≡ patience c (leaves s k h).seen.bytes + 1
  pub first : begins s.ours h.step.out ≡ true → s.owed ≡ true

-- what the onlooker has seen of a line
abbrev pub seen_at : Bool → Phase → ℕ → ℕ → ℕ → List ℕ → ℕ → Seen
seen_at h p w e r bs q = record { ours = ours_at p; owed = h; waited = w; enqs = e; theirs = theirs_at p; took = r; bytes = bs; silent = q }

-- this test fails
never : {A : Type 0} → false ≡ true → A
never e = absurd (false≢true e)

-- a pair whose types are not known yet
also : {A B : Type 0} → A → B → A × B
also a b = (a, b)

-- what a call leaves is good where the onlooker is right, the counts are, no block is held that should not be, and the array
-- and the bytes are right
abbrev Leads : Limits → Seen → Call → Heard → Type 0
Leads c s k h =
    begins s.ours h.step.out ≡ false
    → (leaves s k h).seen.ours ≡ ours_at h.step.line.phase
    → (leaves s k h).seen.theirs ≡ theirs_at h.step.line.phase
    → (leaves s k h).seen.owed ≡ h.step.line.held
    → At c h.step.line.phase (leaves s k h).seen.waited (leaves s k h).seen.enqs (leaves s k h).seen.took (length (leaves s k h).seen.bytes) (leaves s k h).seen.silent
    → Free h.step.line.phase h.step.line.held
    → length h.received ≡ 256
    → Holds h.step.line.phase h.received (leaves s k h).seen.bytes
    → Kept c s k h

-- a call that has a cause to tell something, or an occasion to remark it, or to send NAK
said :
    {c : Limits} {s : Seen} {k : Call} {h : Heard}
    → Cause c k s (leaves s k h).seen h.received h.step.out h.step.told
    → Occasion c k s h.step.remark
    → (puts NAK h.step.out ≡ true → (leaves s k h).seen.silent ≡ patience c (leaves s k h).seen.bytes + 1)
    → Leads c s k h
said why when nak more o t d g f m b =
    record {
      good = record { ours = o; theirs = t; owed = d; counts = g; free = f; room = m; bytes = b };
      cause = why;
      occasion = when;
      nak = nak;
      first = λ z. never (sym more ∙ z);
    }

-- one that tells and remarks nothing and sends no NAK
kept :
    {c : Limits} {s : Seen} {k : Call} {h : Heard}
    → h.step.told ≡ told.Nothing → h.step.remark ≡ remark.Nothing → puts NAK h.step.out ≡ false → Leads c s k h
kept t r other more o th d g f m b = said (rw t tt) (rw r tt) (λ z. never (sym other ∙ z)) more o th d g f m b

-- what all attempts up to this one may wait is within the limit
pub fewer : (c : Limits) (tries w : ℕ) → tries ≤ c.rty → w ≤ (tries + 1) * per_try c → w ≤ send_limit c
fewer c tries w few short =
    let m : tries + 1 ≤ c.rty + 1 = omega arith in
    omega (arith, mul-le-mul_right (per_try c) m)

-- the length byte of a block that is not taken has come
pub after_refused : (c : Limits) (bs : List ℕ) (f : Fault) → Refused bs f → patience c bs ≡ c.t1.0
after_refused c bs _ (bad_length x xs e out) = rw e refl
after_refused c bs _ (bad_sum n body high low rest e ten most size other) = rw e refl

-- what call k leaves of a line and its onlooker
abbrev Leaves : Limits → Bool → Phase → List ℕ → ℕ → ℕ → ℕ → List ℕ → ℕ → Call → Type 0
Leaves c h p rs w e r bs q k =
    At c p w e r (length bs) q → Free p h → length rs ≡ 256 → Holds p rs bs
    → Kept c (seen_at h p w e r bs q) k (called c (line_at h p) rs k)

at_byte : (c : Limits) (h : Bool) (p : Phase) (rs : List ℕ) (w e r : ℕ) (bs : List ℕ) (q b : ℕ) (fits : b < 256) → Leaves c h p rs w e r bs q (byte b fits)
unfolding idle_byte eot_byte give_way holding ack_byte length_byte body_byte low_byte sum_with
at_byte c h Idle rs w e r bs q b fits g f m x =
    chosen (λ s. Kept c (seen_at h Idle w e r bs q) (byte b fits) (heard s rs)) (eqb b ENQ) _ _
    (λ i. kept refl refl refl refl refl refl refl (omega arith) tt m refl) (λ i. kept refl refl refl refl refl refl refl g tt m tt)
at_byte c h (WaitEot timer tries) rs w e r bs q b fits g f m x =
    let l = line_at h (WaitEot timer tries) in
    let P : Step → Type 0 = λ s. Kept c (seen_at h (WaitEot timer tries) w e r bs q) (byte b fits) (heard s rs) in
    let n : At c (WaitLength 0) w e 0 0 0 = (omega arith, fewer c tries w g.1 (omega arith), refl, refl) in
    chosen P (eqb b EOT) _ _ (λ i. said (also refl i) tt never refl refl refl refl (omega arith) f m tt)
    (λ i. chosen P (eqb b ENQ) _ _
    (λ j. chosen P c.master (stays l) (yields l) (λ y. kept refl refl refl refl refl refl refl (omega arith) f m tt)
    (λ y.
    let why : (c.master ≡ false) × (enquired ≡ enquired) × (eqb b ENQ ≡ true) = (y, refl, j) in
    said tt why never refl refl refl refl n tt m refl))
    (λ j. kept refl refl refl refl refl refl refl (omega arith) f m tt))
at_byte c h (Draining tries) rs w e r bs q b fits g f m x = kept refl refl refl refl refl refl refl g f m tt
at_byte c h (WaitAck timer tries) rs w e r bs q b fits g f m x =
    let P : Step → Type 0 = λ s. Kept c (seen_at h (WaitAck timer tries) w e r bs q) (byte b fits) (heard s rs) in
    chosen P (eqb b ACK) _ _ (λ i. said (also refl i) tt never refl refl refl refl (also (fewer c tries w g.1 (omega arith)) g.4) tt m tt)
    (λ i. retried P c _ tries
    (λ j. said (omega arith) tt never refl refl refl refl (also (fewer c tries w g.1 (omega arith)) g.4) tt m tt)
    (λ j. kept refl refl refl refl refl refl refl (omega arith) f m tt))
at_byte c h (WaitLength timer) rs w e r bs q b fits g f m x =
    let l = line_at h (WaitLength timer) in
    rw x
    (judged (between 10 b 254) (in_between 10 b 254)
    (λ t. Kept c (seen_at h (WaitLength timer) w e r [] q) (byte b fits) (heard (cond t (takes l (opened b)) (listens l Length)) rs))
    (λ i. kept refl refl refl refl refl refl refl (omega (arith, i.0, i.1)) tt m (coming_opened b rs))
    (λ i. kept refl refl refl refl refl refl refl (omega arith) tt m (bad_length b [] refl (λ ten most. i (ten, most)))))
at_byte c h (Body timer a) rs w e r bs q b fits g f m x =
    let P : Heard → Type 0 = λ h'. Kept c (seen_at h (Body timer a) w e r bs q) (byte b fits) h' in
    chosen P (ltb a.got a.length) _ _
    (λ i. kept refl refl refl refl refl refl refl (rw (snoc bs b) (omega (arith, ltb-true))) tt (length-set rs a.got b ∙ m)
    (coming_byte a b rs bs (ltb-true _ _ i) (omega (arith, ltb-true)) x))
    (λ i. chosen P (eqb a.got a.length) _ _
    (λ j. kept refl refl refl refl refl refl refl (rw (snoc bs b) (omega (arith, eqb-true))) tt m (coming_high a b rs bs (eqb-true _ _ j) x))
    (λ j. chosen (λ s. P (heard s rs)) (eqb (pair_of a.high b) a.sum) _ _
    (λ l. said (also (coming_low a b rs bs g.4 g.5 m (ltb-false _ _ i) (eqb-false _ _ j) fits (eqb-true _ _ l) x) refl) tt never refl refl refl refl (also g.1 (rw (snoc bs b) (omega arith))) tt m tt)
    (λ l. kept refl refl refl refl refl refl refl (rw (snoc bs b) (omega arith)) tt m (coming_wrong a b rs bs g.4 g.5 m (ltb-false _ _ i) (eqb-false _ _ j) (eqb-false _ _ l) x))))
at_byte c h (Silence timer fault) rs w e r bs q b fits g f m x = kept refl refl refl refl refl refl refl (rw (snoc bs b) (omega arith)) tt m (refused_more bs b fault x)

at_tick : (c : Limits) (h : Bool) (p : Phase) (rs : List ℕ) (w e r : ℕ) (bs : List ℕ) (q : ℕ) → Leaves c h p rs w e r bs q tick
at_tick c h Idle rs w e r bs q g f m x = kept refl refl refl refl refl refl refl g tt m tt
at_tick c h (WaitEot timer tries) rs w e r bs q g f m x =
    let P : Step → Type 0 = λ s. Kept c (seen_at h (WaitEot timer tries) w e r bs q) tick (heard s rs) in
    by_timer c.t2 timer (λ t. P (eot_tick c (line_at h (WaitEot timer tries)) tries t))
    (λ i. retried P c _ tries
    (λ j. said (omega arith) tt never refl refl refl refl (also (fewer c tries (w + 1) g.1 (omega arith)) g.4) tt m tt)
    (λ j. kept refl refl refl refl refl refl refl (omega arith) f m tt))
    (λ i. kept refl refl refl refl refl refl refl (omega arith) f m tt)
at_tick c h (Draining tries) rs w e r bs q g f m x = kept refl refl refl refl refl refl refl g f m tt
at_tick c h (WaitAck timer tries) rs w e r bs q g f m x =
    let P : Step → Type 0 = λ s. Kept c (seen_at h (WaitAck timer tries) w e r bs q) tick (heard s rs) in
    by_timer c.t2 timer (λ t. P (ack_tick c (line_at h (WaitAck timer tries)) tries t))
    (λ i. retried P c _ tries
    (λ j. said (omega arith) tt never refl refl refl refl (also (fewer c tries (w + 1) g.1 (omega arith)) g.4) tt m tt)
    (λ j. kept refl refl refl refl refl refl refl (omega arith) f m tt))
    (λ i. kept refl refl refl refl refl refl refl (omega arith) f m tt)
at_tick c h (WaitLength timer) rs w e r bs q g f m x =
    by_timer c.t2 timer (λ t. Kept c (seen_at h (WaitLength timer) w e r bs q) tick (heard (length_tick (line_at h (WaitLength timer)) t) rs))
    (λ i. said tt tt (λ z. rw x (omega arith)) refl refl refl refl (omega arith) tt m tt) (λ i. kept refl refl refl refl refl refl refl (omega arith) tt m x)
at_tick c h (Body timer a) rs w e r bs q g f m x =
    by_timer c.t1 timer (λ t. Kept c (seen_at h (Body timer a) w e r bs q) tick (heard (body_tick (line_at h (Body timer a)) a t) rs))
    (λ i. said tt tt (λ z. rw x.came (omega arith)) refl refl refl refl (omega arith) tt m tt) (λ i. kept refl refl refl refl refl refl refl (omega arith) tt m x)
at_tick c h (Silence timer fault) rs w e r bs q g f m x =
    by_timer c.t1 timer (λ t. Kept c (seen_at h (Silence timer fault) w e r bs q) tick (heard (silence_tick (line_at h (Silence timer fault)) fault t) rs))
    (λ i. said tt tt (λ z. rw (after_refused c bs fault x) (omega arith)) refl refl refl refl (omega arith) tt m tt) (λ i. kept refl refl refl refl refl refl refl (omega arith) tt m x)

at_drained : (c : Limits) (h : Bool) (p : Phase) (rs : List ℕ) (w e r : ℕ) (bs : List ℕ) (q : ℕ) → Leaves c h p rs w e r bs q drained
at_drained c h Idle rs w e r bs q g f m x = kept refl refl refl refl refl refl refl g tt m tt
at_drained c h (WaitEot timer tries) rs w e r bs q g f m x = kept refl refl refl refl refl refl refl g f m tt
at_drained c h (Draining tries) rs w e r bs q g f m x = kept refl refl refl refl refl refl refl (omega arith) f m tt
at_drained c h (WaitAck timer tries) rs w e r bs q g f m x = kept refl refl refl refl refl refl refl (omega arith) f m tt
at_drained c h (WaitLength timer) rs w e r bs q g f m x = kept refl refl refl refl refl refl refl g tt m x
at_drained c h (Body timer a) rs w e r bs q g f m x = kept refl refl refl refl refl refl refl g tt m x
at_drained c h (Silence timer fault) rs w e r bs q g f m x = kept refl refl refl refl refl refl refl g tt m x

at_ask : (c : Limits) (h : Bool) (p : Phase) (rs : List ℕ) (w e r : ℕ) (bs : List ℕ) (q : ℕ) → Leaves c h p rs w e r bs q ask
unfolding holding
at_ask c h Idle rs w e r bs q g f m x = kept refl refl refl refl refl refl refl g tt m tt
at_ask c h (WaitEot timer tries) rs w e r bs q g f m x = kept refl refl refl refl refl refl refl g f m tt
at_ask c h (Draining tries) rs w e r bs q g f m x = kept refl refl refl refl refl refl refl g f m tt
at_ask c h (WaitAck timer tries) rs w e r bs q g f m x = kept refl refl refl refl refl refl refl g f m tt
at_ask c h (WaitLength timer) rs w e r bs q g f m x = kept refl refl refl refl refl refl refl g tt m x
at_ask c h (Body timer a) rs w e r bs q g f m x = kept refl refl refl refl refl refl refl g tt m x
at_ask c h (Silence timer fault) rs w e r bs q g f m x = kept refl refl refl refl refl refl refl g tt m x

at_settle : (c : Limits) (h : Bool) (p : Phase) (rs : List ℕ) (w e r : ℕ) (bs : List ℕ) (q : ℕ) → Leaves c h p rs w e r bs q settle
unfolding settle_idle
at_settle c true Idle rs w e r bs q g f m x =
    record {
      good = record { ours = refl; theirs = refl; owed = refl; counts = omega arith; free = refl; room = m; bytes = tt };
      cause = tt;
      occasion = tt;
      nak = never;
      first = λ z. refl;
    }
at_settle c false Idle rs w e r bs q g f m x = kept refl refl refl refl refl refl refl g tt m tt
at_settle c h (WaitEot timer tries) rs w e r bs q g f m x = kept refl refl refl refl refl refl refl g f m tt
at_settle c h (Draining tries) rs w e r bs q g f m x = kept refl refl refl refl refl refl refl g f m tt
at_settle c h (WaitAck timer tries) rs w e r bs q g f m x = kept refl refl refl refl refl refl refl g f m tt
at_settle c h (WaitLength timer) rs w e r bs q g f m x = kept refl refl refl refl refl refl refl g tt m x
at_settle c h (Body timer a) rs w e r bs q g f m x = kept refl refl refl refl refl refl refl g tt m x
at_settle c h (Silence timer fault) rs w e r bs q g f m x = kept refl refl refl refl refl refl refl g tt m x

-- a withdrawal is the same at every phase
none_held : (p : Phase) → Free p false
none_held Idle = tt
none_held (WaitEot timer tries) = refl
none_held (Draining tries) = refl
none_held (WaitAck timer tries) = refl
none_held (WaitLength timer) = tt
none_held (Body timer a) = tt
none_held (Silence timer fault) = tt

pub step : (c : Limits) (h : Bool) (p : Phase) (rs : List ℕ) (w e r : ℕ) (bs : List ℕ) (q : ℕ) (k : Call) → Leaves c h p rs w e r bs q k
step c h p rs w e r bs q (byte b fits) = at_byte c h p rs w e r bs q b fits
step c h p rs w e r bs q tick = at_tick c h p rs w e r bs q
step c h p rs w e r bs q drained = at_drained c h p rs w e r bs q
step c h p rs w e r bs q ask = at_ask c h p rs w e r bs q
step c h p rs w e r bs q withdraw = λ g f m x. kept refl refl refl refl refl refl refl g (none_held p) m x
step c h p rs w e r bs q settle = at_settle c h p rs w e r bs q
