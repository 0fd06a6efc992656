-- One call of the unit, seen at the door and inside: what leaves, whether a message is being sent, and whether it is another one, tell the
-- onlooker at the door what the calls of the line, its output and what it tells and remarks tell the onlooker of the line. Assumes nothing.
use Prim.Native.Nat.{ℕ, ◌+◌, ◌<◌}
use mathlib.Core.Path.{◌≡◌, refl, sym, ap, subst, ◌∙◌}
use mathlib.Core.List.{List, [], ◌∷◌, ◌++◌}
use mathlib.Core.Bool.{Bool, true, false, false≢true}
use mathlib.Core.Logic.{◌⊎◌, ⊎_elim}
use lib.Dec.{eqb}
use Rattle.wire.proofs.Choice.{either, chosen}
use Rattle.settings.specs.declared.limits.Limits.{Limits}
use Rattle.line.specs.Codes.{ENQ, EOT, ACK, bytes_out}
use Rattle.line.specs.Line.{Heard, heard, line_at, byte_of, tick_of, drained_of, ask_of, holding, settle_idle, busy, stays, eot_byte, give_way, yields, sends, succeeds, fails, again, rises, naks}
use Rattle.line.specs.History as line
use Rattle.line.specs.History.{Ours, none, enquired, leaving, left, ours_at, theirs_at, Seen, leaves, track}
use Rattle.line.proofs.Invariant.{Kept}
use Rattle.line.proofs.Cases.{ByByte, by_byte as line_byte, ByTick, by_tick as line_tick}
use Rattle.line.specs.declared.phase.Phase.{Phase}
use Rattle.line.specs.declared.phase.Phase.TheVariants.{Idle, WaitEot, Draining, WaitAck, WaitLength, Body, Silence}
use Rattle.line.specs.declared.step.Told.{Told}
use Rattle.line.specs.declared.step.Told.TheVariants as told
use Rattle.line.specs.declared.step.Remark.{Remark}
use Rattle.line.specs.declared.step.Remark.TheVariants as remark
use Rattle.line.specs.declared.step.Step.{Step}
use Rattle.line.specs.declared.line.Line.{Line}
use Rattle.link.specs.History.{settling, settles}
use Rattle.link.specs.Door.{closes, is_block, line_bytes, on_way, sees, watch_of, OverBy, Stops, sent, failed, gave_way, tried_after, SendTimer}
use Rattle.link.proofs.door.Courier.{Fate, going, begun, ended, is_other, called_for, May}

-- ---- a line at the end of a call

-- a block is held only while the line is receiving
abbrev pub Calm : Phase → Bool → Type 0
Calm Idle h = h ≡ false
Calm (WaitEot timer tries) h = h ≡ false
Calm (Draining tries) h = h ≡ false
Calm (WaitAck timer tries) h = h ≡ false
Calm (WaitLength timer) h = Unit {0}
Calm (Body timer a) h = Unit {0}
Calm (Silence timer fault) h = Unit {0}

abbrev pub Settled : Line → Type 0
Settled l = Calm l.phase l.held

-- ---- the rest of a call, once its first step has left h

-- What the two onlookers see of it is the same; a block is then held only while the line is receiving; if ACK or NAK leaves, or a send is
-- over, it is as it should be; and the timer of a wait of ours stands at the ticks since that wait began.
abbrev pub Alike : Limits → Phase → Seen → line.Call → List ℕ → Bool → line.Track → Type 0
Alike c p s k bs other t =
    (sees (watch_of s) k bs (busy t.line) other ≡ watch_of t.seen)
    × Settled t.line
    × (closes bs ≡ true → OverBy c k bs (busy t.line) (watch_of t.seen))
    × (on_way s.ours ≡ true → (on_way t.seen.ours ≡ false) ⊎ (other ≡ true) → Stops c (watch_of s) k bs (busy t.line) other)
    × ((n : ℕ) → SendTimer p n → SendTimer t.line.phase (tried_after s.ours n k bs))

abbrev Same : Limits → Phase → Seen → line.Call → List ℕ → List line.Call → Bool → Heard → Type 0
Same c p s k block ks other h =
    Alike c p s k (bytes_out block h.step.out ++ line_bytes c h.step.line h.received block ks) other (track c (leaves s k h) ks)

abbrev is_enquired : Ours → Bool
is_enquired none = false
is_enquired enquired = true
is_enquired leaving = false
is_enquired left = false

-- EOT is not waited for there
elsewhere : {A : Type 0} {o : Ours} → o ≡ enquired → is_enquired o ≡ false → A
elsewhere e f = absurd (false≢true (sym f ∙ ap is_enquired e))

-- "Other bytes are dropped and do not touch the timer.": where EOT is waited for
abbrev pub Untouched : Phase → Phase → Type 0
Untouched p q = ours_at p ≡ enquired → (n : ℕ) → SendTimer p n → SendTimer q n

-- What is known of each step of a line: what it keeps; that an ACK that is waited for means sent; that a byte does not touch the timer of
-- the wait for EOT.
pub record Known (c : Limits) (p : Phase) (s : Seen) (k : line.Call) (h : Heard) : Type 0 where
  pub kept : Kept c s k h
  pub ack : s.ours ≡ left → line.comes ACK k ≡ true → h.step.told ≡ told.Sent
  pub untouched : (b : ℕ) (fits : b < 256) → k ≡ line.byte b fits → Untouched p h.step.line.phase

pub byte_untouched : (c : Limits) (h : Bool) (p : Phase) (b : ℕ) (rs : List ℕ) → Untouched p (byte_of c (line_at h p) b rs).step.line.phase
unfolding eot_byte give_way
byte_untouched c h Idle b rs o n e = elsewhere o refl
byte_untouched c h (WaitEot timer tries) b rs o n e =
    let l = line_at h (WaitEot timer tries) in
    let P : Step → Type 0 = λ s. SendTimer s.line.phase n in
    chosen P (eqb b EOT) _ _ (λ i. tt) (λ i. chosen P (eqb b ENQ) _ _ (λ j. chosen P c.master (stays l) (yields l) (λ m. e) (λ m. tt)) (λ j. e))
byte_untouched c h (Draining tries) b rs o n e = elsewhere o refl
byte_untouched c h (WaitAck timer tries) b rs o n e = elsewhere o refl
byte_untouched c h (WaitLength timer) b rs o n e = elsewhere o refl
byte_untouched c h (Body timer a) b rs o n e = elsewhere o refl
byte_untouched c h (Silence timer fault) b rs o n e = elsewhere o refl

-- by that, after a byte or a tick: whatever becomes of what is being sent, as far as it may, and whatever bytes were received. `before` is
-- whether the line was busy.
abbrev AfterByte : Limits → Phase → Seen → List ℕ → (b : ℕ) → b < 256 → Bool → Fate → Step → Type 0
AfterByte c p s block b fits before f h =
    (rs : List ℕ) → Known c p s (line.byte b fits) (heard h rs) → May h.told before f
    → Same c p s (line.byte b fits) block (settles h.out (called_for f h.told)) (is_other f) (heard h rs)

abbrev AfterTick : Limits → Phase → Seen → List ℕ → Bool → Fate → Step → Type 0
AfterTick c p s block before f h =
    (rs : List ℕ) → Known c p s line.tick (heard h rs) → May h.told before f
    → Same c p s line.tick block (settling (called_for f h.told)) (is_other f) (heard h rs)

-- no code leaves that ends a receive; no send was under way; it is still, and the same; the line was busy
never : {A : Type 0} → false ≡ true → A
never e = absurd (false≢true e)

still : {A : Type 0} → true ≡ true → (true ≡ false) ⊎ (false ≡ true) → A
still on gone = ⊎_elim (λ e. never (sym e)) never gone

taken : {A : Type 0} → true ≡ false → A
taken e = never (sym e)

-- what the onlooker has seen, of a line at this phase
abbrev seen_at : Seen → Phase → Seen
seen_at s p = record {
  ours = ours_at p;
  owed = s.owed;
  waited = s.waited;
  enqs = s.enqs;
  theirs = theirs_at p;
  took = s.took;
  bytes = s.bytes;
  silent = s.silent;
}

-- a whole block is no code
whole : (P : List ℕ → Type 0) (block : List ℕ) → is_block block ≡ true → ((a b c : ℕ) (bs : List ℕ) → P (a ∷ b ∷ c ∷ bs)) → P block
whole P [] e long = never e
whole P (a ∷ []) e long = never e
whole P (a ∷ b ∷ []) e long = never e
whole P (a ∷ b ∷ c ∷ bs) e long = long a b c bs

-- what tells nothing does not tell that it was sent
abbrev pub is_sent : Told → Bool
is_sent told.Nothing = false
is_sent told.PutOut = false
is_sent told.Sent = true
is_sent told.Failed = false
is_sent (told.Up n) = false

module _ (c : Limits) (block : List ℕ) (s : Seen) where
  abbrev seen : Phase → Seen
  seen p = seen_at s p

  -- "after the ACK or NAK": a receive ends, and a held block is enquired for, if its message is sent on, or that of a report
  acked :
      (h : Bool) (p : Phase) (f : Fate) (b : ℕ) (fits : b < 256) (n : ℕ) → ours_at p ≡ none → theirs_at p ≡ true
      → AfterByte c p (seen p) block b fits (busy (line_at h p)) f (rises (line_at h p) n)
  unfolding settle_idle holding track line_bytes
  acked true p going b fits n o t = rw (o, t) (λ rs k m. (refl, refl, λ z. refl, never, λ i e. refl))
  acked false p going b fits n o t = rw (o, t) (λ rs k m. (refl, refl, λ z. refl, never, λ i e. tt))
  acked h p begun b fits n o t = rw (o, t) (λ rs k m. (refl, refl, λ z. refl, never, λ i e. refl))
  acked true p ended b fits n o t = rw (o, t) (λ rs k m. (refl, refl, λ z. refl, never, λ i e. tt))
  acked false p ended b fits n o t = rw (o, t) (λ rs k m. (refl, refl, λ z. refl, never, λ i e. tt))

  naked :
      (h : Bool) (p : Phase) (f : Fate) (why : Remark) → line.gives_way why ≡ false → ours_at p ≡ none → theirs_at p ≡ true
      → AfterTick c p (seen p) block (busy (line_at h p)) f (naks (line_at h p) why)
  unfolding settle_idle holding track line_bytes
  naked true p going why on o t = rw (o, t, on) (λ rs k m. (refl, refl, λ z. (refl, k.kept.nak refl), never, λ n e. refl))
  naked false p going why on o t = rw (o, t, on) (λ rs k m. (refl, refl, λ z. (refl, k.kept.nak refl), never, λ n e. tt))
  naked h p begun why on o t = rw (o, t, on) (λ rs k m. (refl, refl, λ z. (refl, k.kept.nak refl), never, λ n e. refl))
  naked h p ended why on o t = λ rs k m. absurd m

  -- "ACK means sent; the message's next block goes out with ENQ in the same call."; or a report does
  acknowledged :
      (timer tries : ℕ) (f : Fate) (b : ℕ) (fits : b < 256)
      → AfterByte c (WaitAck timer tries) (seen (WaitAck timer tries)) block b fits true f (succeeds (line_at false (WaitAck timer tries)))
  unfolding holding settle_idle track line_bytes
  acknowledged timer tries going b fits rs k m = rw k.kept.cause.1 (refl, refl, never, still, λ n e. refl)
  acknowledged timer tries begun b fits rs k m =
      rw k.kept.cause.1 (refl, refl, never, λ on gone. sent k.kept.cause.0 k.kept.cause.1 refl refl, λ n e. refl)
  acknowledged timer tries ended b fits rs k m = (refl, refl, never, λ on gone. sent k.kept.cause.0 k.kept.cause.1 refl refl, λ n e. tt)

  module _ (timer tries b : ℕ) (fits : b < 256) where
    -- a byte that means neither sent nor nothing is no ACK
    no_ack : (h : Heard) → Known c (WaitAck timer tries) (seen (WaitAck timer tries)) (line.byte b fits) h → is_sent h.step.told ≡ false → eqb b ACK ≡ false
    no_ack h k n = either (eqb b ACK) (λ z. z ≡ false) (λ i. never (sym n ∙ ap is_sent (k.ack refl i))) (λ i. refl)

    -- "Any other byte .. : retry."
    retries : (f : Fate) → AfterByte c (WaitAck timer tries) (seen (WaitAck timer tries)) block b fits true f (again (line_at false (WaitAck timer tries)) tries)
    unfolding track line_bytes
    retries going rs k m = rw (no_ack _ k refl) (refl, refl, never, still, λ n e. refl)
    retries begun rs k m = taken m
    retries ended rs k m = absurd m

    -- or it has failed
    gives_up : (f : Fate) → AfterByte c (WaitAck timer tries) (seen (WaitAck timer tries)) block b fits true f (fails (line_at false (WaitAck timer tries)))
    unfolding holding settle_idle track line_bytes
    gives_up going rs k m = absurd m
    gives_up begun rs k m = rw (no_ack _ k refl) (refl, refl, never, λ on gone. failed k.kept.cause refl refl, λ n e. refl)
    gives_up ended rs k m = (refl, refl, never, λ on gone. failed k.kept.cause refl refl, λ n e. tt)

  byte_steps :
      (h : Bool) (p : Phase) (f : Fate) (b : ℕ) (fits : b < 256) → Calm p h → (ours_at p ≡ enquired → is_block block ≡ true)
      → ByByte (AfterByte c p (seen p) block b fits (busy (line_at h p)) f) c h p b
  unfolding holding settle_idle track line_bytes
  byte_steps h Idle going b fits f long = rw f (λ rs k m. (refl, tt, never, never, λ n e. tt), λ rs k m. (refl, refl, never, never, λ n e. tt))
  byte_steps h Idle begun b fits f long = rw f (λ rs k m. (refl, tt, never, never, λ n e. tt), λ rs k m. (refl, refl, never, never, λ n e. refl))
  byte_steps h Idle ended b fits f long = (λ rs k m. absurd m, λ rs k m. absurd m)
  byte_steps h (WaitEot timer tries) going b fits f long =
      let l = line_at h (WaitEot timer tries) in (
        whole (λ x. AfterByte c (WaitEot timer tries) (seen (WaitEot timer tries)) x b fits true going (sends l tries)) block (long refl)
            (λ x y z xs rs k m. (refl, f, never, still, λ n e. tt)),
        λ rs k m. (refl, tt, never, λ on gone. let why = k.kept.occasion in gave_way why.0 why.1 why.2 refl refl refl, λ n e. tt),
        λ n rs k m. (refl, f, never, still, λ i e. k.untouched b fits refl refl i e),
      )
  byte_steps h (WaitEot timer tries) begun b fits f long = (λ rs k m. taken m, λ rs k m. taken m, λ n rs k m. taken m)
  byte_steps h (WaitEot timer tries) ended b fits f long = (λ rs k m. absurd m, λ rs k m. absurd m, λ n rs k m. absurd m)
  byte_steps h (Draining tries) going b fits f long = λ rs k m. (refl, f, never, still, λ n e. tt)
  byte_steps h (Draining tries) begun b fits f long = λ rs k m. taken m
  byte_steps h (Draining tries) ended b fits f long = λ rs k m. absurd m
  byte_steps h (WaitAck timer tries) fate b fits f long =
      rw f (acknowledged timer tries fate b fits, gives_up timer tries b fits fate, retries timer tries b fits fate)
  byte_steps h (WaitLength timer) going b fits f long = (λ rs k m. (refl, tt, never, never, λ n e. tt), λ rs k m. (refl, tt, never, never, λ n e. tt))
  byte_steps h (WaitLength timer) begun b fits f long = (λ rs k m. (refl, tt, never, never, λ n e. tt), λ rs k m. (refl, tt, never, never, λ n e. tt))
  byte_steps h (WaitLength timer) ended b fits f long = (λ rs k m. absurd m, λ rs k m. absurd m)
  byte_steps h (Body timer a) going b fits f long =
      (λ x rs k m. (refl, tt, never, never, λ n e. tt), acked h (Body timer a) going b fits a.length refl refl, λ x rs k m. (refl, tt, never, never, λ n e. tt))
  byte_steps h (Body timer a) begun b fits f long =
      (λ x rs k m. (refl, tt, never, never, λ n e. tt), acked h (Body timer a) begun b fits a.length refl refl, λ x rs k m. (refl, tt, never, never, λ n e. tt))
  byte_steps h (Body timer a) ended b fits f long =
      (λ x rs k m. absurd m, acked h (Body timer a) ended b fits a.length refl refl, λ x rs k m. absurd m)
  byte_steps h (Silence timer fault) going b fits f long = λ rs k m. (refl, tt, never, never, λ n e. tt)
  byte_steps h (Silence timer fault) begun b fits f long = λ rs k m. (refl, tt, never, never, λ n e. tt)
  byte_steps h (Silence timer fault) ended b fits f long = λ rs k m. absurd m

  tick_steps : (h : Bool) (p : Phase) (f : Fate) → Calm p h → ByTick (AfterTick c p (seen p) block (busy (line_at h p)) f) c h p
  unfolding holding settle_idle track line_bytes
  tick_steps h Idle going f = rw f (λ rs k m. (refl, refl, never, never, λ n e. tt))
  tick_steps h Idle begun f = rw f (λ rs k m. (refl, refl, never, never, λ n e. refl))
  tick_steps h Idle ended f = λ rs k m. absurd m
  tick_steps h (WaitEot timer tries) going f =
      rw f (λ rs k m. absurd m, λ rs k m. (refl, refl, never, still, λ n e. refl), λ rs k m. (refl, refl, never, still, λ n e. ap (λ i. i + 1) e))
  tick_steps h (WaitEot timer tries) begun f =
      rw f (λ rs k m. (refl, refl, never, λ on gone. failed k.kept.cause refl refl, λ n e. refl), λ rs k m. taken m, λ rs k m. taken m)
  tick_steps h (WaitEot timer tries) ended f =
      rw f (λ rs k m. (refl, refl, never, λ on gone. failed k.kept.cause refl refl, λ n e. tt), λ rs k m. absurd m, λ rs k m. absurd m)
  tick_steps h (Draining tries) going f = λ rs k m. (refl, f, never, still, λ n e. tt)
  tick_steps h (Draining tries) begun f = λ rs k m. taken m
  tick_steps h (Draining tries) ended f = λ rs k m. absurd m
  tick_steps h (WaitAck timer tries) going f =
      rw f (λ rs k m. absurd m, λ rs k m. (refl, refl, never, still, λ n e. refl), λ rs k m. (refl, refl, never, still, λ n e. ap (λ i. i + 1) e))
  tick_steps h (WaitAck timer tries) begun f =
      rw f (λ rs k m. (refl, refl, never, λ on gone. failed k.kept.cause refl refl, λ n e. refl), λ rs k m. taken m, λ rs k m. taken m)
  tick_steps h (WaitAck timer tries) ended f =
      rw f (λ rs k m. (refl, refl, never, λ on gone. failed k.kept.cause refl refl, λ n e. tt), λ rs k m. absurd m, λ rs k m. absurd m)
  tick_steps h (WaitLength timer) going f = (naked h (WaitLength timer) going remark.NoLength refl refl refl, λ rs k m. (refl, tt, never, never, λ n e. tt))
  tick_steps h (WaitLength timer) begun f = (naked h (WaitLength timer) begun remark.NoLength refl refl refl, λ rs k m. (refl, tt, never, never, λ n e. tt))
  tick_steps h (WaitLength timer) ended f = (λ rs k m. absurd m, λ rs k m. absurd m)
  tick_steps h (Body timer a) going f = (naked h (Body timer a) going remark.Gap refl refl refl, λ rs k m. (refl, tt, never, never, λ n e. tt))
  tick_steps h (Body timer a) begun f = (naked h (Body timer a) begun remark.Gap refl refl refl, λ rs k m. (refl, tt, never, never, λ n e. tt))
  tick_steps h (Body timer a) ended f = (λ rs k m. absurd m, λ rs k m. absurd m)
  tick_steps h (Silence timer fault) going f = (naked h (Silence timer fault) going (remark.Bad fault) refl refl refl, λ rs k m. (refl, tt, never, never, λ n e. tt))
  tick_steps h (Silence timer fault) begun f = (naked h (Silence timer fault) begun (remark.Bad fault) refl refl refl, λ rs k m. (refl, tt, never, never, λ n e. tt))
  tick_steps h (Silence timer fault) ended f = (λ rs k m. absurd m, λ rs k m. absurd m)

  drained_step :
      (rs : List ℕ) (h : Bool) (p : Phase) → Calm p h
      → Same c p (seen p) line.drained block (line.settle ∷ []) false (heard (stays (drained_of (line_at h p))) rs)
  unfolding settle_idle track line_bytes
  drained_step rs h Idle f = rw f (refl, refl, never, never, λ n e. tt)
  drained_step rs h (WaitEot timer tries) f = (refl, f, never, still, λ n e. e)
  drained_step rs h (Draining tries) f = (refl, f, never, still, λ n e. refl)
  drained_step rs h (WaitAck timer tries) f = (refl, f, never, still, λ n e. e)
  drained_step rs h (WaitLength timer) f = (refl, tt, never, never, λ n e. tt)
  drained_step rs h (Body timer a) f = (refl, tt, never, never, λ n e. tt)
  drained_step rs h (Silence timer fault) f = (refl, tt, never, never, λ n e. tt)

  -- a message that is accepted: none was being sent
  ask_step :
      (rs : List ℕ) (h : Bool) (p : Phase) → Calm p h → busy (line_at h p) ≡ false
      → Same c p (seen p) line.ask block (line.settle ∷ []) true (heard (stays (ask_of (line_at h p))) rs)
  unfolding settle_idle holding track line_bytes
  ask_step rs h Idle f i = (refl, refl, never, never, λ n e. refl)
  ask_step rs h (WaitEot timer tries) f i = taken i
  ask_step rs h (Draining tries) f i = taken i
  ask_step rs h (WaitAck timer tries) f i = taken i
  ask_step rs h (WaitLength timer) f i = (refl, tt, never, never, λ n e. tt)
  ask_step rs h (Body timer a) f i = (refl, tt, never, never, λ n e. tt)
  ask_step rs h (Silence timer fault) f i = (refl, tt, never, never, λ n e. tt)

  -- a call in which the line has no part
  no_step : (rs : List ℕ) (h : Bool) (p : Phase) → Calm p h → Alike c p (seen p) line.ask [] false (record { line = line_at h p; received = rs; seen = seen p })
  no_step rs h Idle f = (refl, f, never, never, λ n e. tt)
  no_step rs h (WaitEot timer tries) f = (refl, f, never, still, λ n e. e)
  no_step rs h (Draining tries) f = (refl, f, never, still, λ n e. tt)
  no_step rs h (WaitAck timer tries) f = (refl, f, never, still, λ n e. e)
  no_step rs h (WaitLength timer) f = (refl, tt, never, never, λ n e. tt)
  no_step rs h (Body timer a) f = (refl, tt, never, never, λ n e. tt)
  no_step rs h (Silence timer fault) f = (refl, tt, never, never, λ n e. tt)

-- ---- what these calls of a line put out and leave is seen alike

abbrev pub Through : Limits → Line → List ℕ → List ℕ → Seen → line.Call → List line.Call → Bool → Type 0
Through c l rs block s k ks other = Alike c l.phase s k (line_bytes c l rs block ks) other (track c (record { line = l; received = rs; seen = s }) ks)

module _
    (c : Limits) (l : Line) (rs block : List ℕ) (s : Seen) (ours : s.ours ≡ ours_at l.phase) (theirs : s.theirs ≡ theirs_at l.phase) (calm : Settled l)
  where
    -- the onlooker of a line has seen its phase
    as_seen : (P : Seen → Type 0) → P (seen_at s l.phase) → P s
    as_seen P g =
        subst P
        (λ i. record {
          ours = sym ours i;
          owed = s.owed;
          waited = s.waited;
          enqs = s.enqs;
          theirs = sym theirs i;
          took = s.took;
          bytes = s.bytes;
          silent = s.silent;
        }) g

    abbrev Knows : line.Call → Seen → Type 0
    Knows k v = Known c l.phase v k (line.called c l rs k)

    pub by_byte :
        (f : Fate) (b : ℕ) (fits : b < 256) → (ours_at l.phase ≡ enquired → is_block block ≡ true) → Knows (line.byte b fits) s
        → let h = byte_of c l b rs in
        May h.step.told (busy l) f
        → Through c l rs block s (line.byte b fits) (line.byte b fits ∷ settles h.step.out (called_for f h.step.told)) (is_other f)
    unfolding track line_bytes
    by_byte f b fits long =
        let h = byte_of c l b rs in
        as_seen
        (λ v. Knows (line.byte b fits) v → May h.step.told (busy l) f
        → Through c l rs block v (line.byte b fits) (line.byte b fits ∷ settles h.step.out (called_for f h.step.told)) (is_other f))
        (line_byte (AfterByte c l.phase (seen_at s l.phase) block b fits (busy l) f) c l.held l.phase b rs
        (byte_steps c block s l.held l.phase f b fits calm long) h.received)

    pub by_tick : (f : Fate) → Knows line.tick s → May (tick_of c l).told (busy l) f
        → Through c l rs block s line.tick (line.tick ∷ settling (called_for f (tick_of c l).told)) (is_other f)
    unfolding track line_bytes
    by_tick f =
        as_seen
        (λ v. Knows line.tick v → May (tick_of c l).told (busy l) f
        → Through c l rs block v line.tick (line.tick ∷ settling (called_for f (tick_of c l).told)) (is_other f))
        (line_tick (AfterTick c l.phase (seen_at s l.phase) block (busy l) f) c l.held l.phase (tick_steps c block s l.held l.phase f calm) rs)

    pub by_drained : Through c l rs block s line.drained (line.drained ∷ line.settle ∷ []) false
    unfolding track line_bytes
    by_drained = as_seen (λ v. Through c l rs block v line.drained (line.drained ∷ line.settle ∷ []) false) (drained_step c block s rs l.held l.phase calm)

    pub by_ask : busy l ≡ false → Through c l rs block s line.ask (line.ask ∷ line.settle ∷ []) true
    unfolding track line_bytes
    by_ask idle = as_seen (λ v. Through c l rs block v line.ask (line.ask ∷ line.settle ∷ []) true) (ask_step c block s rs l.held l.phase calm idle)

    pub by_none : Through c l rs block s line.ask [] false
    unfolding track line_bytes
    by_none = as_seen (λ v. Through c l rs block v line.ask [] false) (no_step c block s rs l.held l.phase calm)
