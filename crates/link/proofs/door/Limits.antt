-- What is proved of a line, seen at the door of the unit (`specs/Door.antt`). Assumes nothing.
use Prim.Native.Nat.{ℕ, ◌+◌, ◌≤◌}
use mathlib.Core.Path.{◌≡◌, refl, sym, ap, subst, ◌∙◌}
use mathlib.Core.List.{List, [], ◌∷◌, ◌++◌, append-nil}
use mathlib.Core.Bool.{Bool, true, false, or-true, false≢true}
use mathlib.Core.Logic.{◌⊎◌, inl, inr}
use native.Mathlib.Omega.{arith}
use lib.ListN.{length}
use Rattle.settings.specs.declared.limits.Limits.{Limits}
use Rattle.line.specs.Codes.{ENQ, EOT, ACK, NAK, bytes_out}
use Rattle.line.specs.Line.{line_at, busy}
use Rattle.line.specs.History as line
use Rattle.line.specs.History.{Ours, none, ours_at, theirs_at}
use Rattle.line.specs.Theorems.{Counts}
use Rattle.line.proofs.Invariant.{At}
use Rattle.line.proofs.Always.{always}
use Rattle.line.proofs.Sending.{send_ends, tries_are_enqs, each_enq_its_block}
use Rattle.line.proofs.Receiving.{receive_ends, nak_in_time}
use Rattle.line.specs.declared.phase.Phase.{Phase}
use Rattle.line.specs.declared.phase.Phase.TheVariants.{Idle, WaitEot, Draining, WaitAck, WaitLength, Body, Silence}
use Rattle.line.specs.declared.line.Line.{Line}
use Rattle.line.specs.declared.step.Out.{Out}
use Rattle.line.specs.declared.step.Out.TheVariants as out
use Rattle.link.specs.Answer.{accepted}
use Rattle.link.specs.Run.{block_bytes}
use Rattle.link.specs.Reading.{sending_of}
use Rattle.link.specs.History.{byte, unless_refused, step_in, settles, couriers_in, on_line, Track, line_track, limits_in, lent_room, Made, answered, next}
use Rattle.link.specs.Inside.{Reached}
use Rattle.link.specs.Door.{bytes_left, line_bytes, on_way, kind, is_first, begins, sees, sees_by, other_sent, watched_on, Watch, watch_of, AtDoor, SendWithin, SendEnds, TriesAreEnqs, made, EachEnqItsBlock, NoneForgotten, ReceiveWithin, ReceiveEnds, followed, OverBy, ReceiveEndsBy, HeldFollows, starts_enq, Stops, sent, failed, gave_way, SendEndsBy, OtherStartsAnew}
use Rattle.link.specs.declared.Settings.{Settings}
use Rattle.link.specs.declared.Outcome.{Outcome}
use Rattle.link.specs.declared.Outcome.TheVariants as outcome
use Rattle.link.proofs.inside.Reached.{settings_stay, line_inside}
use Rattle.link.proofs.inside.Agrees.{agrees}
use Rattle.link.proofs.door.Bytes.{called_bytes}
use Rattle.link.proofs.door.OneCall.{Calm}
use Rattle.link.proofs.door.Right.{unless_other, other_in, called_other, one_call, settled, door_right}

-- the limits of the start are those of the unit
limits_stay : (t : Track) (w : Reached t) → limits_in t ≡ w.settings.limits
limits_stay t w = ap (λ (s : Settings). s.limits) (settings_stay t w)

-- what holds of what the line's onlooker has seen holds of what is seen at the door
pub from_line : (P : Limits → Watch → Type 0) (t : Track) (w : Watch) (a : AtDoor t w) → P (limits_in t) (watch_of t.seen) → P a.reached.settings.limits w
from_line P t w a g = subst (P a.reached.settings.limits) (sym (door_right t w a)) (subst (λ c. P c (watch_of t.seen)) (limits_stay t a.reached) g)

-- ---- a block of ours

few_enqs : (c : Limits) (p : Phase) (w e r n q : ℕ) → At c p w e r n q → on_way (ours_at p) ≡ true → e ≤ c.rty + 1
few_enqs c Idle w e r n q g on = absurd (false≢true on)
few_enqs c (WaitEot timer tries) w e r n q g on = omega arith
few_enqs c (Draining tries) w e r n q g on = omega arith
few_enqs c (WaitAck timer tries) w e r n q g on = omega arith
few_enqs c (WaitLength timer) w e r n q g on = absurd (false≢true on)
few_enqs c (Body timer a) w e r n q g on = absurd (false≢true on)
few_enqs c (Silence timer fault) w e r n q g on = absurd (false≢true on)

pub door_send_ends : SendEnds
door_send_ends t w a =
    let c = limits_in t in
    let inside = line_inside t a.reached in
    let ends = send_ends c (line_track t) inside in
    let g = always c (line_track t) inside in
    let s = t.seen in
    from_line SendWithin t w a
    (record {
      at_most = ends.at_most;
      over_by_then = ends.over_by_then;
      no_more_enqs = λ on. few_enqs c t.link.line.phase s.waited s.enqs s.took (length s.bytes) s.silent g.counts (sym (ap on_way g.ours) ∙ on);
    })

pub door_tries_are_enqs : TriesAreEnqs
door_tries_are_enqs t w a =
    subst (λ (v : Watch). Counts t.link.line.phase v.enqs) (sym (door_right t w a)) (tries_are_enqs (limits_in t) (line_track t) (line_inside t a.reached))

-- "EOT puts out the whole block", and nothing else leaves
whole_alone :
    (c : Limits) (l : Line) (rs block : List ℕ) (o : Out) (ks : List line.Call) → o ≡ out.Block → bytes_out block o ++ line_bytes c l rs block (settles o ks) ≡ block
unfolding line_bytes
whole_alone c l rs block o ks is = rw is (append-nil block)

-- a call that is not refused makes its calls on the line
pub unrefused : (x : Outcome) (ks : List line.Call) → accepted x ≡ true → unless_refused x ks ≡ ks
unrefused outcome.Done ks e = refl
unrefused (outcome.Taken p) ks e = refl
unrefused (outcome.Refused r) ks e = absurd (false≢true e)

pub door_each_enq_its_block : EachEnqItsBlock
unfolding line_bytes
door_each_enq_its_block t w a e fits room o taken =
    let u = t.link in
    let c = limits_in t in
    let lent = lent_room room t.room in
    let block = block_bytes u lent in
    let h = step_in u (byte EOT fits) in
    let goes = each_enq_its_block c (line_track t) (line_inside t a.reached) (sym (ap (λ (v : Watch). v.ours) (door_right t w a)) ∙ e) (line.byte EOT fits) refl in
    called_bytes u lent o (byte EOT fits)
    ∙ ap (line_bytes c u.line u.received block) (unrefused (answered t (made (byte EOT fits) room o)).answer.outcome (on_line u lent (byte EOT fits)) taken)
    ∙ whole_alone c h.step.line h.received block h.step.out (couriers_in u lent (byte EOT fits)) goes

held_receiving : (h : Bool) (p : Phase) → Calm p h → busy (line_at h p) ≡ true → ours_at p ≡ none → theirs_at p ≡ true
held_receiving h Idle f z e = absurd (false≢true (sym f ∙ z))
held_receiving h (WaitEot timer tries) f z e = absurd (false≢true (sym (ap on_way e)))
held_receiving h (Draining tries) f z e = absurd (false≢true (sym (ap on_way e)))
held_receiving h (WaitAck timer tries) f z e = absurd (false≢true (sym (ap on_way e)))
held_receiving h (WaitLength timer) f z e = refl
held_receiving h (Body timer a) f z e = refl
held_receiving h (Silence timer fault) f z e = refl

pub none_forgotten : NoneForgotten
none_forgotten t w a =
    let r = a.reached in
    let g = always (limits_in t) (line_track t) (line_inside t r) in
    let l = t.link.line in
    subst (λ (v : Watch). sending_of t.link ≡ true → v.ours ≡ none → v.theirs ≡ true) (sym (door_right t w a))
    (λ z e. g.theirs ∙ held_receiving l.held l.phase (settled t r) (sym (agrees t r).same ∙ z) (sym g.ours ∙ e))

-- ---- a block of the far end

pub door_receive_ends : ReceiveEnds
door_receive_ends t w a =
    let inside = line_inside t a.reached in
    let s = receive_ends (limits_in t) (line_track t) inside in
    from_line ReceiveWithin t w a
    (record { at_most = s.at_most; over_by_then = s.over_by_then; not_late = (nak_in_time (limits_in t) (line_track t) inside).no_later })

-- ---- one call more

-- what is seen of it
seen_next : (t : Track) (w : Watch) → AtDoor t w → (m : Made) → watched_on w t m ≡ watch_of (next t m).seen
seen_next t w a m = let r = a.reached in ap (λ v. watched_on v t m) (door_right t w a) ∙ (one_call t r (settled t r) m).0

pub receive_ends_by : ReceiveEndsBy
receive_ends_by t w a m z =
    let r = a.reached in
    rw (seen_next t w a m, ← limits_stay t r) ((one_call t r (settled t r) m).2 z)

with_enq :
    (c : Limits) (k : line.Call) (bs : List ℕ) (sending : Bool) (after : Watch) → OverBy c k bs sending after → sending ≡ true
    → (bs ≡ ACK ∷ ENQ ∷ []) ⊎ (bs ≡ NAK ∷ ENQ ∷ [])
with_enq c (line.byte b fits) bs sending after is e = inl (is ∙ ap (followed ACK) e)
with_enq c line.tick bs sending after is e = inr (is.0 ∙ ap (followed NAK) e)
with_enq c line.drained bs sending after is e = absurd is
with_enq c line.ask bs sending after is e = absurd is
with_enq c line.settle bs sending after is e = absurd is
with_enq c line.withdraw bs sending after is e = absurd is

pub held_follows : HeldFollows
held_follows t w a m z e = with_enq a.reached.settings.limits (kind m.call) _ _ _ (receive_ends_by t w a m z) e

-- a send is over alike
over_alike : (v w : Watch) (other : Bool) → v ≡ w → (on_way v.ours ≡ false) ⊎ (other ≡ true) → (on_way w.ours ≡ false) ⊎ (other ≡ true)
over_alike v w other e (inl gone) = inl (sym (ap (λ (x : Watch). on_way x.ours) e) ∙ gone)
over_alike v w other e (inr o) = inr o

pub door_send_ends_by : SendEndsBy
door_send_ends_by t w a m on gone =
    let r = a.reached in
    rw (← limits_stay t r, door_right t w a)
    ((one_call t r (settled t r) m).3 (sym (ap (λ (x : Watch). on_way x.ours) (door_right t w a)) ∙ on)
    (over_alike (watched_on w t m) (watch_of (next t m).seen) (other_sent t.link (answered t m)) (seen_next t w a m) gone))

-- ---- a report that follows

-- the ENQ of another message is its first
first_enq : (o : Ours) (k : line.Call) (bs : List ℕ) → bs ≡ ENQ ∷ [] → begins o k bs true ≡ true
first_enq o k bs is = rw is (or-true (is_first o k))

abbrev Anew : Watch → Type 0
Anew w = (w.waited ≡ 0) × (w.enqs ≡ 1)

seen_anew : (w : Watch) (k : line.Call) (bs : List ℕ) (sending : Bool) → bs ≡ ENQ ∷ [] → Anew (sees w k bs sending true)
seen_anew w k bs sending is = rw (first_enq w.ours k bs is) (refl, refl)

-- what stops while another message is being sent has put it out
stops_anew :
    (c : Limits) (w : Watch) (k : line.Call) (bs : List ℕ) (sending other : Bool) → Stops c w k bs sending other → other ≡ true → sending ≡ true → bs ≡ ENQ ∷ []
stops_anew c w k bs sending other (sent l e is o) i s = is ∙ ap starts_enq s
stops_anew c w k bs sending other (failed n is o) i s = is ∙ ap starts_enq s
stops_anew c w k bs sending other (gave_way m l e is z o) i s = absurd (false≢true (sym o ∙ i))

-- and the call was not refused
anew_by : (x : Outcome) (w : Watch) (k : line.Call) (bs : List ℕ) (sending other i : Bool) → other ≡ unless_other x i → other ≡ true → bs ≡ ENQ ∷ []
    → Anew (sees_by x w k bs sending other)
anew_by outcome.Done w k bs sending other i e o is = rw o (seen_anew w k bs sending is)
anew_by (outcome.Taken p) w k bs sending other i e o is = rw o (seen_anew w k bs sending is)
anew_by (outcome.Refused r) w k bs sending other i e o is = absurd (false≢true (sym e ∙ o))

pub other_starts_anew : OtherStartsAnew
other_starts_anew t w a m on other s =
    let room = lent_room m.room t.room in
    anew_by (answered t m).answer.outcome w (kind m.call) (bytes_left (answered t m)) (sending_of (next t m).link) (other_sent t.link (answered t m))
    (other_in t.link room m.call) (called_other t.link room m.out m.call) other
    (stops_anew a.reached.settings.limits w (kind m.call) (bytes_left (answered t m)) (sending_of (next t m).link) (other_sent t.link (answered t m))
    (door_send_ends_by t w a m on (inr other)) other s)
