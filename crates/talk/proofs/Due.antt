-- The reports that ticks alone can still bring about (02, request 2): those that wait, and one for each own place whose reply is awaited. A tick
-- leaves no more of them, and one that starts is due no longer. Assumes nothing.
use Rattle.std.specs.Prelude.{Option, Some, None}
use Prim.Native.Nat.{ℕ, zero, suc, ◌+◌, ◌≤◌}
use mathlib.Core.Path.{◌≡◌, refl, sym, ap, subst}
use mathlib.Core.Bool.{Bool, true, false, false≢true}
use mathlib.Core.List.{List, [], ◌∷◌}
use native.Mathlib.Omega.{arith}
use lib.Dec.{eqb, ltb}
use lib.ListN.{set, get_or-map}
use borrow.Author.Tests.{eqb-false}
use Rattle.wire.proofs.Choice.{chosen}
use Rattle.settings.specs.Timer.{ticked}
use Rattle.settings.specs.declared.terms.Terms.{Terms}
use Rattle.place.specs.Arriving.{arriving_tick}
use Rattle.place.specs.Own.{fresh_own, ended, awaited_by, await_tick, replying_by, reply_tick, own_tick, failed_at, own_failed}
use Rattle.place.specs.declared.OwnStage.{OwnStage}
use Rattle.place.specs.declared.OwnStage.TheVariants as stage
use Rattle.place.specs.declared.Own.{Own}
use Rattle.table.specs.Own.{own_at, ticked_own}
use Rattle.reports.specs.Reports.{report, added, less_one, without_oldest, showing}
use Rattle.reports.specs.declared.Report.{Report}
use Rattle.reports.specs.declared.Reports.{Reports}
use Rattle.exchange.specs.Exchange.{got_verdict, put_own, put_incoming, with_sending}
use Rattle.exchange.specs.Reports.{outbox_of, starts, reported, caused, oldest_starts, is_over, freed, freed_in}
use Rattle.exchange.specs.Request.{sending_by}
use Rattle.exchange.specs.Send.{ended_own, ended_reply, ended_report, failed_by, failed_of}
use Rattle.exchange.specs.Tick.{got_no_reply, late_at, passed_of, tick_of, late_over}
use Rattle.exchange.specs.declared.Sending.{Sending}
use Rattle.exchange.specs.declared.Sending.TheVariants as sending
use Rattle.exchange.specs.declared.Outbox.{Outbox}
use Rattle.exchange.specs.declared.Exchange.{Exchange}
use Rattle.place.specs.declared.Arriving.{Arriving}

-- ---- what is due

-- of a place: its reply is awaited, and T3 runs
abbrev awaited_at : OwnStage → ℕ
awaited_at stage.Free = 0
awaited_at stage.Sending = 0
awaited_at stage.PutOut = 0
awaited_at (stage.Awaiting timer) = 1
awaited_at (stage.Replying a) = 0
awaited_at (stage.Done v r) = 0

abbrev awaited : Own → ℕ
awaited o = awaited_at o.stage

abbrev places_due : List Own → ℕ
places_due os = awaited (own_at os 0) + awaited (own_at os 1) + awaited (own_at os 2) + awaited (own_at os 3)

abbrev pub due : Exchange → ℕ
due x = x.reports.count + places_due x.own

-- whether a message is being sent, as a number
abbrev pub one : Bool → ℕ
one true = 1
one false = 0

-- those that wait, and the one that started
abbrev box_due : Outbox → ℕ
box_due b = b.reports.count + one (sending_by b.sending)

few_awaited : (s : OwnStage) → awaited_at s ≤ 1
few_awaited stage.Free = omega arith
few_awaited stage.Sending = omega arith
few_awaited stage.PutOut = omega arith
few_awaited (stage.Awaiting timer) = omega arith
few_awaited (stage.Replying a) = omega arith
few_awaited (stage.Done v r) = omega arith

-- at most eight wait, and of four places one each
pub few_due : (x : Exchange) → x.reports.count ≤ 8 → due x ≤ 12
few_due x h =
    omega (arith, few_awaited (own_at x.own 0).stage, few_awaited (own_at x.own 1).stage, few_awaited (own_at x.own 2).stage, few_awaited (own_at x.own 3).stage)

-- ---- one that is caused

added_few : (r : Reports) (new : Report) → (added r new).count ≤ r.count + 1
unfolding added
added_few r new = chosen (λ (a : Reports). a.count ≤ r.count + 1) (ltb r.count 8) _ _ (λ e. omega arith) (λ e. omega arith)

caused_due : (c : Terms) (os : List Own) (latest : ℕ) (b : Outbox) (r : Report) → box_due (caused c os latest b r) ≤ box_due b + 1
unfolding caused reported starts showing
caused_due c os latest b r =
    chosen (λ (a : Outbox). box_due a ≤ box_due b + 1) c.host _ _ (λ e. omega arith)
    (λ e. chosen (λ (a : Outbox). box_due a ≤ box_due b + 1) (sending_by b.sending) _ _ (λ e. omega (arith, added_few b.reports r)) (λ e. omega arith))

-- ---- a tick

-- of a place at some stage: no more is due, and where it got verdict 6 less
record Passes (before after : Own) : Type 0 where
  less : awaited after ≤ awaited before
  late : got_no_reply before after ≡ true → awaited after + 1 ≤ awaited before

abbrev at : List ℕ → OwnStage → Own
at h s = record { header = h; stage = s }

awaits_on : (h : List ℕ) (timer : ℕ) (t : Option ℕ) → Passes (at h (stage.Awaiting timer)) (awaited_by (at h (stage.Awaiting timer)) t)
unfolding got_no_reply got_verdict ended
awaits_on h timer None = record { less = omega arith; late = λ e. omega arith }
awaits_on h timer (Some n) = record { less = omega arith; late = λ e. absurd (false≢true e) }

replies_on : (h : List ℕ) (a : _) (w : Option Arriving) → Passes (at h (stage.Replying a)) (replying_by (at h (stage.Replying a)) w)
unfolding got_no_reply got_verdict ended
replies_on h a None = record { less = omega arith; late = λ e. absurd (false≢true e) }
replies_on h a (Some b) = record { less = omega arith; late = λ e. absurd (false≢true e) }

passes_at : (c : Terms) (h : List ℕ) (s : OwnStage) → Passes (at h s) (own_tick c (at h s))
unfolding got_no_reply got_verdict await_tick reply_tick
passes_at c h stage.Free = record { less = omega arith; late = λ e. absurd (false≢true e) }
passes_at c h stage.Sending = record { less = omega arith; late = λ e. absurd (false≢true e) }
passes_at c h stage.PutOut = record { less = omega arith; late = λ e. absurd (false≢true e) }
passes_at c h (stage.Awaiting timer) = awaits_on h timer (ticked c.t3 timer)
passes_at c h (stage.Replying a) = replies_on h a (arriving_tick c a)
passes_at c h (stage.Done v r) = record { less = omega arith; late = λ e. absurd (false≢true e) }

passes : (c : Terms) (os : List Own) (p : ℕ) → Passes (own_at os p) (own_at (ticked_own c os) p)
passes c os p =
    subst (Passes (own_at os p)) (sym (get_or-map (own_tick c) os p fresh_own)) (passes_at c (own_at os p).header (own_at os p).stage)

late_due : (c : Terms) (os : List Own) (latest p : ℕ) (b : Outbox)
    → box_due (late_at c os (ticked_own c os) latest p b) + awaited (own_at (ticked_own c os) p) ≤ box_due b + awaited (own_at os p)
unfolding late_at
late_due c os latest p b =
    let q = passes c os p in
    chosen (λ (a : Outbox). box_due a + awaited (own_at (ticked_own c os) p) ≤ box_due b + awaited (own_at os p)) (got_no_reply (own_at os p) (own_at (ticked_own c os) p)) _ _
    (λ e. omega (arith, caused_due c (ticked_own c os) latest b (report 9 (own_at (ticked_own c os) p).header), q.late e)) (λ e. omega (arith, q.less))

pub tick_due : (c : Terms) (x : Exchange) → due (tick_of c x).exchange + one (sending_by (tick_of c x).exchange.sending) ≤ due x + one (sending_by x.sending)
unfolding passed_of late_over
tick_due c x =
    let os = x.own in
    let latest = (passed_of c x).exchange.numbers.latest in
    let b0 = outbox_of (passed_of c x).exchange in
    let b1 = late_at c os (ticked_own c os) latest 0 b0 in
    let b2 = late_at c os (ticked_own c os) latest 1 b1 in
    let b3 = late_at c os (ticked_own c os) latest 2 b2 in
    omega (arith, late_due c os latest 0 b0, late_due c os latest 1 b1, late_due c os latest 2 b2, late_due c os latest 3 b3)

-- ---- a message that failed

-- the oldest starts
oldest_due : (os : List Own) (latest : ℕ) (b : Outbox) → b.sending ≡ sending.Nothing → box_due (oldest_starts os latest b) ≤ b.reports.count
unfolding oldest_starts starts showing without_oldest less_one
oldest_due os latest b e =
    let none : one (sending_by b.sending) ≡ 0 = ap (λ (z : Sending). one (sending_by z)) e in
    chosen (λ (a : Outbox). box_due a ≤ b.reports.count) (eqb b.reports.count 0) _ _ (λ z. omega arith)
    (λ z. let some = eqb-false b.reports.count 0 z in rw z (omega arith))

freed_due : (z : Sending) (os : List Own) (latest : ℕ) (b : Outbox) → b.sending ≡ sending.Nothing → box_due (freed z os latest b) ≤ b.reports.count
unfolding freed
freed_due z os latest b e =
    let none : one (sending_by b.sending) ≡ 0 = ap (λ (z : Sending). one (sending_by z)) e in
    chosen (λ (a : Outbox). box_due a ≤ b.reports.count) (is_over z b.sending) _ _ (λ w. oldest_due os latest b e) (λ w. omega arith)

-- a place of which no more is due than before, put anew
put_less : (os : List Own) (p i : ℕ) (o : Own) → awaited o ≤ awaited (own_at os p) → awaited (own_at (set os p o) i) ≤ awaited (own_at os i)
put_less [] p i o h = omega arith
put_less (q ∷ os) zero zero o h = h
put_less (q ∷ os) zero (suc i) o h = omega arith
put_less (q ∷ os) (suc p) zero o h = omega arith
put_less (q ∷ os) (suc p) (suc i) o h = put_less os p i o h

fails_at : (s : OwnStage) (o : Own) → awaited (failed_at s o) ≤ awaited o
unfolding ended
fails_at stage.Free o = omega arith
fails_at stage.Sending o = omega arith
fails_at stage.PutOut o = omega arith
fails_at (stage.Awaiting timer) o = omega arith
fails_at (stage.Replying a) o = omega arith
fails_at (stage.Done v r) o = omega arith

-- what a message that failed leaves, before the oldest starts
record Fails (x y : Exchange) : Type 0 where
  nothing : y.sending ≡ sending.Nothing
  waiting : y.reports.count ≡ x.reports.count
  places : places_due y.own ≤ places_due x.own

fails : (z : Sending) (x : Exchange) → x.sending ≡ z → Fails x (failed_by z x).exchange
unfolding ended_own ended_reply ended_report put_own put_incoming with_sending
fails sending.Nothing x e = record { nothing = e; waiting = refl; places = omega arith }
fails (sending.Primary p n) x e =
    let o = own_failed (own_at x.own p) in
    let less : (i : ℕ) → awaited (own_at (set x.own p o) i) ≤ awaited (own_at x.own i) =
    λ i. put_less x.own p i o (fails_at (own_at x.own p).stage (own_at x.own p)) in
    record { nothing = refl; waiting = refl; places = omega (arith, less 0, less 1, less 2, less 3) }
fails (sending.Reply p f n) x e = record { nothing = refl; waiting = refl; places = omega arith }
fails (sending.Report f n) x e = record { nothing = refl; waiting = refl; places = omega arith }

pub failed_due : (x : Exchange) → due (failed_of x).exchange + one (sending_by (failed_of x).exchange.sending) ≤ due x
unfolding freed_in
failed_due x =
    let y = (failed_by x.sending x).exchange in
    let f = fails x.sending x refl in
    omega (arith, freed_due x.sending y.own y.numbers.latest (outbox_of y) f.nothing, f.waiting, f.places)
