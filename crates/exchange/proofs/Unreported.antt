-- The part of the state that a report touches (`specs/Reports.antt`): where no message is over, none that waits starts; and what holds of it,
-- of what is being sent or of those that wait, behind all that is reported. Assumes nothing.
use Prim.Native.Nat.{ℕ, ◌<◌}
use mathlib.Core.Path.{◌≡◌, refl, sym, ap, ◌∙◌, subst}
use mathlib.Core.Bool.{Bool, true, false, not, true≢false, false≢true}
use mathlib.Core.List.{List}
use mathlib.Core.Logic.{◌≢◌}
use native.Mathlib.Omega.{arith}
use lib.Dec.{eqb, ltb}
use borrow.Author.Tests.{ltb-true, ltb-false, eqb-false}
use Rattle.wire.proofs.Choice.{both, either, chosen}
use Rattle.settings.specs.declared.terms.Terms.{Terms}
use Rattle.place.specs.declared.Own.{Own}
use Rattle.table.specs.Own.{own_at}
use Rattle.reports.specs.Reports.{report, added, oldest}
use Rattle.reports.specs.Theorems.{Sound}
use Rattle.reports.proofs.Waiting.{each_comes, oldest_goes, shown_alone, count_is}
use Rattle.reports.specs.declared.Report.{Report}
use Rattle.reports.specs.declared.Reports.{Reports}
use Rattle.exchange.specs.Request.{sending_by}
use Rattle.exchange.specs.Reports.{outbox_of, starts, awaits, reported, caused, without_first, oldest_starts, is_over, freed, freed_in}
use Rattle.exchange.specs.Tick.{passed_of, got_no_reply, late_at, late_over, tick_of}
use Rattle.exchange.specs.Judge.{caused_by, box_behind}
use Rattle.exchange.specs.declared.Note.{Note}
use Rattle.exchange.specs.declared.Note.TheVariants.{Kept, Misrouted, Duplicate, Stray, NoPlace, TooLong, Empty}
use Rattle.exchange.specs.declared.Exchange.{Exchange}
use Rattle.exchange.specs.declared.Judged.{Judged}
use Rattle.exchange.specs.declared.Sending.{Sending}
use Rattle.exchange.specs.declared.Sending.TheVariants as sending
use Rattle.exchange.specs.declared.Outbox.{Outbox}

-- ---- the line is not freed

-- a message that goes on is not over
pub not_over : (s : Sending) → is_over s s ≡ false
unfolding is_over
not_over sending.Nothing = refl
not_over (sending.Primary p n) = refl
not_over (sending.Reply p f n) = refl
not_over (sending.Report f n) = refl

-- so none that waits starts
pub not_freed : (own : List Own) (latest : ℕ) (b : Outbox) → freed b.sending own latest b ≡ b
unfolding freed
not_freed own latest b = rw (not_over b.sending)

-- nor does one where none was being sent
pub none_freed : (own : List Own) (latest : ℕ) (b : Outbox) → freed sending.Nothing own latest b ≡ b
unfolding freed is_over
none_freed own latest b = refl

-- ---- what holds of it behind all that is reported

not_true : (t : Bool) → not t ≡ true → t ≡ false
not_true true e = absurd (false≢true e)
not_true false e = refl

-- It holds behind a report that comes to wait, behind one that starts where none is being sent, and once the oldest waits no more, where each
-- report is such a one, R: those that come, and so the oldest that waits. The places, and the number of the latest verdict, are those of y.
module _
    (y : Exchange)
    (R : Report → Type 0)
    (P : Outbox → Type 0)
    (waits : (b : Outbox) (r : Report) → R r → P b → P (awaits b r))
    (begins : (b : Outbox) (r : Report) → R r → sending_by b.sending ≡ false → P b → P (starts y.own y.numbers.latest b r))
    (goes : (b : Outbox) → eqb b.reports.count 0 ≡ false → P b → R (oldest b.reports) × P (without_first b))
  where
    -- a cause
    such_caused : (c : Terms) (b : Outbox) (r : Report) → R r → P b → P (caused c y.own y.numbers.latest b r)
    unfolding caused reported
    such_caused c b r i w =
        chosen P c.host b (reported y.own y.numbers.latest b r) (λ e. w)
        (λ e. chosen P (sending_by b.sending) (awaits b r) (starts y.own y.numbers.latest b r) (λ e. waits b r i w) (λ e. begins b r i e w))

    -- a freed line
    pub such_freed : (before : Sending) → P (outbox_of y) → P (freed_in before y)
    unfolding freed oldest_starts is_over freed_in
    such_freed before w =
        let b = outbox_of y in
        chosen P (is_over before b.sending) (oldest_starts y.own y.numbers.latest b) b
        (λ o.
        chosen P (eqb b.reports.count 0) b (starts y.own y.numbers.latest (without_first b) (oldest b.reports)) (λ e. w)
        (λ e.
        let g = goes b e w in
        begins (without_first b) (oldest b.reports) g.0 (not_true (sending_by b.sending) ((both (sending_by before) _).0 o).1) g.1))
        (λ o. w)

    -- a block, by its note
    by_note : (n : Note) (c : Terms) (h : List ℕ) → ((f : ℕ) → R (report f h)) → (b : Outbox) → P b → P (caused_by n c y h b)
    by_note Kept c h i b w = w
    by_note Misrouted c h i b w = such_caused c b _ (i 1) w
    by_note Duplicate c h i b w = w
    by_note Stray c h i b w = w
    by_note NoPlace c h i b w = w
    by_note TooLong c h i b w = such_caused c b _ (i 11) w
    by_note Empty c h i b w = w

    pub such_judged : (n : Note) (c : Terms) (before : Sending) (h : List ℕ) → ((f : ℕ) → R (report f h)) → P (outbox_of y) → P (caused_by n c y h (freed_in before y))
    such_judged n c before h i w = by_note n c h i (freed_in before y) (such_freed before w)

    -- an own place that gets verdict 6, or none; and so places 0 to 3
    such_late : (c : Terms) (os : List Own) (p : ℕ) → R (report 9 (own_at y.own p).header) → (b : Outbox) → P b → P (late_at c os y.own y.numbers.latest p b)
    unfolding late_at
    such_late c os p i b w =
        chosen P (got_no_reply (own_at os p) (own_at y.own p)) (caused c y.own y.numbers.latest b (report 9 (own_at y.own p).header)) b
        (λ e. such_caused c b _ i w) (λ e. w)

    pub such_ticked : (c : Terms) (os : List Own) → ((p : ℕ) → p < 4 → R (report 9 (own_at y.own p).header)) → P (outbox_of y)
        → P (late_over c os y.own y.numbers.latest (outbox_of y))
    unfolding late_over late_at
    such_ticked c os i w =
        such_late c os 3 (i 3 (omega arith)) _
        (such_late c os 2 (i 2 (omega arith)) _
        (such_late c os 1 (i 1 (omega arith)) _ (such_late c os 0 (i 0 (omega arith)) (outbox_of y) w)))

-- So whatever the reports are.
module _
    (y : Exchange)
    (P : Outbox → Type 0)
    (waits : (b : Outbox) (r : Report) → P b → P (awaits b r))
    (begins : (b : Outbox) (r : Report) → sending_by b.sending ≡ false → P b → P (starts y.own y.numbers.latest b r))
    (goes : (b : Outbox) → eqb b.reports.count 0 ≡ false → P b → P (without_first b))
  where
    pub box_freed : (before : Sending) → P (outbox_of y) → P (freed_in before y)
    box_freed = such_freed y (λ r. Unit {0}) P (λ b r i. waits b r) (λ b r i. begins b r) (λ b e w. (tt, goes b e w))

    pub box_judged : (n : Note) (c : Terms) (before : Sending) (h : List ℕ) → P (outbox_of y) → P (caused_by n c y h (freed_in before y))
    box_judged n c before h =
        such_judged y (λ r. Unit {0}) P (λ b r i. waits b r) (λ b r i. begins b r) (λ b e w. (tt, goes b e w)) n c before h (λ f. tt)

    pub box_ticked : (c : Terms) (os : List Own) → P (outbox_of y) → P (late_over c os y.own y.numbers.latest (outbox_of y))
    box_ticked c os = such_ticked y (λ r. Unit {0}) P (λ b r i. waits b r) (λ b r i. begins b r) (λ b e w. (tt, goes b e w)) c os (λ p k. tt)

-- ---- what is being sent

-- nothing is, where the test says so
pub idle : (s : Sending) → sending_by s ≡ false → s ≡ sending.Nothing
idle sending.Nothing e = refl
idle (sending.Primary p n) e = absurd (true≢false e)
idle (sending.Reply p f n) e = absurd (true≢false e)
idle (sending.Report f n) e = absurd (true≢false e)

-- and something is
pub some_sent : (z : Sending) → sending_by z ≡ true → z ≢ sending.Nothing
some_sent z e n = false≢true (ap sending_by (sym n) ∙ e)

-- What holds of it holds behind all that is reported, if it holds of a report where it does of none.
module _ (P : Sending → Type 0) (begins : P sending.Nothing → (f n : ℕ) → P (sending.Report f n)) where
  abbrev Sends : Outbox → Type 0
  Sends b = P b.sending

  starts_so : (y : Exchange) (b : Outbox) (r : Report) → sending_by b.sending ≡ false → Sends b → Sends (starts y.own y.numbers.latest b r)
  unfolding starts
  starts_so y b r e w = begins (subst P (idle b.sending e) w) _ _

  pub freeing_sends : (before : Sending) (y : Exchange) → P y.sending → P (freed_in before y).sending
  freeing_sends before y = box_freed y Sends (λ b r w. w) (starts_so y) (λ b e w. w) before

  pub judged_sends : (c : Terms) (before : Sending) (h : List ℕ) (j : Judged) → P j.exchange.sending → P (box_behind c before h j).sending
  unfolding box_behind
  judged_sends c before h j = box_judged j.exchange Sends (λ b r w. w) (starts_so j.exchange) (λ b e w. w) j.note c before h

  pub ticked_sends : (c : Terms) (x : Exchange) → P x.sending → P (tick_of c x).exchange.sending
  unfolding passed_of
  ticked_sends c x = let y = (passed_of c x).exchange in box_ticked y Sends (λ b r w. w) (starts_so y) (λ b e w. w) c x.own

-- ---- the reports that wait

-- no more than eight wait, and one more is dropped
pub added_sound : (r : Reports) (new : Report) → Sound r → Sound (added r new)
added_sound r new s =
    let n = count_is r s in
    either (ltb r.count 8) (λ t. Sound (added r new)) (λ e. ((each_comes r s new).waits (omega (arith, ltb-true r.count 8 e))).sound)
    (λ e. ((each_comes r s new).drops (omega (arith, ltb-false r.count 8 e, s.most))).sound)

abbrev Sounds : Outbox → Type 0
Sounds b = Sound b.reports

shown_sound : (y : Exchange) (b : Outbox) (r : Report) → sending_by b.sending ≡ false → Sounds b → Sounds (starts y.own y.numbers.latest b r)
unfolding starts
shown_sound y b r e s = (shown_alone b.reports s r.header).sound

oldest_sound : (b : Outbox) → eqb b.reports.count 0 ≡ false → Sounds b → Sounds (without_first b)
oldest_sound b e s =
    let n = count_is b.reports s in
    let some : b.reports.count ≢ 0 = eqb-false b.reports.count 0 e in
    (oldest_goes b.reports s (omega arith)).sound

pub freeing_sound : (before : Sending) (y : Exchange) → Sound y.reports → Sound (freed_in before y).reports
freeing_sound before y = box_freed y Sounds (λ b r. added_sound b.reports r) (shown_sound y) oldest_sound before

pub judged_sound : (c : Terms) (before : Sending) (h : List ℕ) (j : Judged) → Sound j.exchange.reports → Sound (box_behind c before h j).reports
unfolding box_behind
judged_sound c before h j =
    box_judged j.exchange Sounds (λ b r. added_sound b.reports r) (shown_sound j.exchange) oldest_sound j.note c before h

pub ticked_sound : (c : Terms) (x : Exchange) → Sound x.reports → Sound (tick_of c x).exchange.reports
unfolding passed_of
ticked_sound c x =
    let y = (passed_of c x).exchange in box_ticked y Sounds (λ b r. added_sound b.reports r) (shown_sound y) oldest_sound c x.own
