-- What a block does to what is being sent, to the last number and to the reports that wait (`specs/Rules.antt`). Assumes nothing.
use Prim.Native.Nat.{ℕ}
use mathlib.Core.Path.{◌≡◌, refl, sym, ap, ◌∙◌, subst}
use mathlib.Core.Bool.{Bool, true, false, cond, not, ◌&&◌, ◌||◌, false≢true, and-false}
use mathlib.Core.List.{List}
use mathlib.Core.Logic.{◌⊎◌, inl, inr, ⊎_elim, ◌≢◌}
use native.Mathlib.Omega.{arith}
use lib.Dec.{eqb}
use lib.ListN.{length}
use Rattle.wire.proofs.Choice.{either}
use Rattle.header.specs.Header.{header_of}
use Rattle.settings.specs.declared.terms.Terms.{Terms}
use Rattle.place.specs.Fate.{fate_of}
use Rattle.place.specs.Own.{own_kept}
use Rattle.place.specs.declared.Fate.{Fate}
use Rattle.place.specs.declared.Fate.TheVariants as fate
use Rattle.place.specs.declared.Own.{Own}
use Rattle.table.specs.Number.{next_number}
use Rattle.reports.specs.Reports.{report, waiting_in, added}
use Rattle.reports.specs.Theorems.{Sound}
use Rattle.reports.specs.declared.Report.{Report}
use Rattle.reports.specs.declared.Reports.{Reports}
use Rattle.exchange.specs.Note.{note_by, note_number}
use Rattle.exchange.specs.Exchange.{own_place, put_own, put_incoming, with_sending, sent_from, sent_behind, put_replied, saved_now}
use Rattle.exchange.specs.Request.{sending_by}
use Rattle.exchange.specs.Reports.{outbox_of, with_outbox, reported, starts, caused, oldest_starts, is_over, freed, freed_in}
use Rattle.exchange.specs.Judge.{thrown, reply_block, message_block, begins_at, rules_of, judge_of, caused_by, box_behind}
use Rattle.exchange.specs.Rules.{Fours, noted, Untouched, OfReplyToSent, Causes, misrouted, too_long_lem, CausesNone, Begun, PutBy, Boxed, BoxGoes}
use Rattle.exchange.specs.Reporting.{proves}
use Rattle.exchange.specs.declared.Note.{Note}
use Rattle.exchange.specs.declared.Note.TheVariants.{Kept, Misrouted, Duplicate, Stray, NoPlace, TooLong, Empty}
use Rattle.exchange.specs.declared.Sending.{Sending}
use Rattle.exchange.specs.declared.Sending.TheVariants as sending
use Rattle.exchange.specs.declared.Outbox.{Outbox}
use Rattle.exchange.specs.declared.Exchange.{Exchange}
use Rattle.exchange.proofs.Cases.{by_judge}
use Rattle.exchange.proofs.Leaving as leaving
use Rattle.exchange.proofs.Unreported.{not_over}
use Rattle.exchange.proofs.Causing.{Started, reported_starts, reported_waits, host_silent, equipment_reports, goes_on_lem, frees, none_starts, starts_so, oldest_so}

-- ---- the causes

-- a cause is note 22 or 26, at the equipment
causes : {c : Terms} {h : List ℕ} {n : ℕ} {r : Report} → Causes c h n r
    → (c.host ≡ false) × (((n ≡ 22) × (r ≡ report 1 h)) ⊎ ((n ≡ 26) × (r ≡ report 11 h)))
causes (misrouted e) = (e, inl (refl, refl))
causes (too_long_lem e) = (e, inr (refl, refl))

pub no_cause : {c : Terms} {h : List ℕ} {n : ℕ} {r : Report} → n ≢ 22 → n ≢ 26 → Causes c h n r → ⊥
no_cause a b k = ⊎_elim (λ v. a v.0) (λ v. b v.0) (causes k).1

-- at a host there is none
pub none_at_host : {c : Terms} {h : List ℕ} {n : ℕ} {r : Report} → c.host ≡ true → Causes c h n r → ⊥
none_at_host e k = false≢true (sym (causes k).0 ∙ e)

module _ (c : Terms) (y : Exchange) (h : List ℕ) (b : Outbox) where
  -- by a block that causes none nothing is reported
  pub none_caused : (n : Note) → CausesNone c h (note_number n) → caused_by n c y h b ≡ b
  none_caused Kept none = refl
  none_caused Misrouted none =
      either c.host (λ t. c.host ≡ t → caused_by Misrouted c y h b ≡ b) (λ t e. host_silent y.own y.numbers.latest b c (report 1 h) e)
      (λ t e. absurd (none (report 1 h) (misrouted e))) refl
  none_caused Duplicate none = refl
  none_caused Stray none = refl
  none_caused NoPlace none = refl
  none_caused TooLong none =
      either c.host (λ t. c.host ≡ t → caused_by TooLong c y h b ≡ b) (λ t e. host_silent y.own y.numbers.latest b c (report 11 h) e)
      (λ t e. absurd (none (report 11 h) (too_long_lem e))) refl
  none_caused Empty none = refl

  -- and by one that causes a report that one is due
  due : (r s : Report) → c.host ≡ false → s ≡ r → caused c y.own y.numbers.latest b r ≡ reported y.own y.numbers.latest b s
  due r s e same = equipment_reports y.own y.numbers.latest b c r e ∙ ap (reported y.own y.numbers.latest b) (sym same)

  one_caused : (n : Note) (r : Report) → Causes c h (note_number n) r → caused_by n c y h b ≡ reported y.own y.numbers.latest b r
  one_caused Kept r k = absurd (no_cause (λ e. omega arith) (λ e. omega arith) k)
  one_caused Misrouted r k = let w = causes k in due (report 1 h) r w.0 (⊎_elim (λ v. v.1) (λ v. absurd (omega arith)) w.1)
  one_caused Duplicate r k = absurd (no_cause (λ e. omega arith) (λ e. omega arith) k)
  one_caused Stray r k = absurd (no_cause (λ e. omega arith) (λ e. omega arith) k)
  one_caused NoPlace r k = absurd (no_cause (λ e. omega arith) (λ e. omega arith) k)
  one_caused TooLong r k = let w = causes k in due (report 11 h) r w.0 (⊎_elim (λ v. absurd (omega arith)) (λ v. v.1) w.1)
  one_caused Empty r k = absurd (no_cause (λ e. omega arith) (λ e. omega arith) k)

-- ---- what the seven rules leave

-- something is being sent
pub busy : (z : Sending) → z ≢ sending.Nothing → sending_by z ≡ true
busy sending.Nothing n = absurd (n refl)
busy (sending.Primary p n) e = refl
busy (sending.Reply p f n) e = refl
busy (sending.Report f n) e = refl

pub sent_busy : (z : Sending) (p : ℕ) → sent_from z p ≡ true → sending_by z ≡ true
sent_busy sending.Nothing p e = absurd (false≢true e)
sent_busy (sending.Primary q n) p e = refl
sent_busy (sending.Reply q f n) p e = absurd (false≢true e)
sent_busy (sending.Report f n) p e = absurd (false≢true e)

-- a note that tells that a block is of a message which has its place
ends_told : (f : Fate) → (let n = note_number (note_by f) in eqb n 21 || (eqb n 26 || eqb n 27) ≡ true)
ends_told fate.Empty = refl
ends_told fate.TooLong = refl
ends_told (fate.Last n) = refl
ends_told (fate.More n) = refl

module _ (c : Terms) (x : Exchange) (h d room : List ℕ) where
  -- the last number, and the reports, stay
  pub rules_spare : ((rules_of c x h d room).answer.exchange.numbers.last ≡ x.numbers.last) × ((rules_of c x h d room).answer.exchange.reports ≡ x.reports)
  unfolding thrown reply_block message_block begins_at put_own put_replied put_incoming with_sending saved_now
  rules_spare =
      by_judge c x h d room (λ j. (j.answer.exchange.numbers.last ≡ x.numbers.last) × (j.answer.exchange.reports ≡ x.reports))
      (λ q. (refl, refl)) (λ q u. (refl, refl)) (λ p q r. (refl, refl)) (λ p q r m. (refl, refl)) (λ p gone f q r m o e s t. (refl, refl))
      (λ n t r m. (refl, refl))

  -- the message that is being sent is over exactly if the block proves it received
  pub proven : (rules_of c x h d room).answer.exchange.sending ≡ cond (proves x h (noted (rules_of c x h d room))) sending.Nothing x.sending
  unfolding thrown reply_block message_block begins_at put_replied put_incoming with_sending sent_behind saved_now
  proven =
      by_judge c x h d room (λ j. j.answer.exchange.sending ≡ cond (proves x h (noted j)) sending.Nothing x.sending)
      (λ q. refl) (λ q u. refl)
      (λ p q r. rw (r, ends_told (fate_of (header_of h) (own_kept (own_place x p)).length (length d))))
      (λ p q r m. rw (r, and-false)) (λ p gone f q r m o e s t. rw r) (λ n t r m. rw (r, and-false))

  -- A block that proves nothing received, and of which nothing is reported, frees no line: what is being sent, the last number and the reports are
  -- as they were, whatever is in the places.
  spares : proves x h (noted (rules_of c x h d room)) ≡ false → CausesNone c h (noted (rules_of c x h d room))
      → box_behind c x.sending h (rules_of c x h d room).answer ≡ outbox_of x
  unfolding freed_in freed box_behind rules_of
  spares unproved none =
      let j = (rules_of c x h d room).answer in
      let y = j.exchange in
      let sends : y.sending ≡ x.sending = proven ∙ ap (λ (t : Bool). cond t sending.Nothing x.sending) unproved in
      none_caused c y h (freed_in x.sending y) j.note none
      ∙ goes_on_lem y.own y.numbers.latest (outbox_of y) x.sending (ap (is_over x.sending) sends ∙ not_over x.sending)
      ∙ (λ i. record { last = rules_spare.0 i; sending = sends i; reports = rules_spare.1 i })

  -- so where the places and the saved header are as they were, everything is
  pub all_spared : proves x h (noted (rules_of c x h d room)) ≡ false → CausesNone c h (noted (rules_of c x h d room)) → Untouched x room (judge_of c x h d room)
      → (judge_of c x h d room).answer.exchange ≡ x
  all_spared unproved none w =
      let box = spares unproved none in
      λ i. record {
        own = w.own i;
        incoming = w.incoming i;
        saved = w.saved i;
        numbers = record { last = (box i).last; latest = w.latest i };
        sending = (box i).sending;
        reports = (box i).reports;
      }

-- ---- and the reports behind them

-- report r begins, where the line was free or was freed
pub begun : (y : Exchange) (b a : Outbox) (last dropped : ℕ) (r : Report) (rest : List Report) → b.last ≡ last → b.reports.dropped ≡ dropped
    → Started y.own y.numbers.latest b r rest a → Begun last r rest dropped (with_outbox y a)
begun y b a last dropped r rest e f w = record {
  number = w.number ∙ ap (λ (n : ℕ). next_number y.own n y.numbers.latest) e;
  sending = w.sending;
  shown = w.shown;
  waiting = w.waiting;
  dropped_stays = w.dropped ∙ f;
}

module _ (c : Terms) (x : Exchange) (h d room : List ℕ) (four : Fours x) where
  -- what the rules left, with what is being sent and the reports
  abbrev y : Exchange
  y = (rules_of c x h d room).answer.exchange

  abbrev own : List Own
  own = y.own

  abbrev latest : ℕ
  latest = y.numbers.latest

  abbrev note : Note
  note = (rules_of c x h d room).answer.note

  abbrev Left : Outbox → Type 0
  Left b = (b.last ≡ x.numbers.last) × (b.sending ≡ x.sending) × (b.reports ≡ x.reports)

  last_same : (outbox_of y).last ≡ x.numbers.last
  last_same = (rules_spare c x h d room).0

  reports_same : (outbox_of y).reports ≡ x.reports
  reports_same = (rules_spare c x h d room).1

  -- the message goes on: the line is not freed
  not_freed : (OfReplyToSent c x h → ⊥) → freed_in x.sending y ≡ outbox_of y
  unfolding freed_in freed
  not_freed none = goes_on_lem own latest (outbox_of y) x.sending (ap (is_over x.sending) (leaving.goes_on_lem c x h d room four none) ∙ not_over x.sending)

  -- it is over
  freed_now : OfReplyToSent c x h → freed_in x.sending y ≡ oldest_starts own latest (outbox_of y)
  unfolding is_over freed_in freed
  freed_now w =
      frees own latest (outbox_of y) x.sending
      (ap (λ (z : Sending). sending_by x.sending && not (sending_by z)) (leaving.ends c x h d room four w) ∙ rw (sent_busy x.sending w.place w.sent))

  -- nothing is reported
  quiet : CausesNone c h (note_number note) → box_behind c x.sending h (rules_of c x h d room).answer ≡ freed_in x.sending y
  unfolding box_behind rules_of
  quiet none = none_caused c y h (freed_in x.sending y) note none

  -- something is
  loud : (r : Report) → Causes c h (note_number note) r → (OfReplyToSent c x h → ⊥)
      → box_behind c x.sending h (rules_of c x h d room).answer ≡ reported own latest (outbox_of y) r
  unfolding box_behind rules_of
  loud r k none = one_caused c y h (freed_in x.sending y) note r k ∙ ap (λ (b : Outbox). reported own latest b r) (not_freed none)

  boxed : Boxed c x h (note_number note) (judge_of c x h d room).answer.exchange
  boxed = record {
    stays = λ of_it none.
        subst Left (sym (quiet none ∙ not_freed of_it)) (last_same, leaving.goes_on_lem c x h d room four of_it, reports_same);
    withdrawn = λ of_it none idle.
        let over = none_starts own latest (outbox_of y) (ap (λ (r : Reports). r.count) reports_same ∙ idle) in
        subst (λ (b : Outbox). (b.last ≡ x.numbers.last) × (b.sending ≡ sending.Nothing) × (b.reports ≡ x.reports)) (sym (quiet none ∙ freed_now of_it ∙ over))
        (last_same, leaving.ends c x h d room four of_it, reports_same);
    freed = λ sound of_it none r rest first.
        subst (λ (b : Outbox). Begun x.numbers.last r rest x.reports.dropped (with_outbox y b)) (sym (quiet none ∙ freed_now of_it))
        (begun y (outbox_of y) _ x.numbers.last x.reports.dropped r rest last_same (ap (λ (a : Reports). a.dropped) reports_same)
        (oldest_so own latest (outbox_of y) (subst Sound (sym reports_same) sound) r rest (ap waiting_in reports_same ∙ first)));
    begins = λ sound r k idle.
        let of_it : OfReplyToSent c x h → ⊥ = λ w. false≢true (ap sending_by (sym idle) ∙ sent_busy x.sending w.place w.sent) in
        let free : sending_by y.sending ≡ false = ap sending_by (leaving.goes_on_lem c x h d room four of_it ∙ idle) in
        subst (λ (b : Outbox). Begun x.numbers.last r (waiting_in x.reports) x.reports.dropped (with_outbox y b))
        (sym (loud r k of_it ∙ reported_starts own latest (outbox_of y) r free))
        (begun y (outbox_of y) _ x.numbers.last x.reports.dropped r (waiting_in x.reports) last_same (ap (λ (a : Reports). a.dropped) reports_same)
        (subst (λ (l : List Report). Started own latest (outbox_of y) r l (starts own latest (outbox_of y) r)) (ap waiting_in reports_same)
        (starts_so own latest (outbox_of y) (subst Sound (sym reports_same) sound) r)));
    waits = λ r k of_it sent.
        let same = leaving.goes_on_lem c x h d room four of_it in
        let taken : sending_by y.sending ≡ true = ap sending_by same ∙ busy x.sending sent in
        subst (λ (b : Outbox). PutBy r x (with_outbox y b)) (sym (loud r k of_it ∙ reported_waits own latest (outbox_of y) r taken))
        (record { last = last_same; sending = same; reports = ap (λ (a : Reports). added a r) reports_same });
  }

pub box_goes : BoxGoes
box_goes c x h d room four = boxed c x h d room four
