-- What a tick, and the end of a send, do to what is being sent, to the last number and to the reports that wait, in plain words
-- (`specs/Reporting.antt`: TickAdds, EndFrees). Assumes nothing.
use Prim.Native.Nat.{ℕ, zero, suc}
use mathlib.Core.Path.{◌≡◌, refl, sym, ap, ◌∙◌, subst}
use mathlib.Core.Bool.{Bool, true, false, cond}
use mathlib.Core.Logic.{◌≢◌}
use mathlib.Core.List.{List, [], ◌∷◌, ◌++◌, append-nil}
use Rattle.wire.proofs.Choice.{either}
use Rattle.settings.specs.declared.terms.Terms.{Terms}
use Rattle.place.specs.declared.Own.{Own}
use Rattle.table.specs.Own.{own_at}
use Rattle.reports.specs.Reports.{report, waiting_in}
use Rattle.reports.specs.Theorems.{Sound}
use Rattle.reports.specs.declared.Report.{Report}
use Rattle.reports.specs.declared.Reports.{Reports}
use Rattle.exchange.specs.Exchange.{put_own, put_incoming, with_sending, own_place}
use Rattle.exchange.specs.Request.{sending_by}
use Rattle.exchange.specs.Reports.{outbox_of, with_outbox, reported, caused, is_over, oldest_starts, freed_in, freed}
use Rattle.exchange.specs.Tick.{passed_of, tick_of, got_no_reply, late_at, late_over}
use Rattle.exchange.specs.Send.{ended_own, ended_reply, ended_report, sent_by, failed_by}
use Rattle.exchange.specs.Reading.{own_reading}
use Rattle.exchange.specs.Rules.{Begun, PutBy}
use Rattle.exchange.specs.Reporting.{late_in, lates_in, Adds, no_more, one_starts, one_waits, TickAdds, PutDown, Frees, EndFrees}
use Rattle.exchange.specs.declared.Sending.{Sending}
use Rattle.exchange.specs.declared.Sending.TheVariants as sending
use Rattle.exchange.specs.declared.Outbox.{Outbox}
use Rattle.exchange.specs.declared.Exchange.{Exchange}
use Rattle.exchange.proofs.Unreported.{none_freed, idle, some_sent, added_sound}
use Rattle.exchange.proofs.Causing.{none_counted, reported_starts, reported_waits, host_silent, equipment_reports, frees, none_starts, starts_so, oldest_so}
use Rattle.exchange.proofs.Boxes.{busy, begun}
use Rattle.exchange.proofs.Reporting.{gets_six}

-- ---- a tick

-- y is what the tick leaves of the places
module _ (c : Terms) (y : Exchange) where
  abbrev From : Outbox → Exchange
  From b = with_outbox y b

  -- a report that is due at the equipment
  module _ (b : Outbox) (sound : Sound b.reports) (r : Report) (tool : c.host ≡ false) where
    abbrev due : Outbox
    due = caused c y.own y.numbers.latest b r

    due_is : due ≡ reported y.own y.numbers.latest b r
    due_is = equipment_reports y.own y.numbers.latest b c r tool

    due_sound : Sound due.reports
    due_sound =
        either (sending_by b.sending) (λ t. sending_by b.sending ≡ t → Sound due.reports)
        (λ t e. subst (λ (a : Outbox). Sound a.reports) (sym (due_is ∙ reported_waits y.own y.numbers.latest b r e)) (added_sound b.reports r sound))
        (λ t e. subst (λ (a : Outbox). Sound a.reports) (sym (due_is ∙ reported_starts y.own y.numbers.latest b r e))
        (starts_so y.own y.numbers.latest b sound r).sound)
        refl

    due_adds : (rs : List Report) (z : Exchange) → Adds rs (From due) z → Adds (r ∷ rs) (From b) z
    due_adds rs z w =
        either (sending_by b.sending) (λ t. sending_by b.sending ≡ t → Adds (r ∷ rs) (From b) z)
        (λ t e.
        let is = due_is ∙ reported_waits y.own y.numbers.latest b r e in
        one_waits r rs (From b) (From due) z (record { own = refl; latest = refl }) (some_sent b.sending e)
        (subst (λ (a : Outbox). PutBy r (From b) (From a)) (sym is) (record { last = refl; sending = refl; reports = refl })) w)
        (λ t e.
        let is = due_is ∙ reported_starts y.own y.numbers.latest b r e in
        one_starts r rs (From b) (From due) z (record { own = refl; latest = refl }) (idle b.sending e)
        (subst (λ (a : Outbox). Begun b.last r (waiting_in b.reports) b.reports.dropped (From a)) (sym is)
        (begun y b _ b.last b.reports.dropped r (waiting_in b.reports) refl refl (starts_so y.own y.numbers.latest b sound r))) w)
        refl

  -- own place p, which was o before
  module _ (os : List Own) (p : ℕ) (b : Outbox) where
    abbrev got : Bool
    got = got_no_reply (own_at os p) (own_at y.own p)

    abbrev shown : Report
    shown = report 9 (own_at y.own p).header

    abbrev behind : Outbox
    behind = late_at c os y.own y.numbers.latest p b

    abbrev of_place : List Report
    of_place = cond got (shown ∷ []) []

    place_adds : c.host ≡ false → Sound b.reports → (rs : List Report) (z : Exchange) → Adds rs (From behind) z → Adds (of_place ++ rs) (From b) z
    unfolding late_at
    place_adds tool sound rs z w =
        either got
        (λ t. Adds rs (From (cond t (caused c y.own y.numbers.latest b shown) b)) z → Adds (cond t (shown ∷ []) [] ++ rs) (From b) z)
        (λ t v. due_adds b sound shown tool rs z v) (λ t v. v) w

    place_sound : c.host ≡ false → Sound b.reports → Sound behind.reports
    unfolding late_at
    place_sound tool sound =
        either got (λ t. Sound (cond t (caused c y.own y.numbers.latest b shown) b).reports) (λ t. due_sound b sound shown tool) (λ t. sound)

    place_silent : c.host ≡ true → behind ≡ b
    unfolding late_at
    place_silent host =
        either got (λ t. cond t (caused c y.own y.numbers.latest b shown) b ≡ b)
        (λ t. host_silent y.own y.numbers.latest b c shown host) (λ t. refl)

module _ (c : Terms) (x : Exchange) (sound : Sound x.reports) where
  abbrev left : Exchange
  left = (passed_of c x).exchange

  abbrev box : ℕ → Outbox
  box zero = outbox_of x
  box (suc p) = late_at c x.own left.own left.numbers.latest p (box p)

  -- what is read of a place is what it is
  late_is : (p : ℕ) → late_in x (tick_of c x).exchange p ≡ of_place c left x.own p (box p)
  unfolding own_reading
  late_is p = ap (λ (t : Bool). cond t (report 9 (own_at left.own p).header ∷ []) []) (gets_six (own_place x p) (own_at left.own p))

  ticked : Adds (lates_in c x (tick_of c x).exchange) (with_outbox (tick_of c x).exchange (outbox_of x)) (tick_of c x).exchange
  unfolding passed_of late_over late_at
  ticked =
      either c.host
      (λ t. c.host ≡ t → Adds (cond t [] (late_in x (tick_of c x).exchange 0 ++ (late_in x (tick_of c x).exchange 1 ++ (late_in x (tick_of c x).exchange 2 ++ late_in x (tick_of c x).exchange 3))))
      (with_outbox (tick_of c x).exchange (outbox_of x)) (tick_of c x).exchange)
      (λ t host.
      let silent : box 4 ≡ outbox_of x =
      place_silent c left x.own 3 (box 3) host ∙ place_silent c left x.own 2 (box 2) host ∙ place_silent c left x.own 1 (box 1) host
      ∙ place_silent c left x.own 0 (box 0) host in
      subst (λ (b : Outbox). Adds [] (with_outbox left (outbox_of x)) (with_outbox left b)) (sym silent) (no_more (with_outbox left (outbox_of x))))
      (λ t tool.
      let one = place_sound c left x.own 0 (box 0) tool sound in
      let two = place_sound c left x.own 1 (box 1) tool one in
      let three = place_sound c left x.own 2 (box 2) tool two in
      let end : Adds (of_place c left x.own 3 (box 3)) (with_outbox left (box 3)) (with_outbox left (box 4)) =
      subst (λ (l : List Report). Adds l (with_outbox left (box 3)) (with_outbox left (box 4))) (append-nil (of_place c left x.own 3 (box 3)))
      (place_adds c left x.own 3 (box 3) tool three [] (with_outbox left (box 4)) (no_more (with_outbox left (box 4)))) in
      rw (late_is 0, late_is 1, late_is 2, late_is 3)
      (place_adds c left x.own 0 (box 0) tool sound _ _
      (place_adds c left x.own 1 (box 1) tool one _ _
      (place_adds c left x.own 2 (box 2) tool two _ _ end))))
      refl

pub tick_adds : TickAdds
tick_adds c x four sound = ticked c x sound

-- ---- the end of a send

-- y is the state behind it, before the line is freed
ended : (x y : Exchange) → Sound x.reports → y.numbers.last ≡ x.numbers.last → y.sending ≡ sending.Nothing → y.reports ≡ x.reports
    → Frees x (with_outbox y (freed_in x.sending y))
unfolding is_over freed_in freed
ended x y sound last none reports =
    let over : x.sending ≢ sending.Nothing → freed_in x.sending y ≡ oldest_starts y.own y.numbers.latest (outbox_of y) =
    λ some. frees y.own y.numbers.latest (outbox_of y) x.sending (rw (busy x.sending some, none)) in
    record {
      none = λ e.
          rw e (none_freed y.own y.numbers.latest (outbox_of y))
          ∙ λ i. record { last = last i; sending = (none ∙ sym e) i; reports = reports i };
      empty = λ some e.
          subst (λ (b : Outbox). PutDown x (with_outbox y b))
          (sym (over some ∙ none_starts y.own y.numbers.latest (outbox_of y) (ap (λ (r : Reports). r.count) reports ∙ none_counted x.reports sound e)))
          (record { last = last; sending_none = none; reports = reports });
      oldest = λ some r rest e.
          subst (λ (b : Outbox). Begun x.numbers.last r rest x.reports.dropped (with_outbox y b)) (sym (over some))
          (begun y (outbox_of y) _ x.numbers.last x.reports.dropped r rest last (ap (λ (a : Reports). a.dropped) reports)
          (oldest_so y.own y.numbers.latest (outbox_of y) (subst Sound (sym reports) sound) r rest (ap waiting_in reports ∙ e)));
    }

-- whichever message it was
module _ (x : Exchange) where
  abbrev Down : Exchange → Type 0
  Down y = (y.numbers.last ≡ x.numbers.last) × (y.sending ≡ sending.Nothing) × (y.reports ≡ x.reports)

  pub sent_down : (z : Sending) → z ≡ x.sending → Down (sent_by z x).exchange
  unfolding ended_own ended_reply ended_report put_own put_incoming with_sending
  sent_down sending.Nothing e = (refl, sym e, refl)
  sent_down (sending.Primary p n) e = (refl, refl, refl)
  sent_down (sending.Reply p f n) e = (refl, refl, refl)
  sent_down (sending.Report f n) e = (refl, refl, refl)

  pub failed_down : (z : Sending) → z ≡ x.sending → Down (failed_by z x).exchange
  unfolding ended_own ended_reply ended_report put_own put_incoming with_sending
  failed_down sending.Nothing e = (refl, sym e, refl)
  failed_down (sending.Primary p n) e = (refl, refl, refl)
  failed_down (sending.Reply p f n) e = (refl, refl, refl)
  failed_down (sending.Report f n) e = (refl, refl, refl)

pub end_frees : EndFrees
end_frees x sound =
    let s = sent_down x x.sending refl in
    let f = failed_down x x.sending refl in (
      ended x (sent_by x.sending x).exchange sound s.0 s.1 s.2,
      ended x (failed_by x.sending x).exchange sound f.0 f.1 f.2,
    )
