-- What a cause, and a line that is freed, leave of the outbox (`specs/Reports.antt`): by itself, and as an onlooker keeps it
-- (`specs/Reporting.antt`). Assumes nothing.
use Prim.Native.Nat.{ℕ, ◌+◌, ◌≤◌, ◌<◌}
use mathlib.Core.Path.{◌≡◌, refl, sym, ap, ◌∙◌, subst}
use mathlib.Core.Bool.{Bool, true, false, cond, not, ◌&&◌, false≢true}
use mathlib.Core.List.{List, [], ◌∷◌, ◌++◌}
use native.Mathlib.Omega.{arith}
use lib.Dec.{ltb}
use lib.ListN.{length, length-append}
use borrow.Author.Tests.{eq-eqb, ne_eqb, le-ltb, ltb-true, ltb-false}
use Rattle.wire.proofs.Choice.{either, chosen}
use Rattle.settings.specs.declared.terms.Terms.{Terms}
use Rattle.place.specs.declared.Own.{Own}
use Rattle.table.specs.Number.{next_number}
use Rattle.reports.specs.Reports.{report, waiting_in, added, oldest, without_oldest}
use Rattle.reports.specs.Theorems.{Sound}
use Rattle.reports.specs.declared.Report.{Report}
use Rattle.reports.specs.declared.Reports.{Reports}
use Rattle.reports.proofs.Waiting.{each_comes, oldest_goes, shown_alone, count_is}
use Rattle.exchange.specs.Request.{sending_by}
use Rattle.exchange.specs.Reports.{starts, awaits, reported, caused, without_first, oldest_starts, is_over, freed}
use Rattle.exchange.specs.Reporting.{Turn, nobody, caller, reporter, Reporter, is_nobody, begins, waits_too, is_lost, counted, is_due, is_caused, oldest_of, ends, TurnIs, up_to}
use Rattle.exchange.specs.declared.Sending.{Sending}
use Rattle.exchange.specs.declared.Sending.TheVariants as sending
use Rattle.exchange.specs.declared.Outbox.{Outbox}
use Rattle.exchange.proofs.Unreported.{not_over}

-- ---- by itself

-- report r has started, and `rest` wait
pub record Started (own : List Own) (latest : ℕ) (b : Outbox) (r : Report) (rest : List Report) (a : Outbox) : Type 0 where
  pub number : a.last ≡ next_number own b.last latest
  pub sending : a.sending ≡ sending.Report r.function a.last
  pub sound : Sound a.reports
  pub shown : a.reports.shown ≡ r.header
  pub waiting : waiting_in a.reports ≡ rest
  pub dropped : a.reports.dropped ≡ b.reports.dropped

-- none waits
pub none_counted : (r : Reports) → Sound r → waiting_in r ≡ [] → r.count ≡ 0
none_counted r sound none = sym (count_is r sound) ∙ ap (λ (l : List Report). length l) none

module _ (own : List Own) (latest : ℕ) (b : Outbox) where
  -- while nothing is being sent it starts
  pub reported_starts : (r : Report) → sending_by b.sending ≡ false → reported own latest b r ≡ starts own latest b r
  unfolding reported
  reported_starts r e = rw e

  -- else it waits
  pub reported_waits : (r : Report) → sending_by b.sending ≡ true → reported own latest b r ≡ awaits b r
  unfolding reported
  reported_waits r e = rw e

  -- a host reports nothing
  pub host_silent : (c : Terms) (r : Report) → c.host ≡ true → caused c own latest b r ≡ b
  unfolding caused
  host_silent c r e = rw e

  pub equipment_reports : (c : Terms) (r : Report) → c.host ≡ false → caused c own latest b r ≡ reported own latest b r
  unfolding caused
  equipment_reports c r e = rw e

  -- a message that was not being sent, or goes on, frees nothing
  pub goes_on_lem : (z : Sending) → is_over z b.sending ≡ false → freed z own latest b ≡ b
  unfolding freed
  goes_on_lem z e = rw e

  -- one that is over frees the line
  pub frees : (z : Sending) → is_over z b.sending ≡ true → freed z own latest b ≡ oldest_starts own latest b
  unfolding freed
  frees z e = rw e

  -- none starts where none waits
  pub none_starts : b.reports.count ≡ 0 → oldest_starts own latest b ≡ b
  unfolding oldest_starts
  none_starts e = rw (eq-eqb b.reports.count 0 e)

  module _ (sound : Sound b.reports) where
    pub starts_so : (r : Report) → Started own latest b r (waiting_in b.reports) (starts own latest b r)
    unfolding starts
    starts_so r =
        let w = shown_alone b.reports sound r.header in
        record { number = refl; sending = refl; sound = w.sound; shown = w.shown; waiting = w.same; dropped = w.dropped }

-- the oldest starts where one waits
pub oldest_so : (own : List Own) (latest : ℕ) (b : Outbox) → Sound b.reports → (r : Report) (rest : List Report) → waiting_in b.reports ≡ r ∷ rest
    → Started own latest b r rest (oldest_starts own latest b)
unfolding oldest_starts
oldest_so own latest b sound r rest e =
    let some : 1 ≤ length (waiting_in b.reports) = rw e (omega arith) in
    let g = oldest_goes b.reports sound some in
    let same : oldest b.reports ∷ waiting_in (without_oldest b.reports) ≡ r ∷ rest = sym g.first ∙ e in
    let first : oldest b.reports ≡ r = cc in
    let others : waiting_in (without_oldest b.reports) ≡ rest = cc in
    let n = count_is b.reports sound in
    let w = starts_so own latest (without_first b) g.sound (oldest b.reports) in
    let number : ℕ = (starts own latest (without_first b) (oldest b.reports)).last in
    rw (ne_eqb b.reports.count 0 (λ z. omega arith))
    (record {
      number = w.number;
      sending = w.sending ∙ ap (λ (a : Report). sending.Report a.function number) first;
      sound = w.sound;
      shown = w.shown ∙ ap (λ (a : Report). a.header) first;
      waiting = w.waiting ∙ others;
      dropped = w.dropped ∙ g.dropped;
    })

-- ---- as an onlooker keeps it

-- what is being sent and the reports r are as the onlooker has them
pub record BoxIs (z : Sending) (r : Reports) (s : Reporter) : Type 0 where
  pub sound : Sound r
  pub turn : TurnIs z s.turn s.underway r.shown
  pub waiting : waiting_in r ≡ s.waiting
  pub dropped : r.dropped ≡ up_to s.lost
  pub none_lost : s.causes ≡ s.starts + length s.waiting + s.lost
  pub most : length s.waiting ≤ 8
  pub none_idle : s.turn ≡ nobody → s.waiting ≡ []

-- it is somebody's turn exactly if something is being sent
pub turn_taken : (z : Sending) (t : Turn) (r : Report) (shown : List ℕ) → TurnIs z t r shown → sending_by z ≡ not (is_nobody t)
turn_taken sending.Nothing t r shown e = rw e
turn_taken (sending.Primary p n) t r shown e = rw e
turn_taken (sending.Reply p f n) t r shown e = rw e
turn_taken (sending.Report f n) t r shown e = rw e.0

-- the count of those that are dropped stops where the state's does
up_one : (lost before after : ℕ) → before ≡ up_to lost → (before < 4294967295 → after ≡ before + 1) → (4294967295 ≤ before → after ≡ before)
    → after ≡ up_to (lost + 1)
up_one lost before after e counts stops =
    either (ltb lost 4294967295) (λ t. before ≡ cond t lost 4294967295 → after ≡ up_to (lost + 1))
    (λ t same.
    let less : lost < 4294967295 = ltb-true _ _ t in
    either (ltb (lost + 1) 4294967295) (λ u. after ≡ cond u (lost + 1) 4294967295)
    (λ u. let k = counts (omega arith) in omega arith)
    (λ u. let k = counts (omega arith) in let v = ltb-false (lost + 1) 4294967295 u in omega arith))
    (λ t same.
    let above : 4294967295 ≤ lost = ltb-false _ _ t in
    rw (le-ltb (lost + 1) 4294967295 (omega arith)) (let k = stops (omega arith) in omega arith))
    e

-- a report that starts is the reporter's turn
begins_is : (own : List Own) (latest : ℕ) (b : Outbox) (r : Report) (rest : List Report) (a : Outbox) (s : Reporter) → Started own latest b r rest a
    → b.reports.dropped ≡ up_to s.lost → s.causes ≡ s.starts + 1 + length rest + s.lost → length rest ≤ 8
    → BoxIs a.sending a.reports (begins r rest s)
begins_is own latest b r rest a s w dropped none_lost most = record {
  sound = w.sound;
  turn = subst (λ (z : Sending). TurnIs z reporter r a.reports.shown) (sym w.sending)
      (refl, λ i. report r.function (sym w.shown i));
  waiting = w.waiting;
  dropped = w.dropped ∙ dropped;
  none_lost = none_lost;
  most = most;
  none_idle = λ e. let z : ◌≡◌ {A = ℕ} 0 1 = cc in absurd (omega arith);
}

module _ (own : List Own) (latest : ℕ) (b : Outbox) (s : Reporter) where
  -- one that waits, or is dropped
  waits_is : (r : Report) → BoxIs b.sending b.reports s → is_nobody s.turn ≡ false
      → BoxIs b.sending (added b.reports r) (cond (ltb (length s.waiting) 8) (waits_too r (counted s)) (is_lost (counted s)))
  waits_is r w busy =
      let comes = each_comes b.reports w.sound r in
      let idle : s.turn ≡ nobody → ⊥ = λ e. false≢true (sym busy ∙ ap is_nobody e) in
      chosen (BoxIs b.sending (added b.reports r)) (ltb (length s.waiting) 8) (waits_too r (counted s)) (is_lost (counted s))
      (λ t.
      let few : length s.waiting < 8 = ltb-true _ _ t in
      let k = comes.waits (rw w.waiting few) in
      let one : length (s.waiting ++ (r ∷ [])) ≡ length s.waiting + 1 = length-append s.waiting (r ∷ []) in
      record {
        sound = k.sound;
        turn = subst (TurnIs b.sending s.turn s.underway) (sym k.shown) w.turn;
        waiting = k.behind ∙ ap (λ (l : List Report). l ++ (r ∷ [])) w.waiting;
        dropped = k.dropped ∙ w.dropped;
        none_lost = omega (arith, w.none_lost);
        most = omega arith;
        none_idle = λ e. absurd (idle e);
      })
      (λ t.
      let full : length s.waiting ≡ 8 = omega (arith, ltb-false (length s.waiting) 8 t, w.most) in
      let k = comes.drops (ap (λ (l : List Report). length l) w.waiting ∙ full) in
      record {
        sound = k.sound;
        turn = subst (TurnIs b.sending s.turn s.underway) (sym k.shown) w.turn;
        waiting = k.same ∙ w.waiting;
        dropped = up_one s.lost b.reports.dropped (added b.reports r).dropped w.dropped k.counted k.stops;
        none_lost = omega (arith, w.none_lost);
        most = w.most;
        none_idle = λ e. absurd (idle e);
      })

  due_is : (r : Report) → BoxIs b.sending b.reports s → (let a = reported own latest b r in BoxIs a.sending a.reports (is_due r s))
  unfolding is_due
  due_is r w =
      let taken = turn_taken b.sending s.turn s.underway b.reports.shown w.turn in
      either (is_nobody s.turn)
      (λ t.
      sending_by b.sending ≡ not t
      → (let a = reported own latest b r in
      BoxIs a.sending a.reports
      (cond t (begins r s.waiting (counted s)) (cond (ltb (length s.waiting) 8) (waits_too r (counted s)) (is_lost (counted s))))))
      (λ t e.
      rw (reported_starts own latest b r e)
      (begins_is own latest b r s.waiting (starts own latest b r) (counted s)
      (subst (λ (l : List Report). Started own latest b r l (starts own latest b r)) w.waiting (starts_so own latest b w.sound r))
      w.dropped (omega (arith, w.none_lost)) w.most))
      (λ t e. rw (reported_waits own latest b r e) (waits_is r w t))
      taken

  -- a cause
  pub caused_is : (c : Terms) (r : Report) → BoxIs b.sending b.reports s → (let a = caused c own latest b r in BoxIs a.sending a.reports (is_caused c r s))
  unfolding caused
  caused_is c r w =
      either c.host (λ t. let a = cond t b (reported own latest b r) in BoxIs a.sending a.reports (cond t s (is_due r s))) (λ t. w) (λ t. due_is r w)

  -- the line is free: the oldest starts, or nobody's turn it is
  oldest_is : (z : Sending) → BoxIs z b.reports s → b.sending ≡ sending.Nothing → (l : List Report) → s.waiting ≡ l
      → (let a = oldest_starts own latest b in BoxIs a.sending a.reports (oldest_of l s))
  oldest_is z w free [] e =
      rw (none_starts own latest b (none_counted b.reports w.sound (w.waiting ∙ e)))
      (record {
        sound = w.sound;
        turn = subst (λ (y : Sending). TurnIs y nobody s.underway b.reports.shown) (sym free) refl;
        waiting = w.waiting;
        dropped = w.dropped;
        none_lost = w.none_lost;
        most = w.most;
        none_idle = λ i. e;
      })
  oldest_is z w free (r ∷ rest) e =
      let n : length s.waiting ≡ length rest + 1 = ap (λ (l : List Report). length l) e ∙ omega arith in
      begins_is own latest b r rest (oldest_starts own latest b) s (oldest_so own latest b w.sound r rest (w.waiting ∙ e)) w.dropped
      (omega (arith, w.none_lost)) (omega (arith, w.most))

  -- the message z is over
  module _ (z : Sending) (w : BoxIs z b.reports s) (free : b.sending ≡ sending.Nothing) where
    abbrev Left : Reporter → Type 0
    Left u = let a = freed z own latest b in BoxIs a.sending a.reports u

    -- somebody's turn it was
    line_freed : (t : Turn) → sending_by z ≡ true → s.turn ≡ t → ends t s ≡ oldest_of s.waiting s → Left (ends s.turn s)
    unfolding is_over
    line_freed t busy e same =
        rw (frees own latest b z (ap (λ (y : Sending). sending_by z && not (sending_by y)) free ∙ rw busy))
        (subst (λ (u : Turn). (let a = oldest_starts own latest b in BoxIs a.sending a.reports (ends u s))) (sym e) (rw same (oldest_is z w free s.waiting refl)))

    over_at : (y : Sending) → z ≡ y → TurnIs y s.turn s.underway b.reports.shown → Left (ends s.turn s)
    unfolding is_over
    over_at sending.Nothing e t =
        rw (goes_on_lem own latest b z (ap (λ (y : Sending). sending_by y && not (sending_by b.sending)) e))
        (subst (λ (u : Turn). BoxIs b.sending b.reports (ends u s)) (sym t) (subst (λ (y : Sending). BoxIs y b.reports s) (e ∙ sym free) w))
    over_at (sending.Primary p n) e t = line_freed caller (ap sending_by e) t refl
    over_at (sending.Reply p f n) e t = line_freed caller (ap sending_by e) t refl
    over_at (sending.Report f n) e t = line_freed reporter (ap sending_by e) t.0 refl

    pub over_is : (let a = freed z own latest b in BoxIs a.sending a.reports (ends s.turn s))
    over_is = over_at z refl w.turn

  -- or is not, where t is false
  pub freed_is : (z : Sending) → BoxIs z b.reports s → (t : Bool) → b.sending ≡ cond t sending.Nothing z
      → (let a = freed z own latest b in BoxIs a.sending a.reports (cond t (ends s.turn s) s))
  freed_is z w true e = over_is z w e
  freed_is z w false e = rw (goes_on_lem own latest b z (ap (is_over z) e ∙ not_over z)) (rw e w)
