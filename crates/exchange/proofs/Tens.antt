-- Every header that is kept to be shown by a report has ten bytes, as "the ten header bytes of the offending block" (02, request 2) have: those
-- of the own places, of the reports that wait, and of the one on its way, after any calls whose blocks have a header of ten. So a report is
-- one block of twelve data bytes. Assumes nothing.
use Rattle.std.specs.Prelude.{Ok, Err}
use Prim.Native.Nat.{ℕ, zero, suc, ◌<◌}
use mathlib.Core.Path.{◌≡◌, refl, sym, ap, subst, ◌∙◌}
use mathlib.Core.Bool.{false}
use mathlib.Core.List.{List, [], ◌∷◌}
use lib.Dec.{eqb, ltb}
use lib.ListN.{length, get_or, set}
use borrow.Author.Tests.{eqb-true, eqb-false}
use Rattle.wire.proofs.Choice.{either, chosen}
use Rattle.header.specs.Header.{header_bytes}
use Rattle.header.specs.declared.header.Header.{Header}
use Rattle.settings.specs.declared.terms.Terms.{Terms}
use Rattle.place.specs.Own.{fresh_own}
use Rattle.place.specs.declared.Own.{Own}
use Rattle.reports.specs.Reports.{no_report, waits_behind, drops, added, oldest, without_oldest, showing}
use Rattle.reports.specs.declared.Report.{Report}
use Rattle.reports.specs.declared.Reports.{Reports}
use Rattle.exchange.specs.Exchange.{fresh_exchange, own_place, put_own, put_incoming, with_sending, sent_from}
use Rattle.exchange.specs.Judge.{rules_of, box_behind}
use Rattle.exchange.specs.Tick.{passed_of}
use Rattle.exchange.specs.Send.{sent_by, failed_by}
use Rattle.exchange.specs.Request.{sending_by, refused_by, refused, claimed_at, reply_accepted, Request, primary, reply, freeing_own, freeing_incoming, answer_of}
use Rattle.exchange.specs.Reports.{awaits, starts, without_first}
use Rattle.exchange.specs.Rules.{Fours}
use Rattle.exchange.specs.History.{Call, block, tick, put_out, acknowledged, failed, request, called}
use Rattle.exchange.specs.declared.Outbox.{Outbox}
use Rattle.exchange.specs.declared.Exchange.{Exchange}
use Rattle.exchange.specs.declared.Primary.{Primary}
use Rattle.exchange.proofs.Unreported.{such_freed, such_judged, such_ticked}
use Rattle.exchange.proofs.Accepting.{accepted_opens}
use Rattle.exchange.proofs.Boxes.{rules_spare}
use Rattle.exchange.proofs.Cases.{by_request}
use Rattle.exchange.proofs.Repeated.{any_fresh}
use Rattle.exchange.proofs.Reporting.{same_header, NoneSeen, keeps_on, either_none, block_none, refused_none, reply_none, free_own_none, free_incoming_none, out_spares, sent_spares}
use Rattle.exchange.specs.Asked.{Asked}

-- ---- ten bytes

abbrev Ten : List ℕ → Type 0
Ten h = length h ≡ 10

ten_bytes : (h : Header) → Ten (header_bytes h)
unfolding header_bytes
ten_bytes h = refl

-- ---- the reports that wait

abbrev TenOf : Report → Type 0
TenOf r = Ten r.header

-- each slot, used or not
abbrev TensIn : List Report → Type 0
TensIn [] = Unit {0}
TensIn (r ∷ rs) = TenOf r × TensIn rs

slot_ten : (l : List Report) → TensIn l → (i : ℕ) → TenOf (get_or l i no_report)
slot_ten [] w i = refl
slot_ten (r ∷ rs) w zero = w.0
slot_ten (r ∷ rs) w (suc i) = slot_ten rs w.1 i

set_tens : (l : List Report) → TensIn l → (i : ℕ) (r : Report) → TenOf r → TensIn (set l i r)
set_tens [] w i r t = tt
set_tens (a ∷ l) w zero r t = (t, w.1)
set_tens (a ∷ l) w (suc i) r t = (w.0, set_tens l w.1 i r t)

-- what the one on its way shows, and what those that wait will
pub record TensKept (r : Reports) : Type 0 where
  pub shown : Ten r.shown
  pub waiting : TensIn r.waiting

added_tens : (r : Reports) (new : Report) → TenOf new → TensKept r → TensKept (added r new)
unfolding added
added_tens r new t w =
    chosen TensKept (ltb r.count 8) (waits_behind r new) (drops r)
    (λ e. record { shown = w.shown; waiting = set_tens r.waiting w.waiting r.count new t })
    (λ e. record { shown = w.shown; waiting = w.waiting })

oldest_tens : (r : Reports) → TensKept r → TensKept (without_oldest r)
unfolding without_oldest
oldest_tens r w =
    let at = slot_ten r.waiting w.waiting in
    record { shown = w.shown; waiting = (at 1, (at 2, (at 3, (at 4, (at 5, (at 6, (at 7, (refl, tt)))))))) }

-- ---- all that is reported

abbrev Boxed : Outbox → Type 0
Boxed b = TensKept b.reports

module _ (y : Exchange) where
  waits : (b : Outbox) (r : Report) → TenOf r → Boxed b → Boxed (awaits b r)
  waits b r t w = added_tens b.reports r t w

  begins : (b : Outbox) (r : Report) → TenOf r → sending_by b.sending ≡ false → Boxed b → Boxed (starts y.own y.numbers.latest b r)
  unfolding starts showing
  begins b r t e w = record { shown = t; waiting = w.waiting }

  goes : (b : Outbox) → eqb b.reports.count 0 ≡ false → Boxed b → TenOf (oldest b.reports) × Boxed (without_first b)
  goes b e w = (slot_ten b.reports.waiting w.waiting 0, oldest_tens b.reports w)

-- ---- one call

pub record Tens (x : Exchange) : Type 0 where
  pub own : (p : ℕ) → p < 4 → Ten (own_place x p).header
  pub reports : TensKept x.reports

-- a call that the line can make: a block has ten header bytes
abbrev pub TenCall : Call → Type 0
TenCall (block h d) = Ten h
TenCall tick = Unit {0}
TenCall put_out = Unit {0}
TenCall acknowledged = Unit {0}
TenCall failed = Unit {0}
TenCall (request r) = Unit {0}

-- a request asks for no report
pub asked_spares : (c : Terms) (x : Exchange) (room : List ℕ) (r : Request) → (answer_of c x r room).answer.exchange.reports ≡ x.reports
unfolding refused refused_by claimed_at reply_accepted put_own put_incoming with_sending
asked_spares c x room =
    by_request c x room (λ r a. a.answer.exchange.reports ≡ x.reports) (λ r n. refl) (λ q d p u e. refl) (λ p f d u a b. refl) (λ p e. refl) (λ p e. refl)

module _ (c : Terms) (x : Exchange) (room : List ℕ) (four : Fours x) (w : Tens x) where
  abbrev OwnTens : Exchange → Type 0
  OwnTens y = (p : ℕ) → p < 4 → Ten (own_place y p).header

  -- a call that accepts no primary leaves each place its header
  kept_tens : (k : Call) → NoneSeen c x room four k → OwnTens (called c x room k).exchange
  kept_tens k none p less = ap (λ (h : List ℕ). length h) (same_header (keeps_on c x room four k none p less)) ∙ w.own p less

  -- one that does gives its place the header of the primary
  opened_tens : (q : Primary) (d : List ℕ) (p : ℕ) → (answer_of c x (primary q d) room).answer.asked ≡ Ok p → OwnTens (answer_of c x (primary q d) room).answer.exchange
  opened_tens q d p e k less =
      let o = accepted_opens c x q d room four p e in
      let z = (answer_of c x (primary q d) room).answer.exchange in
      either (eqb k p) (λ t. Ten (own_place z k).header)
      (λ t. subst (λ (j : ℕ). Ten (own_place z j).header) (sym (eqb-true k p t)) (subst (λ (a : Own). Ten a.header) (sym o.place) (ten_bytes o.header)))
      (λ t. subst (λ (a : Own). Ten a.header) (sym (o.others k (eqb-false k p t))) (w.own k less))

  asked_tens : (r : Request) (a : Asked) → (answer_of c x r room).answer.asked ≡ a → OwnTens (answer_of c x r room).answer.exchange
  asked_tens (primary q d) (Ok p) e = opened_tens q d p e
  asked_tens (reply k f d) (Ok p) e = kept_tens (request (reply k f d)) (reply_none c x room four k f d)
  asked_tens (freeing_own k) (Ok p) e = kept_tens (request (freeing_own k)) (free_own_none c x room four k)
  asked_tens (freeing_incoming k) (Ok p) e = kept_tens (request (freeing_incoming k)) (free_incoming_none c x room four k)
  asked_tens r (Err n) e = kept_tens (request r) (refused_none c x room four r n e)

  -- the reports of x, where they stayed
  same_tens : (r : Reports) → r ≡ x.reports → TensKept r
  same_tens r e = subst TensKept (sym e) w.reports

  pub tens_on : (k : Call) → TenCall k → Tens (called c x room k).exchange
  unfolding passed_of box_behind rules_of
  tens_on (block h d) t =
      let y = (rules_of c x h d room).answer.exchange in
      record {
        own = kept_tens (block h d) (block_none c x room four h d);
        reports =
            such_judged y TenOf Boxed (waits y) (begins y) (goes y) (rules_of c x h d room).answer.note c x.sending h (λ f. t)
            (same_tens y.reports (rules_spare c x h d room).1);
      }
  tens_on tick t =
      let y = (passed_of c x).exchange in
      let own = kept_tens tick (λ p. refl) in
      record { own = own; reports = such_ticked y TenOf Boxed (waits y) (begins y) (goes y) c x.own own w.reports }
  tens_on put_out t = record {
    own = kept_tens put_out (λ p. either_none (sent_from x.sending p) _ _ refl refl);
    reports = same_tens _ (out_spares x x.sending);
  }
  tens_on acknowledged t =
      let y = (sent_by x.sending x).exchange in
      record {
        own = kept_tens acknowledged (λ p. either_none (sent_from x.sending p) _ _ refl refl);
        reports = such_freed y TenOf Boxed (waits y) (begins y) (goes y) x.sending (same_tens y.reports (sent_spares x x.sending).0);
      }
  tens_on failed t =
      let y = (failed_by x.sending x).exchange in
      record {
        own = kept_tens failed (λ p. either_none (sent_from x.sending p) _ _ refl refl);
        reports = such_freed y TenOf Boxed (waits y) (begins y) (goes y) x.sending (same_tens y.reports (sent_spares x x.sending).1);
      }
  tens_on (request r) t = record { own = asked_tens r (answer_of c x r room).answer.asked refl; reports = same_tens _ (asked_spares c x room r) }

-- ---- a start

pub tens_fresh : (last : ℕ) → Tens (fresh_exchange last)
tens_fresh last = record {
  own = λ p less. ap (λ (o : Own). length o.header) (any_fresh fresh_own 4 p);
  reports = record { shown = refl; waiting = (refl, (refl, (refl, (refl, (refl, (refl, (refl, (refl, tt)))))))) };
}
