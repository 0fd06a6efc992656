-- Which message is being sent, as a user reads it: the place, the function and the length that are named are those of what was accepted, or of
-- the report that started, last (`specs/Reporting.antt`: SendingNamed). Assumes nothing.
use Prim.Native.Nat.{ℕ, ◌≤◌, ◌<◌}
use mathlib.Core.Path.{◌≡◌, refl, sym, ap, subst, ◌∙◌}
use mathlib.Core.Bool.{true}
use mathlib.Core.Logic.{◌↔◌}
use native.Mathlib.Omega.{arith}
use lib.ListN.{length}
use borrow.Author.Tests.{eq-eqb, eqb-true}
use Rattle.reports.specs.declared.Report.{Report}
use Rattle.exchange.specs.Exchange.{sent_from}
use Rattle.exchange.specs.Request.{sending_by}
use Rattle.exchange.specs.Range.{SendingFits}
use Rattle.exchange.specs.Watching.{reply_from}
use Rattle.exchange.specs.Theorems.{length_sent, from_caller}
use Rattle.exchange.specs.Underway.{OnItsWay}
use Rattle.exchange.specs.Posting.{Post}
use Rattle.exchange.specs.declared.Sending.{Sending}
use Rattle.exchange.specs.declared.Sending.TheVariants as sending
use Rattle.exchange.specs.declared.ReplyStage.TheVariants as stage
use Rattle.exchange.proofs.Posting.{Holds}
use Rattle.exchange.proofs.Unreported.{idle}
use Rattle.link.specs.Reading.{message_of}
use Rattle.link.specs.History.{Track, terms_in}
use Rattle.link.specs.Inside.{Reached}
use Rattle.link.specs.Verdicts.{reply_stands}
use Rattle.link.specs.Sends.{sender_seen}
use Rattle.link.specs.Reporting.{SendingNamed}
use Rattle.link.proofs.inside.Courier.{clash}
use Rattle.link.proofs.inside.Range.{link_reached_in_range}
use Rattle.link.proofs.refusals.Ranges.{link_fits}
use Rattle.link.proofs.moves.Own.{underway_exactly}
use Rattle.link.proofs.verdicts.Replies.{on_its_way_exactly}
use Rattle.link.proofs.sends.Counts.{held}
use Rattle.link.proofs.reporting.Kept.{report_kept}

-- ---- by its place

primary_from : (z : Sending) (p : ℕ) → sent_from z p ≡ true → z ≡ sending.Primary p (length_sent z)
primary_from sending.Nothing p e = clash e
primary_from (sending.Primary q n) p e = ap (λ k. sending.Primary k n) (eqb-true q p e)
primary_from (sending.Reply q f n) p e = clash e
primary_from (sending.Report f n) p e = clash e

reply_from_lem : (z : Sending) (p : ℕ) → reply_from z p ≡ true → (f : ℕ) × (z ≡ sending.Reply p f (length_sent z))
reply_from_lem sending.Nothing p e = clash e
reply_from_lem (sending.Primary q n) p e = clash e
reply_from_lem (sending.Reply q f n) p e = (f, ap (λ k. sending.Reply k f n) (eqb-true q p e))
reply_from_lem (sending.Report f n) p e = clash e

-- ---- a primary, a reply

module _ (t : Track) (w : Reached t) where
  abbrev z : Sending
  z = message_of t.link

  abbrev text : ℕ
  text = length (sender_seen t w).message.text

  -- what the onlooker at the door keeps of it
  holds : Holds (w.setup.last ≤ 65535) (terms_in t) t.link.exchange (sender_seen t w).message
  holds = (held t w).carries.holds

  -- its place is one of four
  placed : (y : Sending) → z ≡ y → SendingFits y
  placed y e = subst SendingFits e ((link_fits t.link).0 (link_reached_in_range t w)).sending

  -- a message of the caller's is as long as what was accepted
  as_long : (y : Sending) → z ≡ y → from_caller y ≡ true → length_sent y ≡ text
  as_long y e caller = ap length_sent (sym e) ∙ holds.size (ap from_caller e ∙ caller)

  pub names_primary : (p n : ℕ) → (z ≡ sending.Primary p n) ↔ ((p < 4) × OnItsWay (t.own p).request × (n ≡ text))
  names_primary p n = (
    λ e.
        let less : p < 4 = let f = placed (sending.Primary p n) e in omega (arith, f.0) in
        (less, (underway_exactly t w p less).1 (ap (λ (y : Sending). sent_from y p) e ∙ eq-eqb p p refl), as_long (sending.Primary p n) e refl),
    λ a.
        let e = primary_from z p ((underway_exactly t w p a.0).0 a.1) in
        e ∙ ap (sending.Primary p) (as_long (sending.Primary p (length_sent z)) e refl ∙ sym a.2),
  )

  pub names_reply : (p f n : ℕ)
      → (z ≡ sending.Reply p f n)
      ↔ ((p < 4) × (reply_stands t p ≡ stage.OnItsWay) × (f ≡ (sender_seen t w).message.header.function) × (n ≡ text))
  names_reply p f n = (
    λ e.
        let less : p < 4 = let g = placed (sending.Reply p f n) e in omega (arith, g.0) in (
          less,
          (on_its_way_exactly t w p less).1 (ap (λ (y : Sending). reply_from y p) e ∙ eq-eqb p p refl),
          holds.function p f n e,
          as_long (sending.Reply p f n) e refl,
        ),
    λ a.
        let y = reply_from_lem z p ((on_its_way_exactly t w p a.0).0 a.1) in
        y.1
        ∙ (λ i.
        sending.Reply p ((holds.function p y.0 (length_sent z) y.1 ∙ sym a.2) i)
        ((as_long (sending.Reply p y.0 (length_sent z)) y.1 refl ∙ sym a.3) i)),
  )

-- ---- and a report, or nothing

pub sending_named : SendingNamed
sending_named t w fits = record {
  primary = names_primary t w;
  reply = names_reply t w;
  report = λ f n e.
      let k = report_kept t w fits f n e in
      (sym (ap (λ (r : Report). r.function) k.0), k.1, ap (λ (m : Post). m.header.system) ((holds t w).report f n e));
  none = (ap sending_by, idle (message_of t.link));
}
