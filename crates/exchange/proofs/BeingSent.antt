-- Which calls start the message being sent, and which end it (`specs/BeingSent.antt`). Assumes nothing.
use Rattle.std.specs.Prelude.{Ok}
use Prim.Native.Nat.{ℕ}
use mathlib.Core.Path.{◌≡◌, refl, sym, ap, subst, ◌∙◌}
use mathlib.Core.Bool.{true, false, false≢true, true≢false}
use mathlib.Core.List.{List}
use mathlib.Core.Logic.{◌⊎◌, inl, inr, ⊎_elim}
use Rattle.wire.proofs.Choice.{either}
use Rattle.settings.specs.declared.terms.Terms.{Terms}
use Rattle.exchange.specs.Exchange.{put_own, put_incoming, with_sending, sent_from, put_replied, saved_now}
use Rattle.exchange.specs.Reports.{outbox_of, freed, freed_in}
use Rattle.exchange.specs.Send.{put_out_by, ended_own, ended_reply, ended_report, sent_by, freeing, failed_by}
use Rattle.exchange.specs.Judge.{Judging, thrown, reply_block, message_block, begins_at, rules_of}
use Rattle.exchange.specs.Request.{refused_by, refused, sending_by, claimed_at, reply_accepted, Request, lends, answer_of}
use Rattle.exchange.specs.BeingSent.{sending_after, Starts, RequestSends, NoneOrReport, none, report, Withdrawn, ReportBegins, Ended, SendingEnds}
use Rattle.exchange.specs.declared.Sending.{Sending}
use Rattle.exchange.specs.declared.Sending.TheVariants as sending
use Rattle.exchange.specs.declared.Outbox.{Outbox}
use Rattle.exchange.specs.declared.Exchange.{Exchange}
use Rattle.exchange.specs.declared.Changed.{Changed}
use Rattle.exchange.proofs.Unreported.{none_freed, idle, freeing_sends, judged_sends, ticked_sends}
use Rattle.exchange.proofs.Cases.{by_behind, by_judge, by_request}
use Rattle.exchange.proofs.Leaving.{whole}
use Rattle.exchange.proofs.Refusing.{sends}
use Rattle.exchange.proofs.Accepting.{not_taken}

-- ---- a request

module _ (c : Terms) (x : Exchange) (room : List ℕ) where
  becomes : (r : Request) → (answer_of c x r room).answer.exchange.sending ≡ sending_after r (answer_of c x r room).answer.asked x.sending
  unfolding refused refused_by claimed_at reply_accepted put_own put_incoming with_sending
  becomes =
      by_request c x room (λ r a. a.answer.exchange.sending ≡ sending_after r a.answer.asked x.sending) (λ r n. refl)
      (λ q d p u e. refl) (λ p f d u a b. refl) (λ p e. refl) (λ p e. refl)

  starts : (r : Request) (k : ℕ) → (answer_of c x r room).answer.asked ≡ Ok k → lends r ≡ true → Starts x (answer_of c x r room).answer.exchange
  unfolding refused refused_by claimed_at reply_accepted with_sending
  starts r k =
      by_request c x room (λ r a. a.answer.asked ≡ Ok k → lends r ≡ true → Starts x a.answer.exchange) (λ r n e l. absurd (not_taken e))
      (λ q d p u e z l. record { before = u.idle; after = refl }) (λ p f d u a b z l. record { before = u.idle; after = refl })
      (λ p e z l. absurd (false≢true l)) (λ p e z l. absurd (false≢true l)) r

  spares : (r : Request) → lends r ≡ false → (answer_of c x r room).answer.exchange.sending ≡ x.sending
  unfolding refused refused_by put_own put_incoming
  spares =
      by_request c x room (λ r a. lends r ≡ false → a.answer.exchange.sending ≡ x.sending) (λ r n l. refl)
      (λ q d p u e l. absurd (true≢false l)) (λ p f d u a b l. absurd (true≢false l)) (λ p e l. refl) (λ p e l. refl)

pub request_sends : RequestSends
request_sends c x r room = record {
  becomes = becomes c x room r;
  starts = starts c x room r;
  spares = spares c x room r;
}

-- ---- a report starts where no message is being sent

-- it goes on, or a report begins
abbrev Goes : Sending → Sending → Type 0
Goes before z = (z ≡ before) ⊎ ReportBegins before z

begins : (before : Sending) → Goes before sending.Nothing → (f n : ℕ) → Goes before (sending.Report f n)
begins before (inl e) f n = inr (record { was = sym e; now = report f n })
begins before (inr w) f n = inr (record { was = w.was; now = report f n })

-- ---- a block

-- it was the primary of an own place, and no message is being sent
record Ends (before z : Sending) : Type 0 where
  pub place : ℕ
  pub was : sent_from before place ≡ true
  pub now : z ≡ sending.Nothing

-- what the rules leave of it
ruled : (c : Terms) (x : Exchange) (h d room : List ℕ)
    → ((rules_of c x h d room).answer.exchange.sending ≡ x.sending) ⊎ Ends x.sending (rules_of c x h d room).answer.exchange.sending
unfolding thrown reply_block message_block begins_at put_replied put_incoming with_sending saved_now
ruled c x h d room =
    by_judge c x h d room (λ j. (j.answer.exchange.sending ≡ x.sending) ⊎ Ends x.sending j.answer.exchange.sending)
    (λ q. inl refl) (λ q u. inl refl)
    (λ p q r.
    by_behind (λ z. (z ≡ x.sending) ⊎ Ends x.sending z) x.sending p
    (λ e. inr (record { place = p; was = e; now = refl })) (λ e. inl refl))
    (λ p q r m. inl refl) (λ p gone f q r m o e s t. inl refl) (λ n t r m. inl refl)

module _ (c : Terms) (h : List ℕ) (before : Sending) (j : Judging) where
  abbrev y : Exchange
  y = j.answer.exchange

  by_rules : (y.sending ≡ before) ⊎ Ends before y.sending
      → ((whole c before h j).answer.exchange.sending ≡ before)
      ⊎ Withdrawn before (whole c before h j).answer.exchange.sending
      ⊎ ReportBegins before (whole c before h j).answer.exchange.sending
  by_rules (inl e) = ⊎_elim (λ g. inl g) (λ g. inr (inr g)) (judged_sends (Goes before) (begins before) c before h j.answer (inl e))
  by_rules (inr w) =
      inr (inl (record {
        place = w.place;
        was = w.was;
        now = judged_sends NoneOrReport (λ n. report) c before h j.answer (subst NoneOrReport (sym w.now) none);
      }))

-- ---- the last block is out, and the end of a send

put_out_same : (z : Sending) (x : Exchange) → (put_out_by z x).sending ≡ x.sending
unfolding put_own
put_out_same sending.Nothing x = refl
put_out_same (sending.Primary p n) x = refl
put_out_same (sending.Reply p f n) x = refl
put_out_same (sending.Report f n) x = refl

pub sent_none : (z : Sending) (x : Exchange) → x.sending ≡ z → (sent_by z x).exchange.sending ≡ sending.Nothing
unfolding ended_own ended_reply ended_report with_sending
sent_none sending.Nothing x e = e
sent_none (sending.Primary p n) x e = refl
sent_none (sending.Reply p f n) x e = refl
sent_none (sending.Report f n) x e = refl

pub failed_none : (z : Sending) (x : Exchange) → x.sending ≡ z → (failed_by z x).exchange.sending ≡ sending.Nothing
unfolding ended_own ended_reply ended_report with_sending
failed_none sending.Nothing x e = e
failed_none (sending.Primary p n) x e = refl
failed_none (sending.Reply p f n) x e = refl
failed_none (sending.Report f n) x e = refl

-- a report that waits starts then, if a message was being sent
ended : (x : Exchange) (y : Changed) → y.exchange.sending ≡ sending.Nothing → Ended x.sending (freeing x.sending y).exchange.sending
unfolding freed_in freed
ended x y e =
    let z = y.exchange in
    record {
      none = λ n.
          ap (λ (s : Sending). (freed s z.own z.numbers.latest (outbox_of z)).sending) n
          ∙ ap (λ (b : Outbox). b.sending) (none_freed z.own z.numbers.latest (outbox_of z)) ∙ e;
      some = λ n. freeing_sends NoneOrReport (λ n. report) x.sending z (subst NoneOrReport (sym e) none);
    }

-- so no message is being sent then, or a report is
pub ended_none : (before after : Sending) → Ended before after → NoneOrReport after
ended_none before after w =
    either (sending_by before) (λ t. NoneOrReport after) (λ e. w.some ((sends before).0 e))
    (λ e. subst NoneOrReport (sym (w.none (idle before e))) none)

pub sending_ends : SendingEnds
sending_ends c x = record {
  judged = λ h d room. by_rules c h x.sending (rules_of c x h d room) (ruled c x h d room);
  ticked = ticked_sends (Goes x.sending) (begins x.sending) c x (inl refl);
  put_out = put_out_same x.sending x;
  acknowledged = ended x (sent_by x.sending x) (sent_none x.sending x refl);
  failed = ended x (failed_by x.sending x) (failed_none x.sending x refl);
}
