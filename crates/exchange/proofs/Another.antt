-- One message that follows another in a call is another one. A report on its way has the last number given, "a new transaction number, taken
-- when the report starts" (02, request 2): so the report that starts as it ends has another one, whatever number the start was told of.
-- Assumes nothing.
use Rattle.std.specs.Prelude.{Ok, Err}
use Prim.Native.Nat.{ℕ}
use mathlib.Core.Path.{◌≡◌, refl, sym, ap, subst, ◌∙◌}
use mathlib.Core.Bool.{true, false≢true, true≢false}
use mathlib.Core.List.{List}
use mathlib.Core.Logic.{◌⊎◌, inl, inr, ◌≢◌}
use lib.Dec.{eqb}
use Rattle.wire.proofs.Choice.{chosen}
use Rattle.settings.specs.declared.terms.Terms.{Terms}
use Rattle.place.specs.declared.Own.{Own}
use Rattle.table.specs.Number.{next_number}
use Rattle.table.proofs.Giving.{next_other}
use Rattle.reports.specs.Reports.{oldest}
use Rattle.exchange.specs.Exchange.{put_own, put_incoming, with_sending, sent_from}
use Rattle.exchange.specs.Reports.{outbox_of, starts, without_first, oldest_starts, is_over, freed, freed_in}
use Rattle.exchange.specs.Request.{sending_by, is_sending, Request, primary, reply, freeing_own, freeing_incoming, answer_of}
use Rattle.exchange.specs.Send.{ended_own, ended_reply, ended_report, sent_by, freeing, sent_of, failed_by, failed_of}
use Rattle.exchange.specs.Theorems.{from_caller, Reached}
use Rattle.exchange.specs.Rules.{Fours}
use Rattle.exchange.specs.History.{Call, block, tick, put_out, acknowledged, failed, request, called, Track}
use Rattle.exchange.specs.BeingSent.{sending_after, NoneOrReport, none, report, Withdrawn, ReportBegins}
use Rattle.exchange.specs.declared.Sending.{Sending}
use Rattle.exchange.specs.declared.Sending.TheVariants as sending
use Rattle.exchange.specs.declared.Outbox.{Outbox}
use Rattle.exchange.specs.declared.Exchange.{Exchange}
use Rattle.exchange.specs.declared.Changed.{Changed}
use Rattle.exchange.proofs.Starting.{still, over, begins}
use Rattle.exchange.proofs.BeingSent.{sent_none, failed_none, request_sends, sending_ends}
use Rattle.exchange.proofs.Numbering.{Moves, last_answered, call_moves, begun_new}
use Rattle.exchange.proofs.Runs.{Sound, four_places, sound_on, run_reached}
use Rattle.exchange.specs.Asked.{Asked}

-- ---- a report on its way has the last number given

pub record Numbered (x : Exchange) : Type 0 where
  pub last : (f n : ℕ) → x.sending ≡ sending.Report f n → n ≡ x.numbers.last

-- a message is none where nothing is being sent
nothing_other : (a z : Sending) → a ≡ sending.Nothing → sending_by z ≡ true → a ≢ z
nothing_other a z e s q = false≢true (ap sending_by (sym e ∙ q) ∙ s)

moved_numbered : (x y : Exchange) → Numbered x → Moves x y → Numbered y
moved_numbered x y w (still l e h) = record { last = λ f n q. w.last f n (sym e ∙ q) ∙ sym l }
moved_numbered x y w (over l e) = record { last = λ f n q. absurd (nothing_other y.sending (sending.Report f n) e refl q) }
moved_numbered x y w (begins r l e h) = record { last = λ f n q. let same : sending.Report f n ≡ sending.Report r.function y.numbers.last = sym q ∙ e in cc }

-- a request sends what was asked for, or leaves what is being sent and the last number given: no report
pub asked_numbered : (x : Exchange) (r : Request) (a : Asked) (z : Sending) (f n : ℕ) → sending_after r a z ≡ sending.Report f n
    → (z ≡ sending.Report f n) × (last_answered x r a ≡ x.numbers.last)
asked_numbered x (primary q d) (Ok p) z f n e = absurd (true≢false (ap from_caller e))
asked_numbered x (reply k g d) (Ok p) z f n e = absurd (true≢false (ap from_caller e))
asked_numbered x (freeing_own k) (Ok p) z f n e = (e, refl)
asked_numbered x (freeing_incoming k) (Ok p) z f n e = (e, refl)
asked_numbered x r (Err m) z f n e = (e, refl)

module _ (c : Terms) (x : Exchange) (room : List ℕ) (four : Fours x) (w : Numbered x) where
  pub call_numbered : (k : Call) → Numbered (called c x room k).exchange
  call_numbered (block h d) = moved_numbered x _ w (call_moves c x room four (block h d))
  call_numbered tick = moved_numbered x _ w (call_moves c x room four tick)
  call_numbered put_out = moved_numbered x _ w (call_moves c x room four put_out)
  call_numbered acknowledged = moved_numbered x _ w (call_moves c x room four acknowledged)
  call_numbered failed = moved_numbered x _ w (call_moves c x room four failed)
  call_numbered (request r) = record {
    last = λ f n e.
        let o = asked_numbered x r (answer_of c x r room).answer.asked x.sending f n (sym (request_sends c x r room).becomes ∙ e) in
        w.last f n o.0 ∙ sym (call_moves c x room four (request r) ∙ o.1);
  }

pub numbered_reached : (c : Terms) (t : Track) → Reached c t → Numbered t.exchange
numbered_reached c t w =
    run_reached c Numbered (λ x room k g n. call_numbered c x room (four_places x g) n k)
    (λ last. record { last = λ f n e. absurd (false≢true (ap sending_by e)) }) t w

-- ---- what follows

-- a report that starts is not what was being sent
pub begun_other : (x y : Exchange) → Numbered x → (f : ℕ) → y.numbers.last ≡ next_number y.own x.numbers.last y.numbers.latest
    → y.sending ≡ sending.Report f y.numbers.last → x.sending ≢ y.sending
begun_other x y w = begun_new x y w.last

-- the line is freed: nothing is being sent then, or the oldest report, with a number that `before` does not have
freed_other : (before : Sending) (own : List Own) (latest : ℕ) (b : Outbox) → b.sending ≡ sending.Nothing → sending_by before ≡ true
    → ((f n : ℕ) → before ≡ sending.Report f n → n ≡ b.last) → (freed before own latest b).sending ≢ before
unfolding freed oldest_starts starts
freed_other before own latest b e s numbered =
    let none : b.sending ≢ before = nothing_other b.sending before e s in
    chosen (λ (a : Outbox). a.sending ≢ before) (is_over before b.sending) (oldest_starts own latest b) b
    (λ o.
    chosen (λ (a : Outbox). a.sending ≢ before) (eqb b.reports.count 0) b (starts own latest (without_first b) (oldest b.reports)) (λ z. none)
    (λ z q. next_other own b.last latest (numbered _ _ (sym q))))
    (λ o. none)

-- the end of a message gives no number by itself
sent_numbers : (z : Sending) (x : Exchange) → (sent_by z x).exchange.numbers.last ≡ x.numbers.last
unfolding ended_own ended_reply ended_report put_own put_incoming with_sending
sent_numbers sending.Nothing x = refl
sent_numbers (sending.Primary p n) x = refl
sent_numbers (sending.Reply p f n) x = refl
sent_numbers (sending.Report f n) x = refl

failed_numbers : (z : Sending) (x : Exchange) → (failed_by z x).exchange.numbers.last ≡ x.numbers.last
unfolding ended_own ended_reply ended_report put_own put_incoming with_sending
failed_numbers sending.Nothing x = refl
failed_numbers (sending.Primary p n) x = refl
failed_numbers (sending.Reply p f n) x = refl
failed_numbers (sending.Report f n) x = refl

module _ (x : Exchange) (w : Numbered x) (s : is_sending x ≡ true) where
  ended_other : (y : Changed) → y.exchange.sending ≡ sending.Nothing → y.exchange.numbers.last ≡ x.numbers.last → (freeing x.sending y).exchange.sending ≢ x.sending
  unfolding freed_in freed
  ended_other y e l =
      freed_other x.sending y.exchange.own y.exchange.numbers.latest (outbox_of y.exchange) e s (λ f n q. w.last f n q ∙ sym l)

  -- a message that was acknowledged, or failed, is being sent no more
  pub acknowledged_other : (sent_of x).exchange.sending ≢ x.sending
  acknowledged_other = ended_other (sent_by x.sending x) (sent_none x.sending x refl) (sent_numbers x.sending x)

  pub failed_other : (failed_of x).exchange.sending ≢ x.sending
  failed_other = ended_other (failed_by x.sending x) (failed_none x.sending x refl) (failed_numbers x.sending x)

-- one that was withdrawn neither: a report may follow
pub withdrawn_other : (before after : Sending) → Withdrawn before after → after ≢ before
withdrawn_other before after w q = by after w.now q
  where
    by : (z : Sending) → NoneOrReport z → z ≢ before
    by z none e = false≢true (subst (λ (b : Sending). sent_from b w.place ≡ true) (sym e) w.was)
    by z (report f n) e = false≢true (subst (λ (b : Sending). sent_from b w.place ≡ true) (sym e) w.was)

-- x has come to y: with nothing being sent no number was given
pub none_given : (x y : Exchange) → Moves x y → y.sending ≡ sending.Nothing → y.numbers.last ≡ x.numbers.last
none_given x y (still l f h) e = l
none_given x y (over l f) e = l
none_given x y (begins r l f h) e = absurd (nothing_other y.sending (sending.Report r.function y.numbers.last) e refl f)

-- and time comes behind it: no report starts that is what was being sent in x
module _ (x y v : Exchange) (given : y.sending ≡ sending.Nothing → y.numbers.last ≡ x.numbers.last) (n : Moves y v) where
  pub none_given_on : (v.sending ≡ y.sending) ⊎ ReportBegins y.sending v.sending → v.sending ≡ sending.Nothing → v.numbers.last ≡ x.numbers.last
  none_given_on (inl e) f = none_given y v n f ∙ given (sym e ∙ f)
  none_given_on (inr b) f = none_given y v n f ∙ given b.was

  pub other_still : Numbered x → is_sending x ≡ true → y.sending ≢ x.sending → (v.sending ≡ y.sending) ⊎ ReportBegins y.sending v.sending → v.sending ≢ x.sending
  other_still w s other (inl e) q = other (sym e ∙ q)
  other_still w s other (inr b) q = by n
    where
      by : Moves y v → ⊥
      by (still l f h) = other (sym f ∙ q)
      by (over l f) = nothing_other v.sending x.sending f s q
      by (begins r l f h) =
          next_other v.own x.numbers.last v.numbers.latest
          (ap (λ (k : ℕ). next_number v.own k v.numbers.latest) (sym (given b.was)) ∙ sym l ∙ w.last r.function v.numbers.last (sym q ∙ f))

-- so where a message failed, and a tick came behind it in the same call
pub late_other : (c : Terms) (x : Exchange) (room : List ℕ) → Sound x → Numbered x → is_sending x ≡ true
    → (called c (failed_of x).exchange room tick).exchange.sending ≢ x.sending
late_other c x room g w s =
    let y = (failed_of x).exchange in
    other_still x y (called c y room tick).exchange (none_given x y (call_moves c x room (four_places x g) failed))
    (call_moves c y room (four_places y (sound_on c x room failed g)) tick) w s (failed_other x w s) (sending_ends c y).ticked
