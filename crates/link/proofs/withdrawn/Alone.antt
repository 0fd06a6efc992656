-- What leaves when a block goes up while a message is being sent (`specs/Withdrawn.antt`). Assumes nothing.
use Prim.Native.Nat.{ℕ}
use mathlib.Core.Path.{◌≡◌, refl, sym, ap, ◌∙◌, subst}
use mathlib.Core.Bool.{Bool, true, false, not}
use mathlib.Core.List.{List, [], ◌∷◌, ◌++◌}
use mathlib.Core.Logic.{◌≢◌}
use borrow.Author.Tests.{eqb-true}
use Rattle.wire.proofs.Choice.{either}
use Rattle.settings.specs.declared.limits.Limits.{Limits}
use Rattle.settings.specs.declared.terms.Terms.{Terms}
use Rattle.line.specs.Codes.{ACK}
use Rattle.line.specs.History as line
use Rattle.line.specs.History.{none}
use Rattle.line.specs.Theorems.{IsBlock}
use Rattle.exchange.specs.Reports.{same_message}
use Rattle.exchange.specs.Request.{sending_by}
use Rattle.exchange.specs.BeingSent.{NoneOrReport, none as no_report, report}
use Rattle.exchange.specs.declared.Sending.{Sending}
use Rattle.exchange.proofs.Same.{same_message_lem, message_other}
use Rattle.link.specs.Reading.{sending_of, message_of}
use Rattle.link.specs.History.{Call, byte, tick, drained, request, Made, Track, limits_in, terms_in, answered, next}
use Rattle.link.specs.Inside.{Reached}
use Rattle.link.specs.Door.{bytes_left, on_way, Watch, followed}
use Rattle.link.specs.Device.{comes, CameWhole}
use Rattle.link.specs.Sends.{Sender, sender_seen}
use Rattle.link.specs.Hearing.{Gets, Retries, other_byte, t2_exceeded, since_seen}
use Rattle.link.specs.Withdrawn.{ProvesOne, Over, sent, failed, proved, AckAlone}
use Rattle.link.specs.Reporting.{Silent}
use Rattle.link.specs.declared.Settings.{Settings}
use Rattle.link.proofs.inside.Reached.{reached_next, settings_stay}
use Rattle.link.proofs.inside.Places.{same_terms}
use Rattle.link.proofs.inside.Courier.{clash}
use Rattle.link.proofs.device.Told.{told_exactly}
use Rattle.link.proofs.device.Up.{up_exactly}
use Rattle.link.proofs.door.Right.{door_right}
use Rattle.link.proofs.hearing.Calls.{each_call_gets}
use Rattle.link.proofs.refusals.Start.{started_as}
use Rattle.link.proofs.reporting.Silent.{host_silent}
use Rattle.link.proofs.withdrawn.Over.{over_exactly, report_follows}
use Rattle.link.proofs.withdrawn.Master.{held_then, master_proves_none}

-- ACK leaves with its last byte, and behind it the ENQ of a held block
module _ (c : Limits) (w : Watch) (since : ℕ) (held : w.ours ≡ none) (receiving : w.theirs ≡ true) where
  whole_gets : (k : Call) (b n : ℕ) (body bs : List ℕ) (sending : Bool) → comes b k ≡ true → IsBlock n body (w.came ++ (b ∷ []))
      → Gets c w since k bs sending → bs ≡ followed ACK sending
  whole_gets (byte a fits) b n body bs sending came whole g =
      (rw (held, receiving) at g).whole n body (subst (λ x. IsBlock n body (w.came ++ (x ∷ []))) (sym (eqb-true a b came)) whole)
  whole_gets tick b n body bs sending came whole g = clash came
  whole_gets drained b n body bs sending came whole g = clash came
  whole_gets (request q) b n body bs sending came whole g = clash came

  -- no send of ours ends then, but by its reply
  no_retry : (k : Call) → Retries c w since k → ⊥
  no_retry _ (other_byte b fits o n) = clash (ap on_way (sym held ∙ o))
  no_retry _ (t2_exceeded o n) = clash (ap line.is_waiting (sym held) ∙ o)

  by_reply : (t : Track) (s : Sender) (m : Made) → t.seen.ours ≡ none → Over c t w since s m → ProvesOne t m
  by_reply t s m ours (sent k) = clash (ap on_way (sym ours ∙ k.awaited))
  by_reply t s m ours (failed k) = absurd (no_retry m.call k.retry)
  by_reply t s m ours (proved y) = y

-- ---- the host is the slave

-- "host = slave, equipment = master"
slave_hosts : (t : Track) → Reached t → (limits_in t).master ≡ false → (terms_in t).host ≡ true
slave_hosts t r slave =
    let set = settings_stay t r ∙ (started_as r.setup r.settings r.started).in_ticks_lem in
    ap (λ (z : Settings). z.terms.host) set ∙ by r.setup.host (sym (ap (λ (z : Settings). z.limits.master) set) ∙ slave)
  where
    by : (h : Bool) → not h ≡ false → h ≡ true
    by true e = refl
    by false e = clash (sym e)

-- a master has no message that is proved received, and at a host no report follows one
none_follows : (t : Track) → Reached t → (m : Made) → sending_of t.link ≡ true → ProvesOne t m → message_of (next t m).link ≢ message_of t.link
    → sending_of (next t m).link ≡ false
none_follows t r m sending y other =
    let slave = either (limits_in t).master (λ z. z ≡ false) (λ e. absurd (master_proves_none t r e m y)) (λ e. refl) in
    let host = ap (λ (c : Terms). c.host) (same_terms t m) ∙ slave_hosts t r slave in
    by (message_of (next t m).link) refl (report_follows t r m sending other) (host_silent (next t m) (reached_next t r m) host)
  where
    by : (z : Sending) → message_of (next t m).link ≡ z → NoneOrReport z → Silent (next t m) → sending_by z ≡ false
    by _ e no_report q = refl
    by _ e (report f n) q = absurd (q.none_sent f n e)

pub ack_alone : AckAlone
ack_alone t w a m h d sending up =
    let r = a.reached in
    let q = ((told_exactly t m).block h d).0 up in
    let z = (up_exactly t r m q.size).0 q.told in
    let came : CameWhole t m q.size z.0 = z.1 in
    let door = door_right t w a in
    let ours = held_then t r came.receiving in
    let held : w.ours ≡ none = ap (λ (v : Watch). v.ours) door ∙ ours in
    let receiving : w.theirs ≡ true = ap (λ (v : Watch). v.theirs) door ∙ came.receiving in
    let c = r.settings.limits in
    let n = since_seen t w a in
    let over = over_exactly t w a m sending in
    let before = message_of t.link in
    let after = message_of (next t m).link in
    let leaves : bytes_left (answered t m) ≡ followed ACK (sending_of (next t m).link) =
    whole_gets c w n held receiving m.call came.last q.size z.0 _ _ came.came
    (subst (λ (v : Watch). IsBlock q.size z.0 (v.came ++ (came.last ∷ []))) (sym door) came.whole) (each_call_gets t w a m came.accepted) in
    record {
      held = held;
      receiving = receiving;
      alone = λ y. leaves ∙ ap (followed ACK) (none_follows t r m sending y (over.1 (proved y)));
      followed = λ no.
          leaves
          ∙ ap (followed ACK)
          (either (same_message before after) (λ b. sending_by after ≡ true) (λ e. ap sending_by (sym (same_message_lem before after e)) ∙ sending)
          (λ e. absurd (no (by_reply c w n held receiving t (sender_seen t r) m ours (over.0 (λ f. message_other before after e (sym f)))))));
    }
