-- The one message that is "being sent or held" (01, refusal 7): which calls start it and which end it. Each proof is in
-- `proofs/BeingSent.antt`.
use Rattle.std.specs.Prelude.{ℕ, ◌≡◌, true, false, ◌⊎◌, ◌≢◌, List, length, Ok, Err}
use Rattle.settings.specs.declared.terms.Terms.{Terms}
use Rattle.exchange.specs.Exchange.{sent_from}
use Rattle.exchange.specs.Tick.{tick_of}
use Rattle.exchange.specs.Send.{put_out_of, sent_of, failed_of}
use Rattle.exchange.specs.Judge.{judge_of}
use Rattle.exchange.specs.Request.{is_sending, Request, primary, reply, freeing_own, freeing_incoming, answer_of, lends}
use Rattle.exchange.specs.declared.Sending.{Sending}
use Rattle.exchange.specs.declared.Sending.TheVariants as sending
use Rattle.exchange.specs.declared.Exchange.{Exchange}
use Rattle.exchange.specs.Asked.{Asked}

-- ---- a request

-- what is being sent once it was accepted for place p, where z was before: the message that was asked for; a release sends none
abbrev pub sending_behind : Request → ℕ → Sending → Sending
sending_behind (primary q d) p z = sending.Primary p (length d)
sending_behind (reply k f d) p z = sending.Reply p f (length d)
sending_behind (freeing_own k) p z = z
sending_behind (freeing_incoming k) p z = z

-- a refused one leaves it as it was
abbrev pub sending_after : Request → Asked → Sending → Sending
sending_after r (Ok p) z = sending_behind r p z
sending_after r (Err n) z = z

-- an accepted request to which memory is lent: "one message sent at a time"
pub record Starts (x y : Exchange) : Type 0 where
  -- nothing was being sent, and now a message is
  pub before : is_sending x ≡ false
  pub after : is_sending y ≡ true

pub record SendsBy (c : Terms) (x : Exchange) (r : Request) (room : List ℕ) : Type 0 where
  pub becomes : (answer_of c x r room).answer.exchange.sending ≡ sending_after r (answer_of c x r room).answer.asked x.sending
  pub starts : (p : ℕ) → (answer_of c x r room).answer.asked ≡ Ok p → lends r ≡ true → Starts x (answer_of c x r room).answer.exchange
  -- a release has no part in what is being sent
  pub spares : lends r ≡ false → (answer_of c x r room).answer.exchange.sending ≡ x.sending

abbrev pub RequestSends : Type 0
RequestSends = (c : Terms) (x : Exchange) (r : Request) (room : List ℕ) → SendsBy c x r room

-- ---- the other calls

-- no message is being sent, or a report is (02, request 2)
pub data NoneOrReport : Sending → Type 0 where
  none : NoneOrReport sending.Nothing
  report : (f n : ℕ) → NoneOrReport (sending.Report f n)

-- it was the primary of an own place, and is being sent no more
pub record Withdrawn (before after : Sending) : Type 0 where
  pub place : ℕ
  pub was : sent_from before place ≡ true
  pub now : NoneOrReport after

-- none was being sent: none is, or a report that starts
pub record ReportBegins (before after : Sending) : Type 0 where
  pub was : before ≡ sending.Nothing
  pub now : NoneOrReport after

-- what was being sent is so no more
pub record Ended (before after : Sending) : Type 0 where
  -- with nothing being sent, nothing ends
  pub none : before ≡ sending.Nothing → after ≡ sending.Nothing
  pub some : before ≢ sending.Nothing → NoneOrReport after

-- judging leaves it, but where the block is of the reply to it (`Boxed`, specs/Rules.antt, has which block that is), then it is being sent no
-- more, and but for a report that starts; time leaves it, but for a report that starts; putting its last block out leaves it; where it was
-- acknowledged, or failed, it is being sent no more: in every state
pub record SendingGoes (c : Terms) (x : Exchange) : Type 0 where
  pub judged :
      (h d room : List ℕ)
      → ((judge_of c x h d room).answer.exchange.sending ≡ x.sending)
      ⊎ Withdrawn x.sending (judge_of c x h d room).answer.exchange.sending
      ⊎ ReportBegins x.sending (judge_of c x h d room).answer.exchange.sending
  pub ticked : ((tick_of c x).exchange.sending ≡ x.sending) ⊎ ReportBegins x.sending (tick_of c x).exchange.sending
  pub put_out : (put_out_of x).sending ≡ x.sending
  pub acknowledged : Ended x.sending (sent_of x).exchange.sending
  pub failed : Ended x.sending (failed_of x).exchange.sending

abbrev pub SendingEnds : Type 0
SendingEnds = (c : Terms) (x : Exchange) → SendingGoes c x
