-- A reply that is accepted, at the end that owes it. Assumes nothing.
use Rattle.std.specs.Prelude.{Ok}
use Prim.Native.Nat.{ℕ, ◌+◌, ◌%◌, ◌≤◌, ◌<◌}
use mathlib.Core.Path.{◌≡◌, refl, sym, ap, subst, ◌∙◌}
use mathlib.Core.Bool.{true}
use mathlib.Core.List.{List}
use native.Mathlib.Omega.{arith}
use lib.Dec.{ltb, eqb}
use lib.ListN.{length}
use lib.Seq.{get_or-set_same}
use borrow.Author.Tests.{ltb-true, ltb-false, eqb-true, eqb-false}
use Rattle.wire.specs.Message.{message_limit}
use Rattle.wire.proofs.Choice.{either}
use Rattle.header.specs.declared.header.Header.{Header}
use Rattle.settings.specs.declared.terms.Terms.{Terms}
use Rattle.place.specs.Incoming.{fresh_incoming, primary_of, incoming_tick, incoming_sent}
use Rattle.place.specs.declared.IncomingStage.{IncomingStage}
use Rattle.place.specs.declared.IncomingStage.TheVariants as stage
use Rattle.place.specs.declared.Incoming.{Incoming}
use Rattle.place.specs.declared.Verdict.{Verdict}
use Rattle.place.specs.declared.Verdict.TheVariants.{Answered, Declined}
use Rattle.exchange.specs.Exchange.{incoming_place, put_incoming, with_sending}
use Rattle.exchange.specs.Send.{reply_to, outgoing_at, outgoing_of, ended_reply, sent_by, sent_of}
use Rattle.exchange.specs.Request.{asked_number, sending_by, reply, answer_of}
use Rattle.exchange.specs.Reading.{reply_stage, incoming_reading, reads_incoming, header_by}
use Rattle.exchange.specs.Rules.{Fours}
use Rattle.exchange.specs.Releases as side
use Rattle.exchange.specs.Assembly as assembly
use Rattle.exchange.specs.Assembly.{passes}
use Rattle.exchange.specs.Refusals.{BadReply, ReplyRuled, reply_0, reply_5, reply_6, reply_7, reply_9, reply_10, reply_11, Replied}
use Rattle.exchange.proofs.Refusing.{request_exactly}
use Rattle.exchange.proofs.Accepting.{accepted_replies}
use Rattle.exchange.proofs.Passing.{sending_stays, kept_on}
use Rattle.exchange.specs.declared.Sending.{Sending}
use Rattle.exchange.specs.declared.Sending.TheVariants.{Reply}
use Rattle.exchange.specs.declared.Exchange.{Exchange}
use Rattle.exchange.specs.declared.ReplyStage.{ReplyStage}
use Rattle.exchange.specs.declared.ReplyStage.TheVariants.{Sent}
use Rattle.exchange.specs.declared.Outgoing.TheVariants.{Message}
use Rattle.link.specs.SameMessage.{Earns, one_higher, function_0}
use Rattle.link.specs.Verdicts.{length_by}
use Rattle.link.proofs.same_message.Delivers.{incoming_read}

-- ---- the function of a reply

pub even : (n f : ℕ) (v : Verdict) → n % 2 ≡ 1 → Earns n f v → f % 2 ≡ 0
even n f v odd (one_higher less) = omega arith
even n f v odd function_0 = refl

pub earned : (g h : Header) (f : ℕ) (v : Verdict) → h.stream ≡ g.stream → h.function ≡ f → Earns g.function f v → assembly.Earns g h v
earned g h f v same is (one_higher less) = record { stream = same; function = is }
earned g h f v same is function_0 = record { stream = same; function = is }

-- one that is not refused by 5 earns one of two verdicts
pub earns : (h : Header) (f : ℕ) → f < 256 → (BadReply h f → ⊥) → (v : Verdict) × Earns h.function f v
earns h f fits good =
    either (eqb f (h.function + 1)) (λ t. (v : Verdict) × Earns h.function f v)
    (λ t.
    let e : f ≡ h.function + 1 = eqb-true f (h.function + 1) t in
    (Answered, subst (λ (k : ℕ). Earns h.function k Answered) (sym e) (one_higher (omega arith))))
    (λ t.
    either (eqb f 0) (λ u. (v : Verdict) × Earns h.function f v)
    (λ u. (Declined, subst (λ (k : ℕ). Earns h.function k Declined) (sym (eqb-true f 0 u)) function_0))
    (λ u. absurd (good (record { not_next = eqb-false f (h.function + 1) t; not_zero = eqb-false f 0 u }))))

-- ---- a reply that is accepted

-- it is refused neither by 5, "in a reply, neither primary + 1 nor 0", nor by 6, "data above 4,096 bytes"
pub record Replyable (h : Header) (f : ℕ) (r : List ℕ) : Type 0 where
  pub good : BadReply h f → ⊥
  pub short : length r ≤ message_limit

pub replyable : (c : Terms) (x : Exchange) (p f : ℕ) (r room : List ℕ) (k : ℕ) → Fours x → (answer_of c x (reply p f r) room).answer.asked ≡ Ok k
    → Replyable (primary_of (incoming_place x p)) f r
replyable c x p f r room k four e = by refl ((request_exactly c x (reply p f r) room four 0).0 (ap asked_number e))
  where
    by : {n : ℕ} → n ≡ 0 → ReplyRuled x p f r n → Replyable (primary_of (incoming_place x p)) f r
    by z (reply_9 a) = absurd (omega (arith, z))
    by z (reply_10 a b) = absurd (omega (arith, z))
    by z (reply_11 a b d) = absurd (omega (arith, z))
    by z (reply_5 a b) = absurd (omega (arith, z))
    by z (reply_6 a b d) = absurd (omega (arith, z))
    by z (reply_7 a b d s) = absurd (omega (arith, z))
    by z (reply_0 a good long s) = record {
      good = good;
      short = either (ltb message_limit (length r)) (λ t. length r ≤ message_limit) (λ t. absurd (long (ltb-true message_limit (length r) t))) (λ t. ltb-false message_limit (length r) t);
    }

-- Transactions x took reply r with function f to the message in incoming place p; y are those that send it.
module _ (c : Terms) (x : Exchange) (p f : ℕ) (r room : List ℕ) (k : ℕ) (taken : (answer_of c x (reply p f r) room).answer.asked ≡ Ok k) where
  abbrev y : Exchange
  y = (answer_of c x (reply p f r) room).answer.exchange

  pub replied : Replied x p f r room k y (answer_of c x (reply p f r) room).room
  replied = accepted_replies c x p f r room k taken

  -- the message, with this of its reply
  abbrev at : IncomingStage → Incoming
  at s = record { header = (incoming_place x p).header; stage = s }

  -- no tick changes it
  stays : (m : ℕ) → incoming_place (passes c y m) p ≡ at (stage.Replying replied.size)
  stays = kept_on side.incoming c y p (λ (i : Incoming). i ≡ at (stage.Replying replied.size)) (λ o e. ap (incoming_tick c) e) replied.place

  sends_on : (m : ℕ) → (passes c y m).sending ≡ Reply p f (length r)
  sends_on m = sending_stays c y m (ap sending_by replied.sending) ∙ replied.sending

  -- it is what goes out
  pub goes_out : (m : ℕ) → outgoing_of (passes c y m) ≡ Message replied.header (length r)
  goes_out m =
      ap (λ (z : Sending). outgoing_at z (passes c y m)) (sends_on m)
      ∙ ap (λ (i : Incoming). Message (reply_to (primary_of i) f) (length r)) (stays m ∙ sym replied.place)
      ∙ sym (ap (λ (z : Sending). outgoing_at z y) replied.sending) ∙ replied.outgoing

  -- what is read of the message before it
  module _ (g : Header) (n : ℕ) (s : ReplyStage) (shown : incoming_reading x p ≡ reads_incoming g n true s) where
    before : reads_incoming (incoming_place x p).header replied.size true (reply_stage (at (stage.Complete replied.size))) ≡ reads_incoming g n true s
    unfolding incoming_reading
    before = sym (ap (λ (z : IncomingStage). incoming_read (at z)) replied.was) ∙ shown

    pub header_is : (incoming_place x p).header ≡ g
    header_is = ap header_by before

    pub size_is : replied.size ≡ n
    size_is = ap length_by before

    -- and once the reply is sent
    pub sent_read : (m : ℕ) → length (passes c y m).incoming ≡ 4 → p < 4 → incoming_reading (sent_of (passes c y m)).exchange p ≡ reads_incoming g n true Sent
    unfolding incoming_reading ended_reply with_sending put_incoming
    sent_read m four within =
        let z : Exchange = passes c y m in
        ap (λ (v : Sending). incoming_read (incoming_place (sent_by v z).exchange p)) (sends_on m)
        ∙ ap incoming_read (get_or-set_same z.incoming p (incoming_sent (incoming_place z p)) fresh_incoming (omega arith))
        ∙ ap (λ (i : Incoming). incoming_read (incoming_sent i)) (stays m)
        ∙ (λ i. reads_incoming (header_is i) (size_is i) true Sent)
