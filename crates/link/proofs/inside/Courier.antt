-- The courier, whatever is told: it makes one call of the line at most, and leaves it in agreement with any transactions (`specs/Inside.antt`).
-- And what today's make of what is told. Assumes nothing.
use Prim.Native.Nat.{ℕ}
use mathlib.Core.Path.{◌≡◌, refl, sym, ap, subst, ◌∙◌}
use mathlib.Core.Bool.{Bool, true, false, cond, false≢true, ◌||◌}
use mathlib.Core.List.{List, [], ◌∷◌}
use mathlib.Core.Logic.{◌⊎◌, inl, inr, ◌≢◌}
use Rattle.wire.proofs.Choice.{either}
use Rattle.wire.specs.Bytes.{part}
use Rattle.header.specs.Header.{first_ten}
use Rattle.settings.specs.declared.terms.Terms.{Terms}
use Rattle.line.specs.Line.{Heard, line_at, holding, under_way, busy, ask_of, withdraw_of}
use Rattle.line.specs.History as line
use Rattle.line.specs.Theorems.{Turns}
use Rattle.line.specs.declared.phase.Phase.{Phase}
use Rattle.line.specs.declared.phase.Phase.TheVariants.{Idle, WaitEot, Draining, WaitAck, WaitLength, Body, Silence}
use Rattle.line.specs.declared.line.Line.{Line}
use Rattle.line.specs.declared.step.Told.{Told}
use Rattle.line.specs.declared.step.Told.TheVariants as told
use Rattle.line.specs.declared.step.Remark.{Remark}
use Rattle.line.proofs.Busy.{busy_still}
use Rattle.exchange.specs.Request.{sending_by, is_sending}
use Rattle.exchange.specs.Reports.{same_message}
use Rattle.exchange.specs.History as exchange
use Rattle.exchange.specs.BeingSent.{NoneOrReport, Withdrawn, ReportBegins}
use Rattle.exchange.proofs.Unreported.{some_sent}
use Rattle.exchange.proofs.Boxes.{sent_busy}
use Rattle.exchange.proofs.BeingSent.{sending_ends}
use Rattle.exchange.proofs.Same.{message_same, other_message, message_other}
use Rattle.exchange.proofs.Runs.{Sound, four_places, sound_on}
use Rattle.exchange.proofs.Numbering.{Moves, call_moves}
use Rattle.exchange.proofs.Another.{Numbered, acknowledged_other, failed_other, withdrawn_other, none_given, none_given_on, other_still}
use Rattle.exchange.specs.declared.Sending.{Sending}
use Rattle.exchange.specs.declared.Sending.TheVariants as sending
use Rattle.exchange.specs.declared.Exchange.{Exchange}
use Rattle.link.specs.Answer.{note_by}
use Rattle.link.specs.Courier.{courier_by}
use Rattle.link.specs.Run.{has_next, passing, hears, hearing}
use Rattle.link.specs.History.{couriers}
use Rattle.link.specs.Inside.{LineCarried, BlockCarried, CourierAgrees}
use Rattle.link.specs.declared.Midway.{Midway}
use Rattle.link.specs.declared.Link.{Link}
use Rattle.link.proofs.Cases.{by_put_out, by_sent}

pub clash : {A : Type 0} → false ≡ true → A
clash e = absurd (false≢true e)

-- The courier makes no call of the line, asks it for a block, or has one withdrawn: what holds of each, and of the line that it leaves,
-- holds.
pub by_courier :
    (P : List line.Call → Line → Type 0) (l : Line) (k : ℕ) → P [] l → P (line.ask ∷ []) (ask_of l) → P (line.withdraw ∷ []) (withdraw_of l)
    → (same before after : Bool) (t : Told) → P (couriers same before after t) (courier_by same before after t l k).line
by_courier P l k none asks gone same false false t = none
by_courier P l k none asks gone same false true t = asks
by_courier P l k none asks gone same true false t = gone
by_courier P l k none asks gone true true true told.Nothing = none
by_courier P l k none asks gone true true true told.PutOut = none
by_courier P l k none asks gone true true true told.Sent = asks
by_courier P l k none asks gone true true true told.Failed = none
by_courier P l k none asks gone true true true (told.Up n) = none
by_courier P l k none asks gone false true true t = asks

-- ---- the line

-- with no message being sent before, the line is not busy, whatever is told
pub not_busy : (t : Told) {b : Bool} → Turns t false b → b ≡ false
not_busy told.Nothing w = sym w
not_busy told.PutOut w = clash w.0
not_busy told.Sent w = w.1
not_busy told.Failed w = w.1
not_busy (told.Up n) w = sym w

-- a block that is asked for is held, if none is under way
ask_holds : (h : Bool) (p : Phase) → under_way p ≡ false → ask_of (line_at h p) ≡ line_at true p
unfolding holding
ask_holds h Idle e = refl
ask_holds h (WaitEot timer tries) e = clash (sym e)
ask_holds h (Draining tries) e = clash (sym e)
ask_holds h (WaitAck timer tries) e = clash (sym e)
ask_holds h (WaitLength timer) e = refl
ask_holds h (Body timer a) e = refl
ask_holds h (Silence timer fault) e = refl

-- none is under way on a line that is not busy
pub none_under_way : (l : Line) → busy l ≡ false → under_way l.phase ≡ false
none_under_way l e = either (under_way l.phase) (λ a. a ≡ false) (λ u. clash (sym e ∙ ap (λ a. a || l.held) u)) (λ n. refl)

module _ (l : Line) (k : ℕ) where
  -- it leaves a line that is as busy as it should be, asks one on which none is under way, has a message withdrawn that is gone
  left_alone : (sending : Bool) → busy l ≡ sending → LineCarried sending l l
  left_alone sending e = record {
    same = sym e;
    under_way_lem = λ u. refl;
    held = λ u. ap (λ h. line_at h l.phase) (ap (λ a. a || l.held) (sym u) ∙ e);
  }

  asked : under_way l.phase ≡ false → LineCarried true l (ask_of l)
  asked n = record { same = sym (busy_still l).ask; under_way_lem = λ u. clash (sym n ∙ u); held = ask_holds l.held l.phase }

  withdrawn : under_way l.phase ≡ false → LineCarried false l (withdraw_of l)
  withdrawn n = record { same = sym ((busy_still l).withdraw ∙ n); under_way_lem = λ u. clash (sym n ∙ u); held = λ u. refl }

  line_carried :
      (same before after : Bool) (t : Told) → Turns t before (busy l) → (t ≡ told.Failed → same ≡ false) → (same ≡ false → under_way l.phase ≡ false)
      → (before ≡ true → after ≡ false → same ≡ false) → LineCarried after l (courier_by same before after t l k).line
  line_carried same false false t turned failed gone differ = left_alone false (not_busy t turned)
  line_carried same false true t turned failed gone differ = asked (none_under_way l (not_busy t turned))
  line_carried same true false t turned failed gone differ = withdrawn (gone (differ refl refl))
  line_carried true true true told.Nothing turned failed gone differ = left_alone true (sym turned)
  line_carried true true true told.PutOut turned failed gone differ = left_alone true turned.1
  line_carried true true true told.Sent turned failed gone differ = asked (none_under_way l turned.1)
  line_carried true true true told.Failed turned failed gone differ = clash (sym (failed refl))
  line_carried true true true (told.Up n) turned failed gone differ = left_alone true (sym turned)
  line_carried false true true t turned failed gone differ = asked (gone refl)

  -- ---- the block

  pub begun_at : (before : Bool) (t : Told) → (courier_by false before true t l k).block ≡ 1
  begun_at true t = refl
  begun_at false t = refl

  none_left : (same before : Bool) (t : Told) → (before ≡ false → k ≡ 1) → (courier_by same before false t l k).block ≡ 1
  none_left same true t was = refl
  none_left same false t was = was refl

  stays_at : (sending : Bool) (t : Told) → t ≢ told.Sent → (courier_by true sending sending t l k).block ≡ k
  stays_at false t other = refl
  stays_at true told.Nothing other = refl
  stays_at true told.PutOut other = refl
  stays_at true told.Sent other = absurd (other refl)
  stays_at true told.Failed other = refl
  stays_at true (told.Up n) other = refl

  block_carried :
      (before after : Sending) (t : Told) → Turns t (sending_by before) (busy l)
      → BlockCarried before after t k (courier_by (same_message before after) (sending_by before) (sending_by after) t l k).block
  block_carried before after t turned = record {
    begun = λ other f. rw (other_message before after (λ e. other (sym e)), f) (begun_at (sending_by before) t);
    none = λ was e. rw e (none_left (same_message before after) (sending_by before) t was);
    next = λ e f. rw (message_same before after (sym e), e, f, (subst (λ (x : Told). Turns x (sending_by before) (busy l)) f turned).0) refl;
    stays = λ e other. rw (message_same before after (sym e), e) (stays_at (sending_by before) t other);
  }

pub courier_agrees : CourierAgrees
courier_agrees before after t l k room w = record {
  line =
      line_carried l k (same_message before after) (sending_by before) (sending_by after) t w.turned
      (λ f. other_message before after (λ e. w.failed f (sym e))) (λ f. w.gone (λ e. message_other before after f (sym e)))
      (λ b a. other_message before after (λ e. clash (sym a ∙ ap sending_by (sym e) ∙ b)));
  block = block_carried l k before after t w.turned;
}

-- ---- what today's transactions make of what is told

-- Whether the message being sent, if there is one, is sent on, where they have come to x: it has a block behind the one that was
-- acknowledged; a block that went up has not proved it received.
abbrev pub goes_on_by : Told → Link → Exchange → Bool
goes_on_by told.Nothing u x = true
goes_on_by told.PutOut u x = true
goes_on_by told.Sent u x = has_next u
goes_on_by told.Failed u x = false
goes_on_by (told.Up n) u x = cond (is_sending u.exchange) (same_message u.exchange.sending x.sending) true

-- What is being sent then is y, where z was: the same, or a report begins where nothing was; or z is sent no more, and a report may follow
-- it in the same call (02, request 2).
abbrev pub Goes : Bool → Sending → Sending → Type 0
Goes true z y = (y ≡ z) ⊎ ReportBegins z y
Goes false z y = (y ≢ z) × NoneOrReport y

judged_goes : (z y : Sending) → (y ≡ z) ⊎ Withdrawn z y ⊎ ReportBegins z y → Goes (cond (sending_by z) (same_message z y) true) z y
judged_goes z y (inl e) =
    subst (λ on. Goes on z y) (sym (ap (λ same. cond (sending_by z) same true) (message_same z y (sym e)) ∙ either (sending_by z) (λ b. cond b true true ≡ true) (λ _. refl) (λ _. refl)))
    (inl e)
judged_goes z y (inr (inl w)) =
    let other = withdrawn_other z y w in
    rw (sent_busy z w.place w.was, other_message z y (λ e. other (sym e))) (other, w.now)
judged_goes z y (inr (inr w)) = subst (λ on. Goes on z y) (sym (ap (λ (s : Sending). cond (sending_by s) (same_message z y) true) w.was)) (inr w)

-- what is told to be over was being sent
pub over_sends : (t : Told) (before after : Bool) → Turns t before after → line.is_over t ≡ true → before ≡ true
over_sends told.Nothing before after w e = clash e
over_sends told.PutOut before after w e = clash e
over_sends told.Sent before after w e = w.0
over_sends told.Failed before after w e = w.0
over_sends (told.Up n) before after w e = clash e

-- behind it comes time
then_goes : (on : Bool) (z x y : Sending) → Goes on z x → (y ≡ x) ⊎ ReportBegins x y → (on ≡ false → y ≢ z) → Goes on z y
then_goes true z x y (inl e) (inl f) other = inl (f ∙ e)
then_goes true z x y (inl e) (inr w) other = inr (record { was = sym e ∙ w.was; now = w.now })
then_goes true z x y (inr w) (inl f) other = inr (record { was = w.was; now = subst NoneOrReport (sym f) w.now })
then_goes true z x y (inr w) (inr v) other = inr (record { was = w.was; now = v.now })
then_goes false z x y g (inl f) other = (other refl, subst NoneOrReport (sym f) g.1)
then_goes false z x y g (inr v) other = (other refl, v.now)

module _ (u : Link) (h : Heard) (room : List ℕ) where
  -- what they have come to
  abbrev pub heard_as : Told → Remark → Exchange
  heard_as t r = (hearing t r (hears u h) room).midway.exchange

  -- where a block is put out, its message goes on
  put_out_sends : (r : Remark) → (heard_as told.PutOut r).sending ≡ u.exchange.sending
  put_out_sends r =
      by_put_out (λ more (x : Exchange). x.sending ≡ u.exchange.sending) (has_next u) u.exchange (λ e. refl)
      (λ e. (sending_ends u.settings.terms u.exchange).put_out)

  pub out_sends : (t : Told) (r : Remark) → t ≡ told.PutOut → (heard_as t r).sending ≡ u.exchange.sending
  out_sends t r e = subst (λ (z : Told). (heard_as z r).sending ≡ u.exchange.sending) (sym e) (put_out_sends r)

  -- the state is one that was reached: a report on its way has the last number given
  module _ (g : Sound u.exchange) (numbered : Numbered u.exchange) where
    abbrev c : Terms
    c = u.settings.terms

    heard_goes : (t : Told) (r : Remark) → (line.is_over t ≡ true → is_sending u.exchange ≡ true)
        → Goes (goes_on_by t u (heard_as t r)) u.exchange.sending (heard_as t r).sending
    heard_goes told.Nothing r s = inl refl
    heard_goes told.PutOut r s = inl (put_out_sends r)
    heard_goes told.Sent r s =
        by_sent (λ more (m : Midway). Goes more u.exchange.sending m.exchange.sending) (has_next u) u.exchange (note_by r)
        (λ e. inl refl)
        (λ e. (acknowledged_other u.exchange numbered (s refl), (sending_ends c u.exchange).acknowledged.some (some_sent _ (s refl))))
    heard_goes told.Failed r s = (failed_other u.exchange numbered (s refl), (sending_ends c u.exchange).failed.some (some_sent _ (s refl)))
    heard_goes (told.Up n) r s =
        judged_goes u.exchange.sending _ ((sending_ends c u.exchange).judged (first_ten h.received) (part 10 n h.received) room)

    -- where nothing is being sent no number was given
    record Came (x : Exchange) : Type 0 where
      none : x.sending ≡ sending.Nothing → x.numbers.last ≡ u.exchange.numbers.last
      sound : Sound x

    stayed : Came u.exchange
    stayed = record { none = λ e. refl; sound = g }

    came : (k : exchange.Call) → Moves u.exchange (exchange.called c u.exchange room k).exchange → Came (exchange.called c u.exchange room k).exchange
    came k m = record { none = none_given u.exchange (exchange.called c u.exchange room k).exchange m; sound = sound_on c u.exchange room k g }

    heard_came : (t : Told) (r : Remark) → Came (heard_as t r)
    heard_came told.Nothing r = stayed
    heard_came told.PutOut r =
        by_put_out (λ more (x : Exchange). Came x) (has_next u) u.exchange (λ e. stayed)
        (λ e. came exchange.put_out (call_moves c u.exchange room (four_places u.exchange g) exchange.put_out))
    heard_came told.Sent r =
        by_sent (λ more (m : Midway). Came m.exchange) (has_next u) u.exchange (note_by r) (λ e. stayed)
        (λ e. came exchange.acknowledged (call_moves c u.exchange room (four_places u.exchange g) exchange.acknowledged))
    heard_came told.Failed r = came exchange.failed (call_moves c u.exchange room (four_places u.exchange g) exchange.failed)
    heard_came (told.Up n) r =
        let k = exchange.block (first_ten h.received) (part 10 n h.received) in came k (call_moves c u.exchange room (four_places u.exchange g) k)

    -- where it is not sent on, a message was being sent
    off_sends : (t : Told) (x : Exchange) → goes_on_by t u x ≡ false → (line.is_over t ≡ true → is_sending u.exchange ≡ true) → is_sending u.exchange ≡ true
    off_sends told.Nothing x e s = clash (sym e)
    off_sends told.PutOut x e s = clash (sym e)
    off_sends told.Sent x e s = s refl
    off_sends told.Failed x e s = s refl
    off_sends (told.Up n) x e s =
        either (is_sending u.exchange) (λ b. cond b (same_message u.exchange.sending x.sending) true ≡ false → b ≡ true) (λ b f. refl) (λ b f. clash (sym f)) e

    -- Time may have a report begin; behind a message that is over it is another one.
    late : (on : Bool) (x : Exchange) → (on ≡ false → is_sending u.exchange ≡ true) → Came x → Goes on u.exchange.sending x.sending
        → Goes on u.exchange.sending (exchange.called c x room exchange.tick).exchange.sending × Came (exchange.called c x room exchange.tick).exchange
    late on x off a w =
        let y = (exchange.called c x room exchange.tick).exchange in
        let z = u.exchange.sending in
        let m = call_moves c x room (four_places x a.sound) exchange.tick in
        let late = (sending_ends c x).ticked in (
          then_goes on z x.sending y.sending w late
              (λ e. other_still u.exchange x y a.none m numbered (off e) (subst (λ b. Goes b z x.sending) e w).0 late),
          record { none = none_given_on u.exchange x y a.none m late; sound = sound_on c x room exchange.tick a.sound },
        )

    pub told_sends : (ticks : Bool) (t : Told) (r : Remark) → (line.is_over t ≡ true → is_sending u.exchange ≡ true)
        → Goes (goes_on_by t u (heard_as t r)) u.exchange.sending (passing ticks c (hearing t r (hears u h) room).midway).exchange.sending
    told_sends false t r s = heard_goes t r s
    told_sends true t r s = (late (goes_on_by t u (heard_as t r)) (heard_as t r) (λ off. off_sends t (heard_as t r) off s) (heard_came t r) (heard_goes t r s)).0
