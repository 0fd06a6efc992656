-- A reply that is accepted where a primary came is the same message where the primary was sent (`specs/SameMessage.antt`). Assumes
-- nothing.
use Rattle.std.specs.Prelude.{Ok, None, Option, Some}
use Prim.Native.Nat.{ℕ, suc, ◌+◌, ◌%◌, ◌≤◌, ◌<◌}
use mathlib.Core.Path.{◌≡◌, refl, sym, ap, subst, ◌∙◌}
use mathlib.Core.Bool.{Bool, true, false, not, not-not, false≢true}
use mathlib.Core.List.{List, [], ◌∷◌}
use mathlib.Core.Logic.{◌≢◌, inl}
use native.Mathlib.Omega.{arith}
use lib.Dec.{ltb}
use lib.ListN.{length}
use borrow.Author.Tests.{ltb-true, ltb-false}
use Rattle.wire.specs.Message.{message_limit}
use Rattle.wire.proofs.Choice.{either}
use Rattle.header.specs.Header.{InRange}
use Rattle.header.specs.Theorems.{SameElse}
use Rattle.header.specs.declared.header.Header.{Header}
use Rattle.cut.specs.Blocks.{block_count}
use Rattle.room.specs.Room.{bytes_in, front}
use Rattle.room.specs.Theorems.{Lies}
use Rattle.room.specs.declared.Message.TheVariants as message
use Rattle.room.proofs.Keeping.{keeps_only, keep_elsewhere}
use Rattle.room.proofs.Reading.{front_read}
use Rattle.line.specs.Codes.{ENQ}
use Rattle.line.specs.declared.phase.Phase.TheVariants.{WaitEot}
use Rattle.settings.specs.declared.terms.Terms.{Terms}
use Rattle.place.specs.Message.{Routed}
use Rattle.place.specs.Own.{no_reply, free_by, standing_at, own_standing}
use Rattle.place.specs.Range.{IncomingStageFits}
use Rattle.place.specs.Incoming.{primary_of as incoming_primary}
use Rattle.place.specs.OwnHistory as own
use Rattle.place.specs.declared.OwnStage.{OwnStage}
use Rattle.place.specs.declared.OwnStage.TheVariants as stage
use Rattle.place.specs.declared.IncomingStage.{IncomingStage}
use Rattle.place.specs.declared.Own.{Own}
use Rattle.place.specs.declared.Incoming.{Incoming}
use Rattle.place.specs.declared.Reply.{Reply}
use Rattle.place.specs.declared.Verdict.{Verdict}
use Rattle.place.specs.declared.Standing.{Standing}
use Rattle.place.specs.declared.Standing.TheVariants.{Free, Open, Given}
use Rattle.place.proofs.OwnInvariant.{At, is_received, HasVerdict, no_block}
use Rattle.place.proofs.OwnAlways.{always}
use Rattle.place.proofs.Verdicts.{request_shown}
use Rattle.table.specs.Own.{own_at}
use Rattle.table.specs.Incoming.{incoming_at}
use Rattle.exchange.specs.Exchange.{own_place, incoming_place, sent_from}
use Rattle.exchange.specs.Send.{sent_of}
use Rattle.exchange.specs.Request.{sending_by, reply, answer_of}
use Rattle.exchange.specs.Reading.{own_reading, incoming_reading, reads_incoming, reads_own}
use Rattle.exchange.specs.Rules.{Fours, Duplicate}
use Rattle.exchange.specs.History.{request}
use Rattle.exchange.specs.Refusals.{RepliesTo, Replied}
use Rattle.exchange.specs.Numbers.{in_use}
use Rattle.exchange.specs.Assembly.{header_in, Receiver, receiver_of, passes, received, NoneLate, AnyPlace, AwaitedFor, acked, Awaits, ReplyAssembled}
use Rattle.exchange.proofs.Ranges.{exchange_fits_exactly}
use Rattle.exchange.proofs.Odds.{Came, CameAt, came}
use Rattle.exchange.proofs.Passing.{saved_stays}
use Rattle.exchange.proofs.SavedHeader.{sent_saves}
use Rattle.exchange.proofs.Answering.{assembly_of_reply}
use Rattle.exchange.specs.declared.Sending.{Sending}
use Rattle.exchange.specs.declared.Sending.TheVariants as sending
use Rattle.exchange.specs.declared.Outbox.{Outbox}
use Rattle.exchange.specs.declared.Exchange.{Exchange}
use Rattle.exchange.specs.declared.OwnReading.{OwnReading}
use Rattle.exchange.specs.declared.IncomingReading.{IncomingReading}
use Rattle.exchange.specs.declared.ReplyStage.{ReplyStage}
use Rattle.link.specs.Run.{putting_out}
use Rattle.link.specs.Call.{reply_call}
use Rattle.link.specs.Reading.{own_of, reply_by, incoming_of, message_by}
use Rattle.link.specs.History.{Track, exchange_track}
use Rattle.link.specs.Inside.{Reached}
use Rattle.link.specs.Verdicts.{standing_by, request_in}
use Rattle.link.specs.SameMessage.{end_of, Said, said_by, Pair, Pauses, carries, puts, homeward, ticks_in, ticks_in_all, ticks_out_all, InTime, Linked, Lent, Earns, Awaited, Shown, TypedReply, later_by, Returned, ComesBack, SameReply}
use Rattle.link.specs.declared.Settings.{Settings}
use Rattle.link.specs.declared.Outcome.TheVariants.{Taken}
use Rattle.link.specs.declared.Link.{Link}
use Rattle.link.proofs.inside.Places.{exchange_inside, places_inside}
use Rattle.link.proofs.verdicts.Own.{standing_read, request_read, none_above}
use Rattle.link.proofs.same_message.Calls.{said, unit, Sound}
use Rattle.link.proofs.same_message.Reaches.{Reaches, reaches_itself, reaches_asked, meet_again}
use Rattle.link.proofs.same_message.Carries.{spent, spent_all, Arrived, all_carried}
use Rattle.link.proofs.same_message.Stands.{Stands, stands_next, stands_later, stands_out, stands_fours, stands_received, received_size, stands, array_fits, sound, sends_none, idles}
use Rattle.link.proofs.same_message.Resting.{received_none, received_still}
use Rattle.link.proofs.same_message.Freed.{none_waits, none_behind}
use Rattle.link.proofs.same_message.Asks.{taken_inside, asked_said, send_starts}
use Rattle.link.proofs.same_message.Delivers.{own_read, incoming_read_lem, later_is}
use Rattle.link.proofs.numbers.Distinct.{alone}
use Rattle.link.proofs.same_message.Replies.{even, earned, earns, Replyable, replyable, replied, goes_out, header_is, size_is, sent_read}

-- ---- a place whose reply is awaited

-- T3 stands there at the ticks since the ACK
awaited_at : (c : Terms) (h : List ℕ) (z : OwnStage) (s : own.Seen) → At c z h s → standing_at z ≡ Open → s.request ≡ own.acknowledged → s.kept ≡ []
    → z ≡ stage.Awaiting s.since
awaited_at c h stage.Free s w open' ack none = absurd (is_received _ _ w (inl ack))
awaited_at c h stage.Sending s w open' ack none = absurd (is_received _ _ w.request (inl ack))
awaited_at c h stage.PutOut s w open' ack none = absurd (is_received _ _ w.request (inl ack))
awaited_at c h (stage.Awaiting timer) s w open' ack none = ap stage.Awaiting (sym w.since)
awaited_at c h (stage.Replying a) s w open' ack none = absurd (no_block s.kept none w.arrives.begun.some)
awaited_at c h (stage.Done v r) s w open' ack none = absurd (subst HasVerdict open' tt)

-- ---- places that are read

-- there are four of either kind
own_within : (t : Track) → Reached t → (p : ℕ) (h : Header) (z : Standing) (r : Reply) → own_of t.link p ≡ reads_own h z r → p < 4
own_within t w p h z r e =
    either (ltb 3 p) (λ b. p < 4) (λ b. absurd (not_place (sym e ∙ (none_above t w p (ltb-true 3 p b)).0))) (λ b. omega (arith, ltb-false 3 p b))
  where
    not_place : reads_own h z r ≡ None → ⊥
    not_place f = false≢true (sym (ap in_use f))

incoming_within : (t : Track) → Reached t → (p : ℕ) (h : Header) (n : ℕ) (z : Bool) (s : ReplyStage) → incoming_of t.link p ≡ reads_incoming h n z s → p < 4
incoming_within t w p h n z s e =
    either (ltb 3 p) (λ b. p < 4) (λ b. absurd (not_place (sym e ∙ (none_above t w p (ltb-true 3 p b)).1))) (λ b. omega (arith, ltb-false 3 p b))
  where
    is_place : Option IncomingReading → Bool
    is_place None = false
    is_place (Some r) = true

    not_place : reads_incoming h n z s ≡ None → ⊥
    not_place f = false≢true (sym (ap is_place f))

apart : (p : ℕ) → message.Send ≡ message.Incoming p → ⊥
apart p e = false≢true (cc e)

-- ---- both

module _ (a b : Track) (l : Linked a b) (room far o : List ℕ) (m : Lent room far o) (q : ℕ) (h : Header) (awaited : Awaited a q h)
    (p : ℕ) (g : Header) (n : ℕ) (shown : Shown b p g n) (same : SameElse g h) (f : ℕ) (r : List ℕ) (typed : TypedReply f r)
    (k : ℕ) (accepted : (reply_call b.link p f r far o).answer.outcome ≡ Taken k) where
  abbrev s : Settings
  s = b.link.settings

  abbrev t : Settings
  t = a.link.settings

  abbrev x : Exchange
  x = b.link.exchange

  -- ---- the end that replies

  four : Fours x
  four = stands_fours s.terms x (stands b l.other)

  p_within : p < 4
  p_within = incoming_within b l.other p g n true shown.stage shown.so

  taken : (answer_of s.terms x (reply p f r) far).answer.asked ≡ Ok k
  taken = taken_inside b.link (reply p f r) far o k accepted

  fits : Replyable (incoming_primary (incoming_place x p)) f r
  fits = replyable s.terms x p f r far k four taken

  -- the transactions that send it, and the room with its data in the send area
  abbrev y : Exchange
  y = (answer_of s.terms x (reply p f r) far).answer.exchange

  abbrev sent : List ℕ
  sent = (answer_of s.terms x (reply p f r) far).room

  abbrev answer : Replied x p f r far k y sent
  answer = replied s.terms x p f r far k taken

  there : (incoming_place x p).header ≡ g
  there = header_is s.terms x p f r far k taken g n shown.stage shown.so

  abbrev e : Header
  e = answer.header

  replies_to : RepliesTo g f e
  replies_to = subst (λ (z : Header). RepliesTo z f e) there answer.replies_to

  -- the message came to this end, as a primary
  message_came : Came s.terms g
  message_came =
      let i = exchange_inside b l.other in
      subst (Came s.terms) there
      (subst (λ (z : IncomingStage). CameAt s.terms z (incoming_place x p).header) answer.was (came s.terms (exchange_track b i.room) i.reached p p_within))

  won : (v : Verdict) × Earns h.function f v
  won =
      subst (λ (z : ℕ). (v : Verdict) × Earns z f v) (ap (λ (z : Header). z.function) there ∙ same.function)
      (earns (incoming_place x p).header f typed.function fits.good)

  sender_stands : Stands s.terms y
  sender_stands = stands_next s.terms x far (request (reply p f r)) (stands b l.other)

  sent_whole : length sent ≡ 36864
  sent_whole = ap length answer.kept ∙ (keeps_only far message.Send 0 r).size ∙ m.there

  there_sound : (i : ℕ) → Sound s (passes s.terms x i) 1 far
  there_sound = sound b l.other x (stands b l.other) far m.there 1 (omega arith) (omega arith)

  -- the message, which the send area is apart from, is still there
  message_stays : bytes_in sent (message.Incoming p) 0 n ≡ bytes_in far (message.Incoming p) 0 n
  unfolding passes
  message_stays =
      let few : answer.size ≤ message_limit =
      subst IncomingStageFits answer.was (((exchange_fits_exactly x).0 (there_sound 0).exchange).incoming p p_within) in
      let short : n ≤ message_limit = omega (arith, size_is s.terms x p f r far k taken g n shown.stage shown.so) in
      let lies : (i : List ℕ) → length i ≡ 36864 → Lies i (message.Incoming p) 0 n = λ i whole. record { whole = whole; place = p_within; within = omega arith } in
      front_read sent (message.Incoming p) n (lies sent sent_whole)
      ∙ ap (λ (i : List ℕ). front i (message.Incoming p) n) answer.kept
      ∙ keep_elsewhere far message.Send (message.Incoming p) 0 n r (apart p) p_within short
      ∙ sym (front_read far (message.Incoming p) n (lies far m.there))

  answers_so : said_by (reply_call b.link p f r far o) ≡ said (end_of (unit s (WaitEot 0 0) b.link.received y 1) sent) (ENQ ∷ [])
  unfolding passes
  answers_so =
      ap (λ (u : Link). said_by (reply_call u p f r far o)) (idles b l.other l.far_line)
      ∙ asked_said s x 1 far b.link.received o m.out (there_sound 0) (reply p f r) refl k taken

  -- ---- the end that awaits it

  abbrev z : Exchange
  z = a.link.exchange

  q_within : q < 4
  q_within = own_within a l.one q h Open no_reply awaited.shown

  is_open : own_standing (own_place z q) ≡ Open
  is_open = sym (standing_read a q) ∙ ap standing_by awaited.shown

  not_free : own_standing (own_place z q) ≡ Free → ⊥
  not_free w = false≢true (ap free_by (sym is_open ∙ w))

  -- its onlooker has seen the primary that it shows
  seen_is : (a.own q).header ≡ h
  seen_is = sym (request_read a l.one q q_within (λ w. not_free (sym (standing_read a q) ∙ w))) ∙ ap request_in awaited.shown

  awaits : (n : ℕ) → (Duplicate t.terms z (header_in e r 1) → ⊥) → (a.own q).since + n ≤ t.terms.t3.0 → Awaits t.terms z q h n e r
  awaits n new early =
      let inside = (places_inside a l.one).own q q_within in
      record {
        within = q_within;
        primary = request_shown t.terms _ inside not_free ∙ seen_is;
        stage =
            subst (AwaitedFor t.terms n)
            (sym (awaited_at t.terms (own_place z q).header (own_place z q).stage (a.own q) (always t.terms _ inside) is_open awaited.acknowledged awaited.none))
            (acked (a.own q).since early);
        alone = λ j j_within ne runs is.
            alone a l.one l.last q j q_within j_within ne (λ w. absurd (is_received _ _ w (inl awaited.acknowledged))) runs
            (is ∙ replies_to.system ∙ same.system ∙ ap (λ (w : Header). w.system) (sym seen_is));
        new = new;
      }

  -- ---- the reply

  range : InRange e
  range =
      let i = awaited.ranged in
      let c = replies_to in
      record {
        device = omega (arith, i.device, c.device, same.device);
        stream = omega (arith, i.stream, c.stream, same.stream);
        function = omega (arith, c.function, typed.function);
        number = omega (arith, c.number);
        system = omega (arith, i.system, c.system, same.system);
      }

  routed : Routed t.terms e
  routed =
      let w = message_came.routed in
      record {
        r = replies_to.r ∙ ap not (w.r ∙ l.roles) ∙ not-not t.terms.host;
        device = replies_to.device ∙ w.device ∙ l.device;
      }

  module _ (new : Duplicate t.terms z (header_in e r 1) → ⊥) (w : ℕ → Pauses) (time : InTime s t r w)
      (early : (a.own q).since + ticks_in r w 1 ≤ t.terms.t3.0)
      (none_late : NoneLate s.terms x (ticks_out_all r w) AnyPlace) (none_late_there : NoneLate t.terms z (ticks_in_all r w) (λ i. i ≢ q)) where
    -- what comes of it by its blocks 1 to j
    back : ℕ → Receiver
    back j = received t.terms (ticks_in r w) (receiver_of z room) e r j

    back_whole : (j : ℕ) → length (back j).room ≡ 36864
    unfolding back
    back_whole j = received_size t.terms (ticks_in r w) (receiver_of z room) e r j ∙ m.here

    assembled : ReplyAssembled t.terms (ticks_in r w) won.0 z q h e r (back (block_count (length r)))
    unfolding back
    assembled =
        let c = replies_to in
        assembly_of_reply t.terms (ticks_in r w) z room q h e r won.0
        (stands_fours t.terms z (stands a l.one)) m.here range
        (ap (λ (i : ℕ). i % 2) c.function ∙ even h.function f won.0 (ap (λ (i : ℕ). i % 2) (sym same.function) ∙ message_came.odd) won.1)
        routed (record { device = c.device ∙ same.device; system = c.system ∙ same.system })
        (earned h e f won.0 (c.stream ∙ same.stream) c.function won.1) fits.short (awaits (ticks_in r w 1) new early) time.blocks

    -- no report starts there, by its blocks or by the ticks between them
    rests_there : (back (block_count (length r))).exchange.sending ≡ sending.Nothing
    rests_there =
        let quiet = sends_none a l.one l.line in
        ap (λ (v : Outbox). v.sending) (assembled.unreported (ap (λ (i : Sending). sent_from i q) quiet) none_late_there) ∙ quiet

    -- nor here, behind its last ACK
    none_follows : (sent_of (passes s.terms y (spent w (block_count (length r))))).exchange.sending ≡ sending.Nothing
    none_follows =
        none_behind s.terms x y answer.reports (none_waits b l.other l.far_last (sends_none b l.other l.far_line))
        (λ i timer u. ap (λ (v : List Own). (own_at v i).stage) (sym answer.own) ∙ u) (spent w (block_count (length r)))
        (subst (λ (i : ℕ). NoneLate s.terms x i AnyPlace) (sym (spent_all w (block_count (length r)))) none_late)

    -- it is carried
    arrives : Arrived b a e r w s y sent b.link.received t (receiver_of z room) (homeward o w (end_of b.link far) (end_of a.link room) p f r)
    unfolding back
    arrives =
        let c : Receiver = receiver_of z room in
        let j : ℕ = block_count (length r) in
        let quiet = sends_none a l.one l.line in
        subst (Arrived b a e r w s y sent b.link.received t c)
        (sym (λ i. carries o w (block_count (length r)) (puts (answers_so i) (end_of (idles a l.one l.line i) room))))
        (all_carried o m.out e r range typed.bytes fits.short s y sent b.link.received
        (λ more. sound b l.other (putting_out more y) (stands_out s.terms more y sender_stands) sent sent_whole)
        (goes_out s.terms x p f r far k taken)
        (ap (λ (i : List ℕ). front i message.Send (length r)) answer.kept ∙ send_starts far r m.there fits.short)
        t c a.link.received (array_fits a l.one) w
        (λ j less.
        sound a l.one (received t.terms (ticks_in r w) c e r j).exchange (stands_received t.terms (ticks_in r w) c e r (stands a l.one) j)
        (received t.terms (ticks_in r w) c e r j).room (received_size t.terms (ticks_in r w) c e r j ∙ m.here) 1 (omega arith) (omega arith))
        (received_still t.terms (ticks_in r w) c e r quiet j rests_there)
        (λ i less. let none = received_none t.terms (ticks_in r w) c e r quiet j rests_there in none (suc i) less ∙ sym (none i (omega arith)))
        none_follows time b a
        (subst (λ (i : Said). Reaches b i.end) answers_so (reaches_asked b (end_of b.link far) (reaches_itself b far) o (reply p f r)))
        (subst (λ (u : Link). Reaches a (end_of u room)) (idles a l.one l.line) (reaches_itself a room)))

    -- what is read of it
    verdict_read : own_reading (back (block_count (length r))).exchange q
        ≡ reads_own h (Given won.0) (record { w = false; stream = h.stream; function = f; length = length r })
    verdict_read =
        let c = replies_to in
        assembled.verdict
        ∙ (λ i. reads_own h (Given won.0) (record { w = c.w i; stream = (c.stream ∙ same.stream) i; function = c.function i; length = length r }))

    returned : Returned o won.0 p q f r g h e n (message_by (incoming_reading x p) far p) x.saved (later_by o a.link room (ticks_in_all r w))
        (homeward o w (end_of b.link far) (end_of a.link room) p f r)
    unfolding back
    returned =
        let j : ℕ = block_count (length r) in
        let c : Receiver = back j in
        let later : Link = later_by o a.link room (ticks_in_all r w) in
        let ticks_alone = later_is a l.one l.line room o m.here m.out (ticks_in_all r w) in
        let done = sent_read s.terms x p f r far k taken g n shown.stage shown.so (spent w j)
        (stands_fours s.terms (passes s.terms y (spent w j)) (stands_later s.terms y sender_stands (spent w j))).incoming p_within in
        subst (Returned o won.0 p q f r g h e n (message_by (incoming_reading x p) far p) x.saved later) (sym arrives.so)
        (record {
          quiet = record {
            none = refl;
            line = refl;
            far_line = refl;
            sending = ap sending_by none_follows;
            far_sending = ap sending_by rests_there;
          };
          again =
              meet_again a b l o _ _ (subst (λ (i : Pair). Reaches a i.receiver) arrives.so arrives.receiver_reaches)
              (subst (λ (i : Pair). Reaches b i.sender) arrives.so arrives.sender_reaches) refl refl refl refl
              (record { here = back_whole j; there = sent_whole; out = m.out });
          verdict = verdict_read;
          bytes =
              ap (λ (i : Option OwnReading). reply_by i c.room q) verdict_read
              ∙ front_read c.room (message.Reply q) (length r) (record { whole = back_whole j; place = q_within; within = omega (arith, fits.short) })
              ∙ assembled.bytes;
          notes = assembled.notes;
          replied = done;
          still =
              ap (λ (i : Option IncomingReading). message_by i sent p) done ∙ message_stays ∙ sym (ap (λ (i : Option IncomingReading). message_by i far p) shown.so);
          others = λ i ne. own_read c.exchange later.exchange i (assembled.others i ne ∙ ap (λ (v : List Own). own_at v i) (sym ticks_alone.own));
          incomings = λ i. incoming_read_lem c.exchange later.exchange i (assembled.incomings i ∙ ap (λ (v : List Incoming). incoming_at v i) (sym ticks_alone.incoming));
          saved = assembled.saved;
          far_saved = sent_saves (passes s.terms y (spent w j)).sending (passes s.terms y (spent w j)) ∙ saved_stays s.terms y (spent w j) ∙ answer.saved;
        })

  comes_back : ComesBack a b room far o p q f r g h n
  comes_back = record { verdict = won.0; earned = won.1; header = e; replies_to = replies_to; returned = returned }

pub same_reply : SameReply
same_reply a b l room far o m q h awaited p g n shown same f r typed k accepted =
    comes_back a b l room far o m q h awaited p g n shown same f r typed k accepted
