-- A primary that is accepted at one end is the same message at the other (`specs/SameMessage.antt`). Assumes nothing.
use Rattle.std.specs.Prelude.{Ok, None, Option}
use Prim.Native.Nat.{ℕ, suc, ◌%◌, ◌≤◌, ◌<◌}
use mathlib.Core.Path.{◌≡◌, refl, sym, ap, subst, ◌∙◌}
use mathlib.Core.Bool.{Bool, true, false, cond, not, false≢true}
use mathlib.Core.List.{List, [], ◌∷◌}
use mathlib.Core.Logic.{◌≢◌, inl, inr}
use native.Mathlib.Omega.{arith}
use lib.Dec.{ltb, eqb}
use lib.ListN.{length}
use lib.Seq.{get_or-set_same}
use Rattle.wire.proofs.Choice.{either}
use borrow.Author.Tests.{ltb-true, ltb-false, eqb-true, eqb-false}
use Rattle.wire.specs.Message.{message_limit}
use Rattle.header.specs.Header.{InRange, header_bytes}
use Rattle.header.specs.declared.header.Header.{Header}
use Rattle.header.proofs.Headers.{header_and_back}
use Rattle.cut.specs.Blocks.{block_count}
use Rattle.cut.proofs.Counts.{count_is_fewest}
use Rattle.room.specs.Room.{front}
use Rattle.room.specs.declared.Message.TheVariants as message
use Rattle.room.proofs.Keeping.{keeps_only}
use Rattle.room.proofs.Reading.{front_read}
use Rattle.line.specs.Codes.{ENQ}
use Rattle.line.specs.Line.{fresh_line}
use Rattle.line.specs.declared.phase.Phase.TheVariants.{WaitEot}
use Rattle.settings.specs.declared.terms.Terms.{Terms}
use Rattle.place.specs.Own.{fresh_own, no_reply, primary_of, ended, acknowledged, own_sent, own_tick}
use Rattle.place.specs.Incoming.{primary_of as incoming_primary, incoming_is_free, incoming_is_open, incoming_length}
use Rattle.place.specs.declared.Incoming.{Incoming}
use Rattle.place.specs.declared.OwnStage.TheVariants.{Sending, Awaiting, Done}
use Rattle.place.specs.declared.Own.{Own}
use Rattle.place.specs.declared.Verdict.TheVariants.{Sent}
use Rattle.place.specs.declared.Standing.TheVariants.{Open, Given}
use Rattle.place.proofs.OwnInvariant.{Waits, At}
use Rattle.place.proofs.OwnAlways.{always}
use Rattle.table.specs.Own.{own_at}
use Rattle.table.specs.Incoming.{incoming_at}
use Rattle.table.proofs.Giving.{number_given_lem}
use Rattle.exchange.specs.Exchange.{own_place, incoming_place, put_own, with_sending}
use Rattle.exchange.specs.Send.{outgoing_at, outgoing_of, ended_own, sent_by, sent_of}
use Rattle.exchange.specs.Request.{asked_number, sending_by, primary, answer_of}
use Rattle.exchange.specs.Reading.{wanted, own_reading, reply_stage, incoming_reading, reads_incoming, reads_own}
use Rattle.exchange.specs.Rules.{Fours}
use Rattle.exchange.specs.Releases as side
use Rattle.exchange.specs.Refusals.{OpenRuled, open_0, open_5, open_6, open_7, open_8, number_given, Opened}
use Rattle.exchange.specs.History.{request}
use Rattle.exchange.specs.Tick.{timed_at}
use Rattle.exchange.specs.BeingSent.{NoneOrReport, none}
use Rattle.exchange.specs.Assembly.{Receiver, receiver_of, passes, received, NoneLate, AnyPlace, ReadyFor, Assembled}
use Rattle.exchange.proofs.Refusing.{request_exactly}
use Rattle.exchange.proofs.Accepting.{accepted_opens}
use Rattle.exchange.proofs.Numbering.{read}
use Rattle.exchange.proofs.Passing.{saved_stays, sending_stays, kept_on, by_place_lem}
use Rattle.exchange.proofs.SavedHeader.{sent_saves}
use Rattle.exchange.proofs.Assembling.{assembly_of_cut}
use Rattle.exchange.specs.declared.Sending.{Sending as Sending'}
use Rattle.exchange.specs.declared.Sending.TheVariants as sending
use Rattle.exchange.specs.declared.Outbox.{Outbox}
use Rattle.exchange.specs.declared.Exchange.{Exchange}
use Rattle.exchange.specs.declared.IncomingReading.{IncomingReading}
use Rattle.exchange.specs.declared.ReplyStage.{ReplyStage}
use Rattle.exchange.specs.declared.ReplyStage.TheVariants as reply
use Rattle.exchange.specs.declared.Primary.{Primary}
use Rattle.exchange.specs.declared.Outgoing.TheVariants.{Message}
use Rattle.link.specs.Run.{putting_out}
use Rattle.link.specs.Call.{open_call}
use Rattle.link.specs.Reading.{own_of, message_by}
use Rattle.link.specs.History.{Track, exchange_track, terms_in}
use Rattle.link.specs.Inside.{Reached}
use Rattle.link.specs.SameMessage.{End, end_of, Said, said_by, Pair, Pauses, carries, puts, outward, ticks_in, ticks_in_all, ticks_out_all, InTime, Linked, Lent, Typed, Again, AsAsked, Awaited, later_by, Delivered, GoesOut, SameMessage}
use Rattle.link.specs.declared.Settings.{Settings}
use Rattle.link.specs.declared.Outcome.TheVariants.{Taken}
use Rattle.link.specs.declared.Link.{Link}
use Rattle.link.proofs.inside.Places.{exchange_inside, places_inside}
use Rattle.link.proofs.numbers.Kept.{numbers_kept}
use Rattle.link.proofs.same_message.Calls.{said, unit, Sound}
use Rattle.link.proofs.same_message.Reaches.{Reaches, reaches_itself, reaches_asked, meet_again}
use Rattle.link.proofs.same_message.Carries.{idle_end, spent, spent_all, Arrived, all_carried}
use Rattle.link.proofs.same_message.Stands.{Stands, stands_next, stands_later, stands_out, stands_fours, stands_received, received_size, settings_fit, settings_are, stands, array_fits, sound, sends_none, idles}
use Rattle.link.proofs.same_message.Resting.{received_none, received_still}
use Rattle.link.proofs.same_message.Alone.{Alike, later_alike}
use Rattle.link.proofs.same_message.Freed.{none_waits, none_behind}
use Rattle.link.proofs.same_message.Asks.{taken_inside, asked_said, send_starts}

-- ---- a primary that is accepted

-- it is refused neither by 5, "stream above 127; function even in a primary", nor by 6, "data above 4,096 bytes"
record Sendable (q : Primary) (d : List ℕ) : Type 0 where
  pub stream : q.stream ≤ 127
  pub odd : q.function % 2 ≡ 1
  pub short : length d ≤ message_limit

sendable : (c : Terms) (x : Exchange) (q : Primary) (d room : List ℕ) (p : ℕ) → Fours x → (answer_of c x (primary q d) room).answer.asked ≡ Ok p → Sendable q d
sendable c x q d room p four e = by refl ((request_exactly c x (primary q d) room four 0).0 (ap asked_number e))
  where
    by : {n : ℕ} → n ≡ 0 → OpenRuled x q d n → Sendable q d
    by z (open_5 bad) = absurd (omega (arith, z))
    by z (open_6 bad long) = absurd (omega (arith, z))
    by z (open_7 bad long s) = absurd (omega (arith, z))
    by z (open_8 bad long s f) = absurd (omega (arith, z))
    by z (open_0 bad long s f) = record {
      stream = either (ltb 127 q.stream) (λ t. q.stream ≤ 127) (λ t. absurd (bad (inl (ltb-true 127 q.stream t)))) (λ t. ltb-false 127 q.stream t);
      odd =
          let odd : q.function % 2 ≢ 0 = λ even. bad (inr even) in
          either (eqb (q.function % 2) 0) (λ t. q.function % 2 ≡ 1) (λ t. absurd (odd (eqb-true (q.function % 2) 0 t)))
          (λ t. let not_zero = eqb-false (q.function % 2) 0 t in omega arith);
      short = either (ltb message_limit (length d)) (λ t. length d ≤ message_limit) (λ t. absurd (long (ltb-true message_limit (length d) t))) (λ t. ltb-false message_limit (length d) t);
    }

-- the place of a primary with header h that is being sent
abbrev placed : Header → Own
placed h = record { header = header_bytes h; stage = Sending }

module _ (c : Terms) (y : Exchange) (p n : ℕ) (h : Header) (i : InRange h) (is_sent_lem : y.sending ≡ sending.Primary p n) (here : own_place y p ≡ placed h) where
  -- no tick changes it
  stays_placed : (m : ℕ) → own_place (passes c y m) p ≡ placed h
  stays_placed = kept_on side.own c y p (λ (o : Own). o ≡ placed h) (λ o e. ap (own_tick c) e) here

  stays_sent : (m : ℕ) → (passes c y m).sending ≡ sending.Primary p n
  stays_sent m = sending_stays c y m (ap sending_by is_sent_lem) ∙ is_sent_lem

  -- it is what goes out
  goes_out : (m : ℕ) → outgoing_of (passes c y m) ≡ Message h n
  goes_out m =
      ap (λ (z : Sending'). outgoing_at z (passes c y m)) (stays_sent m)
      ∙ ap (λ (o : Own). Message (primary_of o) n) (stays_placed m) ∙ ap (λ (g : Header). Message g n) (header_and_back h i)

  shown_open : own_reading y p ≡ reads_own h Open no_reply
  unfolding own_reading
  shown_open = ap read here ∙ ap (λ (g : Header). reads_own g Open no_reply) (header_and_back h i)

  -- what becomes of its place once it is sent
  module _ (m : ℕ) (four : length (passes c y m).own ≡ 4) (within : p < 4) where
    sent_place : own_place (sent_of (passes c y m)).exchange p ≡ own_sent (placed h)
    unfolding ended_own put_own with_sending
    sent_place =
        let x : Exchange = passes c y m in
        ap (λ (z : Sending'). own_place (sent_by z x).exchange p) (stays_sent m)
        ∙ get_or-set_same x.own p (own_sent (own_place x p)) fresh_own (omega arith) ∙ ap own_sent (stays_placed m)

    -- W is what was asked for
    asked_so : (primary_of (placed h)).w ≡ h.w
    asked_so = ap (λ (g : Header). g.w) (header_and_back h i)

    awaits_reply : h.w ≡ true → own_place (sent_of (passes c y m)).exchange p ≡ record { header = header_bytes h; stage = Awaiting 0 }
    unfolding acknowledged ended
    awaits_reply wants =
        sent_place ∙ ap (λ (v : Bool). cond v (record { header = header_bytes h; stage = Awaiting 0 }) (record { header = header_bytes h; stage = Done Sent no_reply })) (asked_so ∙ wants)

    sent_shown : own_reading (sent_of (passes c y m)).exchange p ≡ reads_own h (cond h.w Open (Given Sent)) no_reply
    unfolding own_reading acknowledged ended
    sent_shown = ap read sent_place ∙ ap (λ (v : Bool). read (becomes v)) asked_so ∙ by h.w
      where
        becomes : Bool → Own
        becomes v = cond v (record { header = header_bytes h; stage = Awaiting 0 }) (record { header = header_bytes h; stage = Done Sent no_reply })

        by : (v : Bool) → read (becomes v) ≡ reads_own h (cond v Open (Given Sent)) no_reply
        by true = ap (λ (g : Header). reads_own g Open no_reply) (header_and_back h i)
        by false = ap (λ (g : Header). reads_own g (Given Sent) no_reply) (header_and_back h i)

-- what its onlooker has seen of a place that awaits a reply
seen_waits : (v : Track) → Reached v → (p : ℕ) → p < 4 → (b : List ℕ) (n : ℕ) → own_place v.link.exchange p ≡ record { header = b; stage = Awaiting n }
    → Waits (terms_in v) b (v.own p) n
seen_waits v w p within b n e =
    subst (λ (o : Own). At (terms_in v) o.stage o.header (v.own p)) e (always (terms_in v) _ ((places_inside v w).own p within))

-- ---- the message at its receiver

-- a message of which an area begins with the bytes is read so
pub message_read : (y : Exchange) (room : List ℕ) (p : ℕ) (h : Header) (d : List ℕ) (s : ReplyStage) → p < 4 → length room ≡ 36864 → length d ≤ message_limit
    → incoming_reading y p ≡ reads_incoming h (length d) true s → front room (message.Incoming p) (length d) ≡ d → message_by (incoming_reading y p) room p ≡ d
message_read y room p h d s within whole short complete starts =
    ap (λ (z : Option IncomingReading). message_by z room p) complete
    ∙ front_read room (message.Incoming p) (length d) (record { whole = whole; place = omega arith; within = omega arith }) ∙ starts

-- a place is read by what it is
abbrev pub incoming_read : Incoming → Option IncomingReading
incoming_read i = cond (incoming_is_free i) None (reads_incoming (incoming_primary i) (incoming_length i) (not (incoming_is_open i)) (reply_stage i))

pub own_read : (x y : Exchange) (p : ℕ) → own_place x p ≡ own_place y p → own_reading x p ≡ own_reading y p
unfolding own_reading
own_read x y p e = ap read e

pub incoming_read_lem : (x y : Exchange) (p : ℕ) → incoming_place x p ≡ incoming_place y p → incoming_reading x p ≡ incoming_reading y p
unfolding incoming_reading
incoming_read_lem x y p e = ap incoming_read e

-- ---- an idle end

-- what ticks alone leave of its places
pub later_is : (t : Track) (w : Reached t) → t.link.line ≡ fresh_line → (room o : List ℕ) → length room ≡ 36864 → 257 ≤ length o → (n : ℕ)
    → Alike (passes (terms_in t) t.link.exchange n) (later_by o t.link room n).exchange
later_is t w idle room o whole long n = later_alike t w room o whole long (subst NoneOrReport (sym (sends_none t w idle)) none) n

-- ---- both

module _ (a b : Track) (l : Linked a b) (room far o : List ℕ) (m : Lent room far o) (q : Primary) (d : List ℕ) (typed : Typed q d)
    (p : ℕ) (accepted : (open_call a.link q d room o).answer.outcome ≡ Taken p) where
  abbrev s : Settings
  s = a.link.settings

  abbrev x : Exchange
  x = a.link.exchange

  abbrev t : Settings
  t = b.link.settings

  four : Fours x
  four = stands_fours s.terms x (stands a l.one)

  taken : (answer_of s.terms x (primary q d) room).answer.asked ≡ Ok p
  taken = taken_inside a.link (primary q d) room o p accepted

  fits : Sendable q d
  fits = sendable s.terms x q d room p four taken

  -- the transactions that send it, and the room with its data in the send area
  abbrev y : Exchange
  y = (answer_of s.terms x (primary q d) room).answer.exchange

  abbrev sent : List ℕ
  sent = (answer_of s.terms x (primary q d) room).room

  opened : Opened s.terms x q d room p y sent
  opened = accepted_opens s.terms x q d room four p taken

  abbrev h : Header
  h = opened.header

  number_fits : number_given x < 65536
  number_fits = omega (arith, (number_given_lem x.own x.numbers.last x.numbers.latest four.own (numbers_kept a l.one l.last).fits).fits)

  range : InRange h
  range =
      let e = opened.as_asked in
      let small : s.terms.device ≤ 32767 = subst (λ (z : Settings). z.terms.device ≤ 32767) (sym (settings_are a l.one)) (settings_fit a l.one).device_most in
      record {
        device = omega (arith, e.device);
        stream = omega (arith, e.stream, fits.stream);
        function = omega (arith, e.function, typed.function);
        number = let few = count_is_fewest (length d) in omega (arith, e.number, fits.short);
        system = omega (arith, e.system, typed.source, number_fits);
      }

  as_asked : AsAsked q h
  as_asked =
      let e = opened.as_asked in
      record { w = e.w; stream = e.stream; function = e.function; number = number_given x; number_fits = number_fits; system = e.system }

  -- the transactions of both stand, while it is carried
  sender_stands : Stands s.terms y
  sender_stands = stands_next s.terms x room (request (primary q d)) (stands a l.one)

  sent_whole : length sent ≡ 36864
  sent_whole = ap length opened.kept ∙ (keeps_only room message.Send 0 d).size ∙ m.here

  -- the end that asks
  here_sound : (n : ℕ) → Sound s (passes s.terms x n) 1 room
  here_sound = sound a l.one x (stands a l.one) room m.here 1 (omega arith) (omega arith)

  asks : said_by (open_call a.link q d room o) ≡ said (end_of (unit s (WaitEot 0 0) a.link.received y 1) sent) (ENQ ∷ [])
  unfolding passes
  asks =
      ap (λ (u : Link). said_by (open_call u q d room o)) (idles a l.one l.line)
      ∙ asked_said s x 1 room a.link.received o m.out (here_sound 0) (primary q d) refl p taken

  -- where y awaits a reply, x did: its own place is being sent
  awaits_before : (k timer : ℕ) → (own_place y k).stage ≡ Awaiting timer → (own_place x k).stage ≡ Awaiting timer
  awaits_before k timer e =
      by_place_lem k p
      (λ f.
      let z : Sending ≡ Awaiting timer = ap (λ (i : Own). i.stage) (sym opened.place) ∙ ap (λ (j : ℕ). (own_place y j).stage) (sym f) ∙ e in
      absurd (false≢true (ap timed_at z)))
      (λ ne. ap (λ (i : Own). i.stage) (sym (opened.others k ne)) ∙ e)

  module _ (takes : ReadyFor t.terms b.link.exchange h d) (w : ℕ → Pauses) (time : InTime s t d w)
      (none_late : NoneLate s.terms x (ticks_out_all d w) AnyPlace) (none_late_there : NoneLate t.terms b.link.exchange (ticks_in_all d w) AnyPlace) where
    -- what came of it by its blocks 1 to k
    came : ℕ → Receiver
    came k = received t.terms (ticks_in d w) (receiver_of b.link.exchange far) h d k

    came_whole : (k : ℕ) → length (came k).room ≡ 36864
    unfolding came
    came_whole k = received_size t.terms (ticks_in d w) (receiver_of b.link.exchange far) h d k ∙ m.there

    assembled : Assembled t.terms (ticks_in d w) b.link.exchange h d (came (block_count (length d)))
    unfolding came
    assembled =
        let e = exchange_inside b l.other in
        let z = opened.as_asked in
        assembly_of_cut t.terms (exchange_track b e.room) e.reached (ticks_in d w) far h d m.there range
        (record { r = z.r ∙ sym l.roles; device = z.device ∙ sym l.device })
        (ap (λ (n : ℕ). n % 2) z.function ∙ fits.odd) fits.short takes time.blocks

    -- no report starts there, by its blocks or by the ticks between them
    rests_there : (came (block_count (length d))).exchange.sending ≡ sending.Nothing
    rests_there = ap (λ (v : Outbox). v.sending) (assembled.unreported none_late_there) ∙ sends_none b l.other l.far_line

    -- nor here, behind its last ACK
    none_follows : (sent_of (passes s.terms y (spent w (block_count (length d))))).exchange.sending ≡ sending.Nothing
    none_follows =
        none_behind s.terms x y opened.reports (none_waits a l.one l.last (sends_none a l.one l.line)) awaits_before (spent w (block_count (length d)))
        (subst (λ (i : ℕ). NoneLate s.terms x i AnyPlace) (sym (spent_all w (block_count (length d)))) none_late)

    -- it is carried
    arrives : Arrived a b h d w s y sent a.link.received t (receiver_of b.link.exchange far) (outward o w (end_of a.link room) (end_of b.link far) q d)
    unfolding came
    arrives =
        let n : ℕ = block_count (length d) in
        let r : Receiver = receiver_of b.link.exchange far in
        let quiet = sends_none b l.other l.far_line in
        subst (Arrived a b h d w s y sent a.link.received t r)
        (sym (λ i. carries o w n (puts (asks i) (end_of (idles b l.other l.far_line i) far))))
        (all_carried o m.out h d range typed.bytes fits.short s y sent a.link.received
        (λ more. sound a l.one (putting_out more y) (stands_out s.terms more y sender_stands) sent sent_whole)
        (goes_out s.terms y p (length d) h range opened.sending opened.place)
        (ap (λ (z : List ℕ). front z message.Send (length d)) opened.kept ∙ send_starts room d m.here fits.short)
        t r b.link.received (array_fits b l.other) w
        (λ k less.
        sound b l.other (received t.terms (ticks_in d w) r h d k).exchange
        (stands_received t.terms (ticks_in d w) r h d (stands b l.other) k)
        (received t.terms (ticks_in d w) r h d k).room (received_size t.terms (ticks_in d w) r h d k ∙ m.there) 1 (omega arith) (omega arith))
        (received_still t.terms (ticks_in d w) r h d quiet n rests_there)
        (λ k less. let none = received_none t.terms (ticks_in d w) r h d quiet n rests_there in none (suc k) less ∙ sym (none k (omega arith)))
        none_follows time a b
        (subst (λ (z : Said). Reaches a z.end) asks (reaches_asked a (end_of a.link room) (reaches_itself a room) o (primary q d)))
        (subst (λ (u : Link). Reaches b (end_of u far)) (idles b l.other l.far_line) (reaches_itself b far)))

    -- the sender then, and both ends
    abbrev done : Exchange
    done = (sent_of (passes s.terms y (spent w (block_count (length d))))).exchange

    abbrev sender : End
    sender = idle_end s a.link.received done sent

    abbrev receiver : End
    receiver = idle_end t arrives.array (came (block_count (length d))).exchange (came (block_count (length d))).room

    again : Again o sender receiver
    unfolding came
    again =
        meet_again a b l o sender receiver (subst (λ (z : Pair). Reaches a z.sender) arrives.so arrives.sender_reaches)
        (subst (λ (z : Pair). Reaches b z.receiver) arrives.so arrives.receiver_reaches) refl refl refl refl
        (record { here = sent_whole; there = came_whole (block_count (length d)); out = m.out })

    own_four : length (passes s.terms y (spent w (block_count (length d)))).own ≡ 4
    own_four =
        let n : ℕ = spent w (block_count (length d)) in
        (stands_fours s.terms (passes s.terms y n) (stands_later s.terms y sender_stands n)).own

    -- own place p
    standing : own_reading done p ≡ reads_own h (cond q.w Open (Given Sent)) no_reply
    standing =
        sent_shown s.terms y p (length d) h range opened.sending opened.place (spent w (block_count (length d))) own_four opened.lowest.within
        ∙ ap (λ (v : Bool). reads_own h (cond v Open (Given Sent)) no_reply) opened.as_asked.w

    awaited : q.w ≡ true → Awaited again.here p h × ((again.here.own p).since ≡ 0)
    awaited wants =
        let within = opened.lowest.within in
        let seen =
        seen_waits again.here again.linked.one p within (header_bytes h) 0
        (ap (λ (u : Link). own_place u.exchange p) again.one
        ∙ awaits_reply s.terms y p (length d) h range opened.sending opened.place (spent w (block_count (length d))) own_four within (opened.as_asked.w ∙ wants)) in (
          record {
            shown = ap (λ (u : Link). own_of u p) again.one ∙ standing ∙ ap (λ (v : Bool). reads_own h (cond v Open (Given Sent)) no_reply) wants;
            acknowledged = seen.request;
            none = seen.unanswered.kept;
            ranged = range;
          },
          seen.since,
        )

    delivered : Delivered o q d h p a.link.exchange.saved (later_by o b.link far (ticks_in_all d w)) (outward o w (end_of a.link room) (end_of b.link far) q d)
    unfolding wanted came
    delivered =
        let n : ℕ = block_count (length d) in
        let r : Receiver = came n in
        let z = assembled in
        let later : Link = later_by o b.link far (ticks_in_all d w) in
        let alone = later_is b l.other l.far_line far o m.there m.out (ticks_in_all d w) in
        subst (Delivered o q d h p a.link.exchange.saved later) (sym arrives.so)
        (record {
          quiet = record {
            none = refl;
            line = refl;
            far_line = refl;
            sending = ap sending_by none_follows;
            far_sending = ap sending_by rests_there;
          };
          again = again;
          standing = standing;
          awaited = awaited;
          place = z.place;
          message = z.primary;
          complete = z.complete ∙ ap (λ (v : Bool). reads_incoming z.primary (length d) true (cond v reply.Owed reply.NotOwed)) opened.as_asked.w;
          same = z.same;
          bytes = message_read r.exchange r.room z.place z.primary d (wanted h) z.within (came_whole n) fits.short z.complete z.bytes;
          notes = z.notes;
          others = λ k ne. incoming_read_lem r.exchange later.exchange k (z.others k ne ∙ ap (λ (v : List Incoming). incoming_at v k) (sym alone.incoming));
          owns = λ k. own_read r.exchange later.exchange k (z.owns k ∙ ap (λ (v : List Own). own_at v k) (sym alone.own));
          saved = z.saved;
          far_saved = sent_saves (passes s.terms y (spent w n)).sending (passes s.terms y (spent w n)) ∙ saved_stays s.terms y (spent w n) ∙ opened.saved;
        })

  goes_on_its_way : GoesOut a b room far o q d p
  goes_on_its_way = record {
    header = h;
    as_asked = as_asked;
    shown =
        ap (λ (z : Said). own_reading z.end.link.exchange p) asks
        ∙ shown_open s.terms y p (length d) h range opened.sending opened.place;
    delivered = delivered;
  }

pub same_message_lem : SameMessage
same_message_lem a b l room far o m q d typed p accepted = goes_on_its_way a b l room far o m q d typed p accepted
