-- What leaves at an EOT, and at an ACK; when the last block of a message is out, and when it has been sent (`specs/Sends.antt`). Assumes
-- nothing.
use Prim.Native.Nat.{ℕ, suc, ◌+◌, ◌-◌, ◌*◌, ◌≤◌, ◌<◌}
use mathlib.Core.Path.{◌≡◌, refl, sym, ap, ◌∙◌, subst}
use mathlib.Core.Bool.{Bool, true, false, cond}
use mathlib.Core.List.{List, [], ◌∷◌, ◌++◌}
use mathlib.Core.Logic.{◌↔◌, inl}
use native.Mathlib.Omega.{arith}
use lib.Dec.{eqb, ltb}
use lib.ListN.{length, take, drop, length-drop}
use lib.Seq.{take_all}
use borrow.Author.Tests.{eqb-true, le-ltb, ltb-false}
use Rattle.wire.specs.Bytes.{part}
use Rattle.wire.specs.Message.{message_limit}
use Rattle.wire.proofs.Choice.{either}
use Rattle.header.specs.Header.{InRange, numbered_of}
use Rattle.header.specs.declared.header.Header.{Header}
use Rattle.settings.specs.declared.limits.Limits.{Limits}
use Rattle.cut.specs.Blocks.{block_count, part_start, part_length, header_at}
use Rattle.cut.specs.Theorems.{part_in}
use Rattle.cut.specs.declared.Cut.{Cut}
use Rattle.cut.proofs.Counts.{count_is_fewest}
use Rattle.block.specs.Block.{block_of}
use Rattle.room.specs.Room.{front}
use Rattle.room.specs.declared.Message.TheVariants.{Send}
use Rattle.line.specs.Codes.{EOT, ACK}
use Rattle.line.specs.Line.{line_at, busy, byte_of}
use Rattle.line.specs.History as line
use Rattle.line.specs.History.{Ours, none, enquired, leaving, left, ours_at}
use Rattle.line.proofs.Always.{always as line_always}
use Rattle.line.proofs.Busy.{busy_turns}
use Rattle.line.proofs.Rules.{line_rules}
use Rattle.line.specs.declared.step.Told.TheVariants as told
use Rattle.line.specs.declared.phase.Phase.{Phase}
use Rattle.line.specs.declared.phase.Phase.TheVariants.{Idle, WaitEot, Draining, WaitAck, WaitLength, Body, Silence}
use Rattle.exchange.specs.Request.{sending_by}
use Rattle.exchange.specs.Reports.{report_header, report_body}
use Rattle.exchange.specs.Send.{outgoing_at, sent_of}
use Rattle.exchange.specs.Theorems.{from_caller}
use Rattle.exchange.specs.Posting.{post, report_sent}
use Rattle.exchange.specs.History as exchange
use Rattle.exchange.specs.declared.Sending.{Sending}
use Rattle.exchange.specs.declared.Sending.TheVariants as sending
use Rattle.exchange.specs.declared.Outgoing.{Outgoing}
use Rattle.exchange.specs.declared.Outgoing.TheVariants as outgoing
use Rattle.exchange.specs.declared.Exchange.{Exchange}
use Rattle.exchange.proofs.Another.{acknowledged_other}
use Rattle.exchange.proofs.Areas.{joined_in_areas, always as exchange_always}
use Rattle.link.specs.Run.{has_next, block_in, block_bytes}
use Rattle.link.specs.Reading.{sending_of, message_of}
use Rattle.link.specs.History.{Call, byte, tick, drained, request, kept, Made, on_line, settles, on_exchange, Track, line_track, exchange_track, limits_in, terms_in, answered, on_exchange_in, next}
use Rattle.link.specs.Inside.{Reached, Back}
use Rattle.link.specs.Door.{bytes_left, line_bytes, on_way, starts_enq, Watch, AtDoor}
use Rattle.link.specs.Verdicts.{Accepted, Tells}
use Rattle.link.specs.Device.{comes}
use Rattle.link.specs.Sends.{Sender, sender_seen, blocks_of, block_sent, LastOut, LastPutOut, LastAck, LastAcknowledged, AckGoesOn, SendsAccepted}
use Rattle.link.proofs.inside.Reached.{line_inside}
use Rattle.link.proofs.inside.Places.{lent, goes, sound_inside, numbered_inside}
use Rattle.link.proofs.inside.Tens.{tens_inside}
use Rattle.link.proofs.Accepted.{accepted_calls}
use Rattle.link.proofs.inside.Courier.{clash}
use Rattle.link.proofs.inside.Agrees.{agrees, few_sent}
use Rattle.link.proofs.door.Courier.{Fate, called_for, fate_in, byte_calls}
use Rattle.link.proofs.door.Right.{door_right}
use Rattle.link.proofs.door.Limits.{door_each_enq_its_block}
use Rattle.link.proofs.hearing.Steps.{by_idle}
use Rattle.link.proofs.hearing.Calls.{at_door as by_line_lem}
use Rattle.link.proofs.device.Told.{told_exactly, ack_tells, put_out_exactly, sent_exactly}
use Rattle.link.proofs.moves.Own.{underway_exactly}
use Rattle.link.proofs.verdicts.Back.{exchange_back}
use Rattle.link.proofs.verdicts.Replies.{on_its_way_exactly}
use Rattle.link.proofs.same_message.Blocks.{there_is, block_out}
use Rattle.link.proofs.sends.Counts.{held, as_long, block_moves, next_is, next_exactly}
use Rattle.std.specs.Prelude.{Option}

-- ---- block k of a message

-- its part of the data is 244 bytes, or what is left
part_is : (d : List ℕ) (k : ℕ) → 1 ≤ k → k ≤ block_count (length d) → part (part_start k) (part_start k + part_length (length d) k) d ≡ take 244 (drop ((k - 1) * 244) d)
unfolding part part_length
part_is d k one most =
    let a = (k - 1) * 244 in
    let f = count_is_fewest (length d) in
    either (eqb k (block_count (length d))) (λ t. take (a + cond t (length d - a) 244 - a) (drop a d) ≡ take 244 (drop a d))
    (λ e.
    let last = eqb-true k (block_count (length d)) e in
    let rest = length-drop a d in
    let some : length (drop a d) ≤ a + (length d - a) - a = omega arith in
    let few : length (drop a d) ≤ 244 = omega (arith, f.enough) in
    take_all _ (drop a d) some ∙ sym (take_all 244 (drop a d) few))
    (λ e. let w : a + 244 - a ≡ 244 = omega arith in ap (λ (n : ℕ). take n (drop a d)) w)

-- ---- EOT

-- "while the room comes back": the send area begins with the message
sends_data : (t : Track) (w : Reached t) → Back w.calls → from_caller (message_of t.link) ≡ true
    → front t.room Send (length (sender_seen t w).message.text) ≡ (sender_seen t w).message.text
sends_data t w b s =
    let a = (joined_in_areas (terms_in t) (exchange_track t t.room) (exchange_back t (record { reached = w; back = b }))).outgoing s in
    ap (front t.room Send) (sym ((held t w).carries.holds.size s)) ∙ a.bytes ∙ (held t w).text s

-- with a block under way, a message is being sent
on_way_lem : (h : Bool) (p : Phase) → on_way (ours_at p) ≡ true → busy (line_at h p) ≡ true
on_way_lem h Idle e = clash e
on_way_lem h (WaitEot timer tries) e = refl
on_way_lem h (Draining tries) e = refl
on_way_lem h (WaitAck timer tries) e = refl
on_way_lem h (WaitLength timer) e = clash e
on_way_lem h (Body timer a) e = clash e
on_way_lem h (Silence timer fault) e = clash e

ours_at_lem : (t : Track) → Reached t → t.seen.ours ≡ ours_at t.link.line.phase
ours_at_lem t w = (line_always (limits_in t) (line_track t) (line_inside t w)).ours

pub sending_then : (t : Track) → Reached t → on_way t.seen.ours ≡ true → sending_of t.link ≡ true
sending_then t w e = (agrees t w).same ∙ on_way_lem t.link.line.held t.link.line.phase (ap on_way (sym (ours_at_lem t w)) ∙ e)

at_door : (t : Track) (w : Watch) (a : AtDoor t w) → t.seen.ours ≡ w.ours
at_door t w a = sym (ap (λ (v : Watch). v.ours) (door_right t w a))

-- a report is one block: its header as it was sent, and 21 0A before the ten bytes that it shows
report_out : (device f n : ℕ) (shown : List ℕ) → length shown ≡ 10
    → block_of (report_header device f n) (report_body shown) ≡ block_sent (report_sent device f n shown) 1
unfolding block_count
report_out device f n shown ten =
    let text : List ℕ = 33 ∷ 10 ∷ shown in
    let body : report_body shown ≡ text = ap (λ (l : List ℕ). 33 ∷ 10 ∷ l) (take_all 10 shown (omega (arith, ten))) in
    let all : take 244 text ≡ text = take_all 244 text (subst (λ m. suc (suc m) ≤ 244) (sym ten) (omega arith)) in
    let one : eqb 1 (block_count (length text)) ≡ true = ap (λ (m : ℕ). eqb 1 (block_count (suc (suc m)))) ten in
    λ i. block_of (numbered_of (report_header device f n) 1 (sym one i)) ((body ∙ sym all) i)

-- block k of a message of the caller's
message_out :
    (h : Header) (d : List ℕ) → InRange h → length d ≤ message_limit → (k : ℕ) → 1 ≤ k → k ≤ block_count (length d) → (device : ℕ) (shown room : List ℕ)
    → length room ≡ 36864 → front room Send (length d) ≡ d → block_in device shown (outgoing.Message h (length d)) k room ≡ block_sent (post h d) k
unfolding header_at
message_out h d range short k one most device shown room whole starts =
    block_out h d range short k one most device shown room whole starts
    ∙ ap (block_of (header_at h (length d) k)) (ap (λ (c : Option Cut). part_in c d) (there_is h d range short k one most) ∙ part_is d k one most)

pub sends_accepted : SendsAccepted
sends_accepted t w a back fits16 ours range fits o ok =
    door_each_enq_its_block t w a ours fits kept o ok ∙ by (message_of t.link) refl (sending_then t r (ap on_way (at_door t w a ∙ ours)))
  where
    r : Reached t
    r = a.reached

    s : Sender
    s = sender_seen t r

    caller : from_caller (message_of t.link) ≡ true → sending_of t.link ≡ true → block_bytes t.link t.room ≡ block_sent s.message s.block
    caller mine sending =
        let current = block_moves t r in
        let d = s.message.text in
        let shown = t.link.exchange.reports.shown in
        let whole = (exchange_always (terms_in t) (exchange_track t t.room) (exchange_back t (record { reached = r; back = back }))).whole in
        (λ i. block_in (terms_in t).device shown ((held t r).carries.holds.message fits16 mine range i) (current.due sending i) t.room)
        ∙ message_out s.message.header d range (subst (λ n. n ≤ message_limit) (as_long t r sending) (few_sent t r)) s.block (current.first sending)
        (current.within sending) (terms_in t).device shown t.room whole (sends_data t r back mine)

    by : (z : Sending) → message_of t.link ≡ z → sending_by z ≡ true → block_bytes t.link t.room ≡ block_sent s.message s.block
    by sending.Nothing e q = clash q
    by (sending.Primary p n) e q = caller (ap from_caller e) (ap sending_by e)
    by (sending.Reply p f n) e q = caller (ap from_caller e) (ap sending_by e)
    by (sending.Report f n) e q =
        let out = ap (λ (z : Sending). outgoing_at z t.link.exchange) e in
        let shown = t.link.exchange.reports.shown in
        ap (λ (g : Outgoing). block_in (terms_in t).device shown g t.link.block t.room) out
        ∙ report_out (terms_in t).device f n shown (tens_inside t r).reports.shown
        ∙ (λ i. block_sent (sym ((held t r).carries.holds.report f n e) i) ((sym ((agrees t r).report f n out) ∙ (block_moves t r).due (ap sending_by e)) i))

-- ---- the last block

-- the last of its blocks is due exactly where none follows
last_block : (t : Track) (w : Reached t) → sending_of t.link ≡ true → (has_next t.link ≡ false) ↔ ((sender_seen t w).block ≡ blocks_of (sender_seen t w))
last_block t w s =
    let k = (sender_seen t w).block in
    let n = blocks_of (sender_seen t w) in
    let next : has_next t.link ≡ ltb k n = next_is t w ∙ ap (λ b. cond b (ltb k n) false) s in
    let most = (block_moves t w).within s in
    (λ e. let least = ltb-false k n (sym next ∙ e) in omega arith, λ e. next ∙ le-ltb k n (omega arith))

module _ (t : Track) (w : Reached t) (m : Made) where
  -- code x came, as one of our blocks stood, and it was the last
  abbrev AtLast : ℕ → Ours → Type 0
  AtLast x o = Accepted t m × (comes x m.call ≡ true) × (t.seen.ours ≡ o) × ((sender_seen t w).block ≡ blocks_of (sender_seen t w))

  -- so the transactions are told T exactly then, where L is what the line tells by that code
  at_last : {T L : Type 0} (x : ℕ) (o : Ours) → on_way o ≡ true → T ↔ (L × (has_next t.link ≡ false))
      → L ↔ (Accepted t m × (comes x m.call ≡ true) × (t.seen.ours ≡ o)) → T ↔ AtLast x o
  at_last x o way told line =
      let last : t.seen.ours ≡ o → (has_next t.link ≡ false) ↔ ((sender_seen t w).block ≡ blocks_of (sender_seen t w)) =
      λ ours. last_block t w (sending_then t w (ap on_way ours ∙ way)) in (
        λ a. let q = (told).0 a in let z = line.0 q.0 in (z.0, z.1, z.2, (last z.2).0 q.1),
        λ a. (told).1 (line.1 (a.0, a.1, a.2), (last a.2).1 a.3),
      )

pub last_put_out : LastPutOut
last_put_out t w m = record {
  told = told;
  primary = λ p less. (
    λ a. ((told).0 a.puts_out.told, a.before, a.wanted),
    λ a. record { puts_out = record { told = (told).1 a.0; of_it = (underway_exactly t w p less).0 (inl a.1) }; before = a.1; wanted = a.2 },
  );
}
  where
    told : Tells t m exchange.put_out ↔ LastOut t (sender_seen t w) m
    told =
        let z = at_last t w m EOT enquired refl (told_exactly t m).put_out (put_out_exactly t w m) in (
          λ a. let q = z.0 a in record { accepted = q.0; came = q.1; awaited = q.2; last = q.3 },
          λ a. z.1 (a.accepted, a.came, a.awaited, a.last),
        )

pub last_acknowledged : LastAcknowledged
last_acknowledged t w m = record {
  told = told;
  primary = λ p less.
      let u = underway_exactly t w p less in (
        λ a. ((told).0 a.told, u.1 a.of_it),
        λ a. record { told = (told).1 a.0; of_it = u.0 a.1 },
      );
  reply = λ p less.
      let u = on_its_way_exactly t w p less in (
        λ a. ((told).0 a.told, u.1 a.of_it),
        λ a. record { told = (told).1 a.0; of_it = u.0 a.1 },
      );
}
  where
    told : Tells t m exchange.acknowledged ↔ LastAck t (sender_seen t w) m
    told =
        let z = at_last t w m ACK left refl (told_exactly t m).acknowledged (sent_exactly t w m) in (
          λ a. let q = z.0 a in record { accepted = q.0; came = q.1; awaited = q.2; last = q.3 },
          λ a. z.1 (a.accepted, a.came, a.awaited, a.last),
        )

-- ---- ACK

abbrev is_left : Ours → Bool
is_left none = false
is_left enquired = false
is_left leaving = false
is_left left = true

-- what the line puts out: the ENQ of the message's next block, or of a report that starts, or nothing
ack_line : (c : Limits) (h : Bool) (p : Phase) (rs block : List ℕ) (s : line.Seen) (b : ℕ) (fits : b < 256) → ours_at p ≡ left → eqb b ACK ≡ true → (f : Fate)
    → (let z = (line.called c (line_at h p) rs (line.byte b fits)).step in
    let ks = line.byte b fits ∷ settles z.out (called_for f z.told) in
    line_bytes c (line_at h p) rs block ks ≡ starts_enq (busy (line.track c (record { line = line_at h p; received = rs; seen = s }) ks).line))
ack_line c h Idle rs block s b fits o e f = clash (ap on_way o)
ack_line c h (WaitEot timer tries) rs block s b fits o e f = clash (ap is_left o)
ack_line c h (Draining tries) rs block s b fits o e f = clash (ap is_left o)
ack_line c h (WaitAck timer tries) rs block s b fits o e f =
    let p = WaitAck timer tries in
    by_idle c block s b fits f h rs p told.Sent (ap (λ x. (byte_of c (line_at h p) x rs).step) (eqb-true b ACK e) ∙ (line_rules.wait_ack c rs h timer tries).ack)
ack_line c h (WaitLength timer) rs block s b fits o e f = clash (ap on_way o)
ack_line c h (Body timer a) rs block s b fits o e f = clash (ap on_way o)
ack_line c h (Silence timer fault) rs block s b fits o e f = clash (ap on_way o)

module _ (t : Track) (w : Reached t) (o : t.seen.ours ≡ left) where
  ack_bytes : (room : List ℕ) (k : Call) → comes ACK k ≡ true
      → (let u = t.link in
      let ks = on_line u room k in
      line_bytes (limits_in t) u.line u.received (block_bytes u room) ks ≡ starts_enq (busy (line.track (limits_in t) (line_track t) ks).line))
  ack_bytes room (byte b fits) e =
      let u = t.link in
      let c = limits_in t in
      let block = block_bytes u room in
      subst (λ ks. line_bytes c u.line u.received block ks ≡ starts_enq (busy (line.track c (line_track t) ks).line))
      (sym (byte_calls u room (sound_inside t w) (numbered_inside t w) (agrees t w).same (busy_turns c (line_track t) (line_inside t w)) b fits))
      (ack_line c u.line.held u.line.phase u.received block t.seen b fits (sym (ours_at_lem t w) ∙ o) e (fate_in u room (byte b fits)))
  ack_bytes room tick e = clash e
  ack_bytes room drained e = clash e
  ack_bytes room (request r) e = clash e

  -- the transactions are told of the last block alone
  ack_calls : (k : Call) → comes ACK k ≡ true → on_exchange t.link k ≡ cond (has_next t.link) [] (exchange.acknowledged ∷ [])
  ack_calls (byte b fits) e =
      rw (ack_tells t w (byte b fits) e o)
      (either (has_next t.link) (λ z. cond z [] (exchange.acknowledged ∷ []) ++ [] ≡ cond z [] (exchange.acknowledged ∷ [])) (λ z. refl) (λ z. refl))
  ack_calls tick e = clash e
  ack_calls drained e = clash e
  ack_calls (request r) e = clash e

  ack_sends : (m : Made) → Accepted t m → comes ACK m.call ≡ true → (next' : Bool) → has_next t.link ≡ next'
      → message_of (next t m).link ≡ cond next' (message_of t.link) (sent_of t.link.exchange).exchange.sending
  unfolding exchange.track
  ack_sends m ok came next' e =
      let c = terms_in t in
      let x = exchange_track t (lent t m) in
      let told : on_exchange_in t m ≡ cond next' [] (exchange.acknowledged ∷ []) =
      accepted_calls t m ok ∙ ack_calls m.call came ∙ ap (λ z. cond z [] (exchange.acknowledged ∷ [])) e in
      ap (λ (y : Exchange). y.sending) (sym (goes t m)) ∙ ap (λ ks. (exchange.track c x ks).exchange.sending) told
      ∙ either next'
      (λ z. (exchange.track c x (cond z [] (exchange.acknowledged ∷ []))).exchange.sending ≡ cond z (message_of t.link) (sent_of t.link.exchange).exchange.sending)
      (λ z. refl) (λ z. refl)

pub ack_goes_on : AckGoesOn
ack_goes_on t w a m ok came ours =
    let r = a.reached in
    let o : t.seen.ours ≡ left = at_door t w a ∙ ours in
    let sending = sending_then t r (ap on_way o) in
    let bytes : bytes_left (answered t m) ≡ starts_enq (sending_of (next t m).link) =
    by_line_lem t r m ok (λ bs s. bs ≡ starts_enq s) (ack_bytes t r o (lent t m) m.call came) in
    record {
      more = λ less.
          let same = ack_sends t r o m ok came true ((next_exactly t r).1 (sending, less)) in
          (bytes ∙ ap (λ (z : Sending). starts_enq (sending_by z)) same ∙ ap starts_enq sending, same);
      last = λ e.
          let sent = ack_sends t r o m ok came false ((last_block t r sending).1 e) in
          (bytes, λ same. acknowledged_other t.link.exchange (numbered_inside t r) sending (sym sent ∙ same));
    }
