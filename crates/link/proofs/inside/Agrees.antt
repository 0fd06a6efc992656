-- The line and the transactions agree on what is being sent, and its block is one of the message: the courier keeps it so, whatever a call
-- tells. Assumes nothing.
use Prim.Native.Nat.{ℕ, ◌≤◌, ◌<◌}
use mathlib.Core.Path.{◌≡◌, refl, sym, ap, subst, ◌∙◌}
use mathlib.Core.Bool.{Bool, true, false}
use mathlib.Core.List.{List}
use mathlib.Core.Logic.{◌⊎◌, inl, inr, ◌≢◌, ⊎_elim}
use native.Mathlib.Omega.{arith}
use borrow.Author.Tests.{ltb-true}
use Rattle.wire.proofs.Choice.{either}
use Rattle.wire.specs.Message.{message_limit}
use Rattle.header.specs.declared.header.Header.{Header}
use Rattle.cut.specs.Blocks.{most_blocks, block_count, part_start, part_length, header_at, cut_of, cut_at}
use Rattle.cut.proofs.Cutting.{cut_is}
use Rattle.cut.proofs.Counts.{count_is_fewest, most_blocks_lem}
use Rattle.cut.specs.declared.Cut.{Cut}
use Rattle.line.specs.Line.{Heard, under_way, busy, settle_of}
use Rattle.line.specs.Theorems.{Turns}
use Rattle.line.specs.declared.line.Line.{Line}
use Rattle.line.specs.declared.step.Told.{Told}
use Rattle.line.specs.declared.step.Told.TheVariants as told
use Rattle.line.specs.History as line
use Rattle.line.proofs.Alone.{block_alone}
use Rattle.line.proofs.Invariant.{Free}
use Rattle.line.proofs.Always.{always as line_always}
use Rattle.line.proofs.Busy.{busy_steps, busy_still}
use Rattle.exchange.specs.Reports.{same_message}
use Rattle.exchange.specs.BeingSent.{ReportBegins}
use Rattle.exchange.specs.Send.{outgoing_at, outgoing_of}
use Rattle.exchange.specs.Request.{sending_by}
use Rattle.exchange.specs.Theorems.{length_sent}
use Rattle.exchange.proofs.BeingSent.{request_sends}
use Rattle.exchange.proofs.Same.{same_message_lem, message_other}
use Rattle.exchange.proofs.Runs.{Sound}
use Rattle.exchange.proofs.Another.{Numbered}
use Rattle.exchange.proofs.Holding.{SendHolds}
use Rattle.exchange.proofs.Areas.{always}
use Rattle.exchange.specs.declared.Sending.{Sending}
use Rattle.exchange.specs.declared.Sending.TheVariants as sending
use Rattle.exchange.specs.declared.Exchange.{Exchange}
use Rattle.exchange.specs.declared.Outgoing.{Outgoing}
use Rattle.exchange.specs.declared.Outgoing.TheVariants as outgoing
use Rattle.link.specs.Courier.{courier_of}
use Rattle.link.specs.Run.{Left, next_in, has_next, bytes_by, block_in, stepped, byte_stepped, byte_step, tick_step, drained_step}
use Rattle.link.specs.Call.{gated}
use Rattle.link.specs.History.{Call, byte, tick, drained, request, called, step_in, lent_room, Track, line_track, exchange_track, limits_in, terms_in}
use Rattle.link.specs.Inside.{Reached, BlockCarried, Agrees, Whole, WholeReport, WholeBlock}
use Rattle.link.specs.declared.Link.{Link}
use Rattle.link.proofs.Cases.{by_gate, by_byte, by_request, answering}
use Rattle.link.proofs.Steps.{at_byte}
use Rattle.link.proofs.inside.Reached.{by_calls, line_inside}
use Rattle.link.proofs.inside.Places.{exchange_inside, sound_inside, numbered_inside}
use Rattle.link.proofs.inside.Courier.{clash, not_busy, none_under_way, courier_agrees, goes_on_by, Goes, over_sends, heard_as, told_sends, out_sends}
use Rattle.link.proofs.inside.Rests.{Rests, byte_rests, tick_rests}
use Rattle.std.specs.Prelude.{Option}

-- block k is one of message z; it is 1 where there is none
record OneOf (z : Sending) (k : ℕ) : Type 0 where
  first : 1 ≤ k
  within : sending_by z ≡ true → k ≤ block_count (length_sent z)
  idle : sending_by z ≡ false → k ≡ 1

at_first : (z : Sending) → OneOf z 1
at_first z = record { first = omega arith; within = λ s. (count_is_fewest (length_sent z)).some; idle = λ s. refl }

-- the line is busy exactly if a message z is being sent, and block k of it is on its way or held
record Agreed (l : Line) (z : Sending) (k : ℕ) : Type 0 where
  same : sending_by z ≡ busy l
  block : OneOf z k

abbrev InLink : Link → Type 0
InLink u = Agreed u.line u.exchange.sending u.block

-- ---- the message being sent

-- nothing goes out, or a message of this length, or a report of 12 bytes
by_outgoing : (z : Sending) (x : Exchange) (P : Bool → ℕ → Outgoing → Type 0)
    → P false 0 outgoing.Nothing → ((h : Header) (n : ℕ) → P true n (outgoing.Message h n)) → ((f n : ℕ) → P true 12 (outgoing.Report f n))
    → P (sending_by z) (length_sent z) (outgoing_at z x)
by_outgoing sending.Nothing x P none message report = none
by_outgoing (sending.Primary p n) x P none message report = message _ n
by_outgoing (sending.Reply p f n) x P none message report = message _ n
by_outgoing (sending.Report f n) x P none message report = report f n

more_blocks : (z : Sending) (x : Exchange) (k : ℕ) → next_in (outgoing_at z x) k ≡ true → k < block_count (length_sent z)
more_blocks z x k =
    by_outgoing z x (λ s n o. next_in o k ≡ true → k < block_count n) (λ e. clash e) (λ h n e. ltb-true k (block_count n) e) (λ f n e. clash e)

-- a message that is being sent, or a report
pub outgoing_of_lem : (z : Sending) (x : Exchange) → sending_by z ≡ true
    → ((h : Header) × (outgoing_at z x ≡ outgoing.Message h (length_sent z))) ⊎ ((f : ℕ) × (n : ℕ) × (outgoing_at z x ≡ outgoing.Report f n))
outgoing_of_lem z x =
    by_outgoing z x
    (λ s m o. s ≡ true → ((h : Header) × (o ≡ outgoing.Message h m)) ⊎ ((f : ℕ) × (n : ℕ) × (o ≡ outgoing.Report f n)))
    (λ e. clash e) (λ h m e. inl (h, refl)) (λ f n e. inr (f, n, refl))

size_of : (z : Sending) (x : Exchange) (h : Header) (n : ℕ) → outgoing_at z x ≡ outgoing.Message h n → (sending_by z ≡ true) × (length_sent z ≡ n)
size_of z x h n =
    by_outgoing z x (λ s m o. o ≡ outgoing.Message h n → (s ≡ true) × (m ≡ n)) (λ e. clash cc) (λ g m e. (refl, cc)) (λ f m e. clash cc)

report_of : (z : Sending) (x : Exchange) (f n : ℕ) → outgoing_at z x ≡ outgoing.Report f n → (sending_by z ≡ true) × (length_sent z ≡ 12)
report_of z x f n =
    by_outgoing z x (λ s m o. o ≡ outgoing.Report f n → (s ≡ true) × (m ≡ 12)) (λ e. clash cc) (λ h m e. clash cc) (λ g m e. (refl, refl))

area_holds : (room : List ℕ) (z : Sending) (bs : List ℕ) → SendHolds room z bs → length_sent z ≤ message_limit
area_holds room sending.Nothing bs h = omega arith
area_holds room (sending.Primary p n) bs h = h.few
area_holds room (sending.Reply p f n) bs h = h.few
area_holds room (sending.Report f n) bs h = omega arith

pub few_sent : (t : Track) → Reached t → length_sent t.link.exchange.sending ≤ message_limit
few_sent t w =
    let r = exchange_inside t w in
    area_holds r.room t.link.exchange.sending t.joined.outgoing (always (terms_in t) (exchange_track t r.room) r.reached).sends

-- ---- one call

module _ (u : Link) (g : InLink u) where
  abbrev z : Sending
  z = u.exchange.sending

  -- the line as the device's step left it, and the room
  module _ (l : Line) (room : List ℕ) where
    -- what was told is t, and y is being sent: behind the courier the line settles
    abbrev Leaves : Told → Sending → Type 0
    Leaves t y = let r = courier_of z y t l u.block room in Agreed (settle_of r.line).line y r.block

    -- the courier keeps it so, where it comes to a block of y
    carried : (t : Told) (y : Sending) → Turns t (sending_by z) (busy l) → (t ≡ told.Failed → y ≢ z)
        → (y ≢ z → under_way l.phase ≡ false) → ((n : ℕ) → BlockCarried z y t u.block n → OneOf y n) → Leaves t y
    carried t y turned failed free one =
        let r = courier_of z y t l u.block room in
        let c = courier_agrees z y t l u.block room (record { turned = turned; failed = failed; gone = free }) in
        record { same = c.line.same ∙ (busy_still r.line).settle; block = one r.block c.block }

    -- what is told has no part in the message
    stands : (t : Told) → line.is_over t ≡ false → Turns t (sending_by z) (busy l) → Leaves t z
    stands t e turned =
        carried t z turned (λ f. clash (sym e ∙ ap line.is_over f)) (λ n. absurd (n refl))
        (λ n c. subst (OneOf z) (sym (c.stays refl (λ f. clash (sym e ∙ ap line.is_over f)))) g.block)

    -- it has a block behind the one that was acknowledged
    goes_on_lem : u.block < block_count (length_sent z) → Turns told.Sent (sending_by z) (busy l) → Leaves told.Sent z
    goes_on_lem more turned =
        carried told.Sent z turned (λ f. clash cc) (λ n. absurd (n refl))
        (λ n c. record { first = omega (arith, c.next refl refl); within = λ s. omega (arith, more, c.next refl refl); idle = λ s. clash (sym s ∙ turned.0) })

    -- another one begins, or none is being sent any more: acknowledged, failed or withdrawn
    anew : (t : Told) (y : Sending) → Turns t (sending_by z) (busy l) → under_way l.phase ≡ false → y ≢ z → Leaves t y
    anew t y turned free other =
        carried t y turned (λ f. other) (λ n. free)
        (λ n c.
        subst (OneOf y) (sym (either (sending_by y) (λ s. n ≡ 1) (λ s. c.begun other s) (λ s. c.none g.block.idle s))) (at_first y))

    -- a report begins where nothing was being sent
    begun : (t : Told) (y : Sending) → line.is_over t ≡ false → Turns t (sending_by z) (busy l) → ReportBegins z y → Leaves t y
    begun t y e turned w =
        let idle : under_way l.phase ≡ false = none_under_way l (not_busy t (subst (λ b. Turns t b (busy l)) (ap sending_by w.was) turned)) in
        either (same_message z y) (λ same. Leaves t y) (λ s. subst (Leaves t) (same_message_lem z y s) (stands t e turned))
        (λ s. anew t y turned idle (λ q. message_other z y s (sym q)))

    goes : (t : Told) (y : Sending) → line.is_over t ≡ false → Turns t (sending_by z) (busy l) → Goes true z y → Leaves t y
    goes t y e turned (inl same) = subst (Leaves t) (sym same) (stands t e turned)
    goes t y e turned (inr w) = begun t y e turned w

    -- what today's transactions make of it, where they have come to x, and y is being sent
    told_leaves : (t : Told) (x : Exchange) (y : Sending) → Turns t (sending_by z) (busy l) → Rests t l.phase → Goes (goes_on_by t u x) z y → Leaves t y
    told_leaves told.Nothing x y w up on = goes told.Nothing y refl w on
    told_leaves told.PutOut x y w up on = goes told.PutOut y refl w on
    told_leaves told.Sent x y w up on =
        either (has_next u) (λ more. Goes more z y → Leaves told.Sent y)
        (λ e.
        ⊎_elim (λ same. subst (Leaves told.Sent) (sym same) (goes_on_lem (more_blocks z u.exchange u.block e) w))
        (λ b. clash (sym (ap sending_by b.was) ∙ w.0)))
        (λ e off. anew told.Sent y w (none_under_way l w.1) off.0) on
    told_leaves told.Failed x y w up off = anew told.Failed y w (none_under_way l w.1) off.0
    told_leaves (told.Up n) x y w up on =
        either (goes_on_by (told.Up n) u x) (λ on. Goes on z y → Leaves (told.Up n) y) (λ e. goes (told.Up n) y refl w)
        (λ e off. anew (told.Up n) y w up off.0) on

  module _ (sound : Sound u.exchange) (numbered : Numbered u.exchange) where
    stepped_agreed : (ticks : Bool) (h : Heard) (room o : List ℕ) → Turns h.step.told (busy u.line) (busy h.step.line)
        → Rests h.step.told h.step.line.phase → InLink (stepped ticks u h room o).answer.link
    stepped_agreed ticks h room o turns up =
        let l = h.step.line in
        let t = h.step.told in
        let turned = subst (λ b. Turns t b (busy l)) (sym g.same) turns in
        told_leaves l room t (heard_as u h room t h.step.remark) _ turned up
        (told_sends u h room sound numbered ticks t h.step.remark (over_sends t (sending_by z) (busy l) turned))

    -- where the whole block leaves it is on its way, and stays so
    byte_agreed : (b : ℕ) (fits : b < 256) (room o : List ℕ) → Free u.line.phase u.line.held → InLink (byte_stepped u (byte_step u b) room o).answer.link
    byte_agreed b fits room o free =
        let h = step_in u (byte b fits) in
        let busier = (busy_steps u.settings.limits u.line free).byte b u.received in
        let on = stepped_agreed false h room o busier.turns (byte_rests u.settings.limits u.line b u.received) in
        at_byte (λ (s : Heard). InLink (byte_stepped u s room o).answer.link) u b fits
        (by_byte (λ p (l : Left). InLink l.answer.link) u h room o (λ e. on) (λ c e. on)
        (λ e.
        let quiet = ((block_alone u.settings.limits u.line u.received).block (line.byte b fits) e).told in
        let as_busy = subst (λ (t : Told). Turns t (busy u.line) (busy h.step.line)) quiet busier.turns in
        subst (λ y. Agreed h.step.line y u.block) (sym (out_sends u h room h.step.told h.step.remark quiet))
        (record { same = g.same ∙ as_busy.0 ∙ sym as_busy.1; block = g.block })))

    gated_agreed : (room o : List ℕ) (l : Left) → InLink l.answer.link → InLink (gated u room o l).answer.link
    gated_agreed room o l w = by_gate (λ x. InLink x.answer.link) u room o l (λ r e. g) (λ e. w)

    called_agreed : Free u.line.phase u.line.held → (room o : List ℕ) (k : Call) → InLink (called u room o k).answer.link
    called_agreed free room o (byte b fits) = gated_agreed room o _ (byte_agreed b fits room o free)
    called_agreed free room o tick = gated_agreed room o _ (stepped_agreed true (tick_step u) room o (busy_steps u.settings.limits u.line free).tick.turns (tick_rests u.settings.limits u.line))
    called_agreed free room o drained = gated_agreed room o _ (stepped_agreed false (drained_step u) room o (busy_still u.line).drained tt)
    called_agreed free room o (request r) =
        let s = request_sends u.settings.terms u.exchange r room in
        by_request u r room o (λ l. InLink l.answer.link) (λ n e. g)
        (λ p e l.
        let none = (s.starts p e l).before in
        anew u.line room told.Nothing (answering u r room).answer.exchange.sending g.same (none_under_way u.line (sym g.same ∙ none))
        (λ q. clash (sym none ∙ ap sending_by (sym q) ∙ (s.starts p e l).after)))
        (λ p e l. subst (λ y. Agreed u.line y u.block) (sym (s.spares l)) g)
        (λ n. g)

in_link : (t : Track) → Reached t → InLink t.link
in_link t w =
    by_calls (λ v. InLink v.link)
    (λ v r m g.
    called_agreed v.link g (sound_inside v r) (numbered_inside v r) (line_always (limits_in v) (line_track v) (line_inside v r)).free (lent_room m.room v.room) m.out m.call)
    t w (record { same = refl; block = at_first sending.Nothing })

-- ---- what is read of it

pub agrees : Agrees
unfolding block_count
agrees t w =
    let z = t.link.exchange.sending in
    let g = in_link t w in
    let few = few_sent t w in
    record {
      same = g.same;
      first = g.block.first;
      most =
          either (sending_by z) (λ b. t.link.block ≤ most_blocks) (λ s. omega (arith, g.block.within s, most_blocks_lem.1 (length_sent z) few))
          (λ s. omega (arith, g.block.idle s));
      within = λ h n e.
          let m = size_of z t.link.exchange h n e in
          subst (λ s. (t.link.block ≤ block_count s) × (s ≤ message_limit)) m.1 (g.block.within m.0, few);
      report = λ f n e.
          let m = report_of z t.link.exchange f n e in
          let one : t.link.block ≤ 1 = subst (λ s. t.link.block ≤ block_count s) m.1 (g.block.within m.0) in
          omega (arith, g.block.first);
      idle = g.block.idle;
    }

module _ (t : Track) (w : Reached t) where
  abbrev x : Exchange
  x = t.link.exchange

  abbrev k : ℕ
  k = t.link.block

  abbrev size : ℕ
  size = length_sent x.sending

  -- its part of the send area
  whole : (h : Header) → outgoing_of x ≡ outgoing.Message h size → Whole t
  whole h sent =
      let g = agrees t w in
      let there : cut_of h size k ≡ cut_at (header_at h size k) (part_start k) (part_length size k) =
      cut_is h size k (g.first, (g.within h _ sent).0, omega (arith, g.most)) in
      record {
        header = h;
        size = size;
        sent = sent;
        block = there;
        bytes = λ room. ap (λ (o : Outgoing). block_in (terms_in t).device x.reports.shown o k room) sent ∙ ap (λ (c : Option Cut). bytes_by c room) there;
      }

  whole_report : (f n : ℕ) → outgoing_of x ≡ outgoing.Report f n → WholeReport t
  whole_report f n sent = record {
    function = f;
    number = n;
    sent = sent;
    bytes = λ room. ap (λ (o : Outgoing). block_in (terms_in t).device x.reports.shown o k room) sent;
  }

pub whole_block : WholeBlock
whole_block t w b e =
    let free = (line_always (limits_in t) (line_track t) (line_inside t w)).free in
    let busy = (agrees t w).same ∙ ((busy_steps (limits_in t) t.link.line free).byte b t.link.received).block e in
    ⊎_elim (λ m. inl (whole t w m.0 m.1)) (λ m. inr (whole_report t w m.0 m.1 m.2)) (outgoing_of_lem t.link.exchange.sending t.link.exchange busy)
