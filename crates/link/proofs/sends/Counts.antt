-- Which block is current, whether one follows, and when a message has been sent: by the ACKs that the onlooker at the door has heard
-- (`specs/Sends.antt`). Assumes nothing.
use Prim.Native.Nat.{ℕ, suc, ◌+◌, ◌≤◌, ◌<◌}
use mathlib.Core.Path.{◌≡◌, refl, sym, ap, ◌∙◌, subst}
use mathlib.Core.Bool.{Bool, true, false, cond}
use mathlib.Core.List.{List, [], ◌∷◌}
use mathlib.Core.Logic.{◌↔◌, ◌≢◌, inl, inr, ⊎_elim}
use native.Mathlib.Omega.{arith}
use lib.Dec.{ltb}
use lib.ListN.{length}
use borrow.Author.Tests.{lt-ltb, le-ltb, ltb-true}
use Rattle.wire.proofs.Choice.{either}
use Rattle.cut.specs.Blocks.{block_count}
use Rattle.cut.proofs.Counts.{count_is_fewest}
use Rattle.line.specs.Codes.{ACK}
use Rattle.line.specs.Line.{Heard}
use Rattle.line.specs.History as line
use Rattle.line.specs.History.{Ours, none, enquired, leaving, left}
use Rattle.line.proofs.Alone.{block_alone}
use Rattle.line.specs.declared.line.Line.{Line}
use Rattle.line.specs.declared.step.Told.{Told}
use Rattle.line.specs.declared.step.Told.TheVariants as told
use Rattle.exchange.specs.Send.{outgoing_at}
use Rattle.exchange.specs.Request.{sending_by, Request, primary, reply, freeing_own, freeing_incoming, lends}
use Rattle.exchange.specs.Reports.{same_message}
use Rattle.exchange.specs.BeingSent.{sending_behind, sending_after, NoneOrReport, none as no_report, report}
use Rattle.exchange.specs.Theorems.{length_sent, from_caller}
use Rattle.exchange.specs.Posting.{Post}
use Rattle.exchange.specs.declared.Sending.{Sending}
use Rattle.exchange.specs.declared.Sending.TheVariants as sending
use Rattle.exchange.specs.declared.Exchange.{Exchange}
use Rattle.exchange.proofs.BeingSent.{request_sends}
use Rattle.exchange.proofs.Same.{same_message_lem, message_same, message_other}
use Rattle.exchange.proofs.Posting.{Carries, TextIs, carries_start, carries_all, text_all}
use Rattle.exchange.proofs.Runs.{three_equal}
use Rattle.link.specs.Courier.{courier_by}
use Rattle.link.specs.Run.{Left, next_in, has_next, passing, hears, hearing, stepped, byte_stepped, byte_step}
use Rattle.link.specs.Call.{gated}
use Rattle.link.specs.Reading.{sending_of, message_of}
use Rattle.link.specs.History.{Call, byte, tick, drained, request, called, Made, step_in, Track, exchange_track, terms_in, on_exchange_in, next, track}
use Rattle.link.specs.Inside.{Reached}
use Rattle.link.specs.Device.{comes}
use Rattle.link.specs.Sends.{Sender, nothing_sent, acks, starts_by, block_after, block_started, sender_sees, sender_watch, sender_seen, BlockMoves, NextExactly}
use Rattle.link.specs.declared.Link.{Link}
use Rattle.link.proofs.Cases.{by_gate, by_byte, by_request, answering}
use Rattle.link.proofs.Steps.{at_byte, at_tick, at_drained}
use Rattle.link.proofs.inside.Reached.{reached_next, start, reached_start}
use Rattle.link.proofs.inside.Places.{lent, goes, same_terms, sound_inside, numbered_inside}
use Rattle.link.proofs.inside.Tens.{tens_inside}
use Rattle.link.proofs.inside.Courier.{clash, begun_at, goes_on_by, Goes, heard_as, told_sends, out_sends}
use Rattle.link.proofs.inside.Agrees.{outgoing_of_lem, agrees}
use Rattle.link.proofs.door.OneCall.{is_sent}
use Rattle.link.proofs.device.Told.{ack_came, ack_tells}
use Rattle.link.proofs.sends.Posts.{over_sending, message_goes}
use Rattle.exchange.specs.Asked.{Asked}

-- ---- what was told, and what the onlooker at the door heard

is_sent_lem : (t : Told) → is_sent t ≡ true → t ≡ told.Sent
is_sent_lem told.Nothing e = clash e
is_sent_lem told.PutOut e = clash e
is_sent_lem told.Sent e = refl
is_sent_lem told.Failed e = clash e
is_sent_lem (told.Up n) e = clash e

acks_so : (o : Ours) (k : Call) → acks o k ≡ true → (comes ACK k ≡ true) × (o ≡ left)
acks_so none k e = clash e
acks_so enquired k e = clash e
acks_so leaving k e = clash e
acks_so left k e = (e, refl)

-- an ACK that was waited for is told as sent, and nothing else is
acks_told : (t : Track) → Reached t → (k : Call) → acks t.seen.ours k ≡ is_sent (step_in t.link k).step.told
acks_told t w k =
    let e = (step_in t.link k).step.told in
    either (is_sent e) (λ z. acks t.seen.ours k ≡ z)
    (λ s. let a = ack_came t w k (is_sent_lem e s) in ap (λ o. acks o k) a.1 ∙ a.0)
    (λ n. either (acks t.seen.ours k) (λ z. z ≡ false)
    (λ y. let a = acks_so t.seen.ours k y in clash (sym n ∙ ap is_sent (ack_tells t w k a.0 a.1))) (λ y. refl))

-- ---- the block behind one call

-- a report that starts is due from its first block; what is being sent on is due as it was
module _ (y : Sending) (k : ℕ) where
  same_started : block_started true y k ≡ k
  same_started = by y
    where
      by : (v : Sending) → block_started true v k ≡ k
      by sending.Nothing = refl
      by (sending.Primary p n) = refl
      by (sending.Reply p f n) = refl
      by (sending.Report f n) = refl

  same_due : (z : Sending) → y ≡ z → block_started (same_message z y) y k ≡ k
  same_due z e = ap (λ same. block_started same y k) (message_same z y (sym e)) ∙ same_started

  report_due : NoneOrReport y → sending_by y ≡ true → block_started false y k ≡ 1
  report_due r = by y r
    where
      by : (v : Sending) → NoneOrReport v → sending_by v ≡ true → block_started false v k ≡ 1
      by _ no_report s = clash s
      by _ (report f n) s = refl

-- another message than before is a report
other_report : (on : Bool) (z y : Sending) → Goes on z y → y ≢ z → NoneOrReport y
other_report true z y (inl e) other = absurd (other e)
other_report true z y (inr w) other = w.now
other_report false z y g other = g.1

module _ (l : Line) where
  -- a message goes on at the same block, or behind an ACK at the next
  on_block : (t : Told) (k : ℕ) → (courier_by true true true t l k).block ≡ cond (is_sent t) (k + 1) k
  on_block told.Nothing k = refl
  on_block told.PutOut k = refl
  on_block told.Sent k = refl
  on_block told.Failed k = refl
  on_block (told.Up n) k = refl

  told_block : (t : Told) (on : Bool) (z y : Sending) → Goes on z y → sending_by y ≡ true → (n k : ℕ) → (sending_by z ≡ true → n ≡ k)
      → (courier_by (same_message z y) (sending_by z) (sending_by y) t l n).block ≡ block_started (same_message z y) y (cond (is_sent t) (k + 1) k)
  told_block t on z y g s n k due = by (same_message z y) refl
    where
      next : ℕ
      next = cond (is_sent t) (k + 1) k

      by : (same : Bool) → same_message z y ≡ same → (courier_by same (sending_by z) (sending_by y) t l n).block ≡ block_started same y next
      by true e =
          let b : sending_by z ≡ true = ap sending_by (same_message_lem z y e) ∙ s in
          (λ i. (courier_by true (b i) (s i) t l (due b i)).block) ∙ on_block t k ∙ sym (same_started y next)
      by false e =
          ap (λ now. (courier_by false (sending_by z) now t l n).block) s ∙ begun_at l n (sending_by z) t
          ∙ sym (report_due y next (other_report on z y g (λ f. message_other z y e (sym f))) s)

module _ (t : Track) (w : Reached t) (k : ℕ) (due : sending_of t.link ≡ true → t.link.block ≡ k) where
  abbrev u : Link
  u = t.link

  -- block k was due before, and one is due then
  abbrev Moves : Call → Left → Type 0
  Moves c l =
      sending_of l.answer.link ≡ true
      → l.answer.link.block
      ≡ block_started (same_message (message_of u) (message_of l.answer.link)) (message_of l.answer.link) (block_after t.seen.ours c l.answer.outcome k)

  -- where the same message is being sent, and its block is due as before
  same_moves : (y : Sending) (n : ℕ) → y ≡ message_of u → sending_by y ≡ true → n ≡ k → u.block ≡ block_started (same_message (message_of u) y) y n
  same_moves y n e s is = due (ap sending_by (sym e) ∙ s) ∙ sym is ∙ sym (same_due y n (message_of u) e)

  refused_moves : sending_of u ≡ true → u.block ≡ block_started (same_message (message_of u) (message_of u)) (message_of u) k
  refused_moves s = same_moves (message_of u) k refl s refl

  stepped_moves : (c : Call) (ticks : Bool) (room o : List ℕ) → Moves c (stepped ticks u (step_in u c) room o)
  stepped_moves c ticks room o s =
      let h = step_in u c in
      let x = heard_as u h room h.step.told h.step.remark in
      let y = (passing ticks u.settings.terms (hearing h.step.told h.step.remark (hears u h) room).midway).exchange.sending in
      told_block h.step.line h.step.told (goes_on_by h.step.told u x) (message_of u) y
      (told_sends u h room (sound_inside t w) (numbered_inside t w) ticks h.step.told h.step.remark (over_sending t w c)) s u.block k due
      ∙ ap (λ z. block_started (same_message (message_of u) y) y (cond z (k + 1) k)) (sym (acks_told t w c))

  gated_moves : (c : Call) (room o : List ℕ) (l : Left) → Moves c l → Moves c (gated u room o l)
  gated_moves c room o l m = by_gate (Moves c) u room o l (λ r e. refused_moves) (λ e. m)

  -- where the whole block leaves, the message goes on
  byte_moves : (b : ℕ) (fits : b < 256) (room o : List ℕ) → Moves (byte b fits) (byte_stepped u (byte_step u b) room o)
  byte_moves b fits room o =
      let h = step_in u (byte b fits) in
      let on = stepped_moves (byte b fits) false room o in
      at_byte (λ (s : Heard). Moves (byte b fits) (byte_stepped u s room o)) u b fits
      (by_byte (λ p. Moves (byte b fits)) u h room o (λ e. on) (λ x e. on)
      (λ e s.
      let quiet = ((block_alone u.settings.limits u.line u.received).block (line.byte b fits) e).told in
      same_moves _ (cond (acks t.seen.ours (byte b fits)) (k + 1) k) (out_sends u h room h.step.told h.step.remark quiet) s
      (ap (λ z. cond z (k + 1) k) (acks_told t w (byte b fits) ∙ ap is_sent quiet))))

  -- a message begins with its block 1
  begins : (r : Request) → lends r ≡ true → (p : ℕ) (z : Sending) (same : Bool) → block_started same (sending_behind r p z) (starts_by r k) ≡ 1
  begins (primary q d) e p z same = refl
  begins (reply i f d) e p z same = refl
  begins (freeing_own i) e p z same = clash e
  begins (freeing_incoming i) e p z same = clash e

  spares : (r : Request) → lends r ≡ false → starts_by r k ≡ k
  spares (primary q d) e = clash (sym e)
  spares (reply p f d) e = clash (sym e)
  spares (freeing_own p) e = refl
  spares (freeing_incoming p) e = refl

  call_moves : (c : Call) (room o : List ℕ) → Moves c (called u room o c)
  call_moves (byte b fits) room o = gated_moves (byte b fits) room o _ (byte_moves b fits room o)
  call_moves tick room o =
      gated_moves tick room o _ (at_tick (λ (s : Heard). Moves tick (stepped true u s room o)) u (stepped_moves tick true room o))
  call_moves drained room o =
      gated_moves drained room o _ (at_drained (λ (s : Heard). Moves drained (stepped false u s room o)) u (stepped_moves drained false room o))
  call_moves (request r) room o =
      let q = request_sends u.settings.terms u.exchange r room in
      let y = (answering u r room).answer.exchange.sending in
      by_request u r room o (Moves (request r)) (λ n e. refused_moves)
      (λ p e l s.
      let became : y ≡ sending_behind r p (message_of u) = q.becomes ∙ ap (λ (a : Asked). sending_after r a (message_of u)) e in
      (λ i. (courier_by (same_message (message_of u) y) ((q.starts p e l).before i) ((q.starts p e l).after i) told.Nothing u.line u.block).block)
      ∙ sym (ap (λ (v : Sending). block_started (same_message (message_of u) y) v (starts_by r k)) became ∙ begins r l p (message_of u) (same_message (message_of u) y)))
      (λ p e l s. same_moves y (starts_by r k) (q.spares l) s (spares r l)) (λ n. refused_moves)

-- ---- any calls

-- what is known between calls; F is that the number which the start is told of has no more than its bits
pub record Held (F : Type 0) (t : Track) (s : Sender) : Type 0 where
  pub carries : Carries F (terms_in t) t.link.exchange s.message
  pub text : TextIs t.link.exchange t.joined s.message
  pub due : sending_of t.link ≡ true → t.link.block ≡ s.block

module _ (F : Type 0) where
  held_next : (t : Track) → Reached t → (s : Sender) → Held F t s → (m : Made) → Held F (next t m) (sender_sees t s m)
  held_next t w s g m =
      let c = terms_in t in
      let x = exchange_track t (lent t m) in
      let goes_so = message_goes t w s.message m.call m.room m.out in
      let g' = sound_inside t w in
      record {
        carries =
            three_equal (Carries F) (sym (same_terms t m)) (goes t m) goes_so
            (carries_all F c x s.message (on_exchange_in t m) g' g.carries);
        text = three_equal TextIs {b = (next t m).joined} (goes t m) refl goes_so (text_all c x s.message (on_exchange_in t m) g' g.text);
        due = call_moves t w s.block g.due m.call (lent t m) m.out;
      }

  held_all : (t : Track) → Reached t → (s : Sender) → Held F t s → (ms : List Made) → Held F (track t ms) (sender_watch t s ms)
  unfolding track sender_watch
  held_all t w s g [] = g
  held_all t w s g (m ∷ ms) = held_all (next t m) (reached_next t w m) (sender_sees t s m) (held_next t w s g m) ms

pub held : (t : Track) (w : Reached t) → Held (w.setup.last ≤ 65535) t (sender_seen t w)
held t w =
    subst (λ (v : Track). Held (w.setup.last ≤ 65535) v (sender_seen t w)) w.so
    (held_all (w.setup.last ≤ 65535) (start t w) (reached_start t w) nothing_sent
    (record { carries = carries_start w.settings.terms w.setup.last; text = λ e. clash e; due = λ e. clash e }) w.calls)

-- ---- which block

-- what a report shows has ten bytes, so it has twelve of data
report_long : (t : Track) (w : Reached t) (f n : ℕ) → message_of t.link ≡ sending.Report f n → 12 ≡ length (sender_seen t w).message.text
report_long t w f n e =
    ap (λ (m : ℕ). suc (suc m)) (sym (tens_inside t w).reports.shown) ∙ sym (ap (λ (p : Post). length p.text) ((held t w).carries.holds.report f n e))

-- the blocks of the message being sent are those of the message that the onlooker keeps
pub as_long : (t : Track) (w : Reached t) → sending_of t.link ≡ true → length_sent (message_of t.link) ≡ length (sender_seen t w).message.text
as_long t w = by (message_of t.link) refl
  where
    by : (z : Sending) → message_of t.link ≡ z → sending_by z ≡ true → length_sent z ≡ length (sender_seen t w).message.text
    by sending.Nothing e s = clash s
    by (sending.Primary p n) e s = ap length_sent (sym e) ∙ (held t w).carries.holds.size (ap from_caller e)
    by (sending.Reply p f n) e s = ap length_sent (sym e) ∙ (held t w).carries.holds.size (ap from_caller e)
    by (sending.Report f n) e s = report_long t w f n e

pub block_moves : BlockMoves
block_moves t w =
    let a = agrees t w in
    let s = sender_seen t w in
    let x = t.link.exchange in
    record {
      due = (held t w).due;
      first = λ e. subst (λ k. 1 ≤ k) ((held t w).due e) a.first;
      within = λ e.
          let some = (count_is_fewest (length_sent x.sending)).some in
          subst (λ k. k ≤ block_count (length s.message.text)) ((held t w).due e)
          (subst (λ n. t.link.block ≤ block_count n) (as_long t w e)
          (⊎_elim (λ o. (a.within o.0 _ o.1).0) (λ o. let one = a.report o.0 o.1 o.2 in omega arith) (outgoing_of_lem x.sending x e)));
      idle = a.idle;
    }

-- a report is one block
next_by : (z : Sending) (x : Exchange) (k : ℕ) → 1 ≤ k → next_in (outgoing_at z x) k ≡ cond (sending_by z) (ltb k (block_count (length_sent z))) false
unfolding block_count
next_by sending.Nothing x k one = refl
next_by (sending.Primary p n) x k one = refl
next_by (sending.Reply p f n) x k one = refl
next_by (sending.Report f n) x k one = sym (le-ltb k 1 one)

pub next_is : (t : Track) (w : Reached t) → has_next t.link ≡ cond (sending_of t.link) (ltb (sender_seen t w).block (block_count (length (sender_seen t w).message.text))) false
next_is t w =
    let z = t.link.exchange.sending in
    let s = sender_seen t w in
    next_by z t.link.exchange t.link.block (agrees t w).first
    ∙ either (sending_by z)
    (λ b. cond b (ltb t.link.block (block_count (length_sent z))) false ≡ cond b (ltb s.block (block_count (length s.message.text))) false)
    (λ e i. ltb ((held t w).due e i) (block_count (as_long t w e i))) (λ e. refl)

pub next_exactly : NextExactly
next_exactly t w =
    let s = sender_seen t w in
    let n = block_count (length s.message.text) in
    subst (λ b. (b ≡ true) ↔ ((sending_of t.link ≡ true) × (s.block < n))) (sym (next_is t w))
    (either (sending_of t.link) (λ b. (cond b (ltb s.block n) false ≡ true) ↔ ((b ≡ true) × (s.block < n)))
    (λ e. (λ l. (refl, ltb-true s.block n l), λ l. lt-ltb s.block n l.1)) (λ e. (λ l. clash l, λ l. clash l.0)))
