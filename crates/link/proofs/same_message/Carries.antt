-- The blocks of a message are carried, one after the other: the receiver judges them in order, and nothing is left on the line. It does
-- not matter here whether the message is a primary or a reply. Assumes nothing.
use Prim.Native.Nat.{ℕ, zero, suc, ◌+◌, ◌-◌, ◌≤◌, ◌<◌}
use mathlib.Core.Path.{◌≡◌, refl, sym, ap, subst, ◌∙◌}
use mathlib.Core.Bool.{Bool, true, false, false≢true}
use mathlib.Core.List.{List, [], ◌∷◌, ◌++◌}
use native.Mathlib.Omega.{arith}
use native.Mathlib.Numerals.{add-one}
use lib.ListN.{length, drop, length-append, length-drop}
use lib.Dec.{ltb}
use borrow.Author.Tests.{lt-ltb, le-ltb}
use Rattle.wire.specs.Message.{message_limit}
use Rattle.wire.specs.Bytes.{Bytes}
use Rattle.header.specs.Header.{InRange, header_bytes}
use Rattle.header.specs.declared.header.Header.{Header}
use Rattle.cut.specs.Blocks.{most_blocks, block_count, header_at}
use Rattle.block.specs.Block.{block_of}
use Rattle.room.specs.Room.{front}
use Rattle.room.specs.declared.Message.TheVariants.{Send}
use Rattle.line.specs.Codes.{ENQ, EOT, ACK}
use Rattle.line.specs.Line.{line_at, holding, eot_byte, ack_byte, settle_idle, settle_of}
use Rattle.line.specs.declared.phase.Phase.TheVariants.{Idle, WaitEot, Draining, WaitAck, WaitLength}
use Rattle.line.specs.declared.step.Out.TheVariants.{Nothing}
use Rattle.line.specs.declared.step.Told.TheVariants as told
use Rattle.exchange.specs.Send.{outgoing_at, outgoing_of, sent_of}
use Rattle.exchange.specs.Request.{sending_by, is_sending}
use Rattle.exchange.specs.Reports.{same_message}
use Rattle.exchange.specs.Judge.{judge_of}
use Rattle.exchange.specs.Assembly.{header_in, data_in, Receiver, passes, rests, received, ticks_before}
use Rattle.exchange.proofs.Same.{message_same}
use Rattle.exchange.proofs.Passing.{sending_stays}
use Rattle.exchange.specs.declared.Sending.{Sending}
use Rattle.exchange.specs.declared.Sending.TheVariants as sending
use Rattle.exchange.specs.declared.Exchange.{Exchange}
use Rattle.exchange.specs.declared.Outgoing.{Outgoing}
use Rattle.exchange.specs.declared.Outgoing.TheVariants.{Message}
use Rattle.link.specs.Courier.{carried as carrying, courier_by}
use Rattle.link.specs.Run.{next_in, has_next, untold, changed_to, putting_out, acknowledged, carried_by, codes, closed, course, block_in}
use Rattle.link.specs.History.{Track}
use Rattle.link.specs.SameMessage.{End, end_of, Said, noting, noted, said_by, hears_all, drains_late, Pair, pair, Pauses, carried, carries, total, ticks_in, ticks_out, BlockOf, InTime}
use Rattle.link.specs.declared.Carried.{Carried}
use Rattle.link.specs.declared.Midway.{Midway}
use Rattle.link.specs.declared.Note.TheVariants as note
use Rattle.link.specs.declared.Settings.{Settings}
use Rattle.link.specs.declared.Link.{Link}
use Rattle.link.specs.declared.Outcome.TheVariants.{Done}
use Rattle.link.proofs.same_message.Calls.{said, leaving_said, course_said, unit, Sound, says, drains_as, quiet_said, Still, heard_late, drained_late, draining_counts, eot_counts, ack_counts}
use Rattle.link.proofs.same_message.Reaches.{Reaches, reaches_heard, reaches_drained}
use Rattle.link.proofs.same_message.PutsOut.{later_out, outgoing_out, sent_out}
use Rattle.link.proofs.same_message.Hears.{one_heard, overwritten, ack_of, enq_heard, block_heard}
use Rattle.link.proofs.same_message.Blocks.{no_bytes, one_byte, line_bytes, block_bytes, block_length, ten_read, data_read, few, some, header_in_range, data_length, data_most, data_bytes, block_out}

-- ---- the sender, at block k

-- where a message goes out, one is being sent
sends_one : (z : Sending) (x : Exchange) (h : Header) (n : ℕ) → outgoing_at z x ≡ Message h n → sending_by z ≡ true
sends_one sending.Nothing x h n e = absurd (false≢true (cc e))
sends_one (sending.Primary p m) x h n e = refl
sends_one (sending.Reply p f m) x h n e = refl
sends_one (sending.Report f m) x h n e = refl

-- at block k, m ticks on; its message goes on
module _ (o : List ℕ) (long : 257 ≤ length o) (s : Settings) (x : Exchange) (k : ℕ) (room rs : List ℕ)
    (g : (n : ℕ) → Sound s (passes s.terms x n) k room) (still : (n : ℕ) → (passes s.terms x n).sending ≡ x.sending) (m n : ℕ) where
  -- the transactions n ticks later
  abbrev then : Exchange
  then = passes s.terms x (m + n)

  -- "EOT puts out the whole block."
  eot_heard : n ≤ s.limits.t2.0
      → hears_all o (λ i. n) (end_of (unit s (WaitEot 0 0) rs (passes s.terms x m) k) room) (EOT ∷ [])
      ≡ said (end_of (unit s (Draining 0) rs (putting_out (has_next (unit s Idle rs then k)) then) k) room)
      (block_in s.terms.device then.reports.shown (outgoing_of then) k room)
  unfolding eot_byte
  eot_heard fits =
      let c = eot_counts s.limits n (g 0).t2 fits in
      one_heard o (λ i. n) _ EOT _
      (heard_late s x k room o long g (λ i. WaitEot i 0) rs m n EOT c (λ i l. still i)
      ∙ says s then k room o long (g (m + n)) (WaitEot n 0) rs EOT _ (c.ranged n (omega arith)) refl
      ∙ (let after : Exchange = putting_out (has_next (unit s Idle rs then k)) then in
      leaving_said (block_in s.terms.device then.reports.shown (outgoing_of then) k room) (unit s (Draining 0) rs after k) Done (untold after note.Nothing) room o))

  -- "drained starts the wait for ACK"
  drained : drains_late o n (end_of (unit s (Draining 0) rs (passes s.terms x m) k) room) ≡ said (end_of (unit s (WaitAck 0 0) rs then k) room) []
  drained =
      drained_late s x k room o long g (λ i. Draining 0) rs m n (draining_counts s.limits n) (λ i l. still i)
      ∙ drains_as s then k room o long (g (m + n)) (Draining 0) rs refl ∙ quiet_said s then k room o (Draining 0) (WaitAck 0 0) Nothing rs rs refl

  module _ (fits : n ≤ s.limits.t2.0) where
    -- "ACK means sent": what is made of it, and what the courier carries then
    ack_heard : (z : Midway) (c : Carried) → acknowledged (has_next (unit s Idle rs then k)) then note.Nothing ≡ z
        → carried_by (unit s Idle rs then k) told.Sent z.exchange room ≡ c
        → hears_all o (λ i. n) (end_of (unit s (WaitAck 0 0) rs (passes s.terms x m) k) room) (ACK ∷ [])
        ≡ noting (end_of (closed (unit s Idle rs then k) c z.exchange) room) (codes Nothing (settle_of c.line).out) (noted z.note)
    unfolding ack_byte
    ack_heard z c made e =
        let u : Link = unit s Idle rs then k in
        let q = ack_counts s.limits n (g 0).t2 fits in
        one_heard o (λ i. n) _ ACK _
        (heard_late s x k room o long g (λ i. WaitAck i 0) rs m n ACK q (λ i l. still i)
        ∙ says s then k room o long (g (m + n)) (WaitAck n 0) rs ACK _ (q.ranged n (omega arith)) refl
        ∙ ap (λ (y : Midway). said_by (course u Nothing told.Sent y Done room o)) made
        ∙ course_said u Nothing told.Sent z Done room o c e)

    module _ (sends : is_sending then ≡ true) where
      -- "the message's next block goes out with ENQ in the same call."
      next_asked : has_next (unit s Idle rs then k) ≡ true
          → hears_all o (λ i. n) (end_of (unit s (WaitAck 0 0) rs (passes s.terms x m) k) room) (ACK ∷ [])
          ≡ said (end_of (unit s (WaitEot 0 0) rs then (k + 1)) room) (ENQ ∷ [])
      unfolding acknowledged holding settle_idle
      next_asked e =
          ack_heard (untold then note.Nothing) (carrying (line_at true Idle) (k + 1)) (ap (λ (t : Bool). acknowledged t then note.Nothing) e)
          (λ i. courier_by (message_same then.sending then.sending refl i) (sends i) (sends i) told.Sent (line_at false Idle) k)

      -- behind the last one no message is being sent, where no report starts
      all_sent : (sent_of then).exchange.sending ≡ sending.Nothing → has_next (unit s Idle rs then k) ≡ false
          → hears_all o (λ i. n) (end_of (unit s (WaitAck 0 0) rs (passes s.terms x m) k) room) (ACK ∷ [])
          ≡ said (end_of (unit s Idle rs (sent_of then).exchange 1) room) []
      unfolding acknowledged settle_idle
      all_sent over e =
          ack_heard (changed_to (sent_of then) note.Nothing) (carrying (line_at false Idle) 1) (ap (λ (t : Bool). acknowledged t then note.Nothing) e)
          (λ i. courier_by (same_message then.sending (sent_of then).exchange.sending) (sends i) (sending_by (over i)) told.Sent (line_at false Idle) k)

-- ---- the receiver

module _ (o : List ℕ) (long : 257 ≤ length o) (t : Settings) (y : Exchange) (room rs : List ℕ) (g : (n : ℕ) → Sound t (passes t.terms y n) 1 room)
    (most : ℕ) (still : Still t.terms y most) where
  -- a block of header h and data d, m ticks on: it is acknowledged and judged, its ticks later; no message starts or ends with it
  taken_up : (w : ℕ → ℕ) (m : ℕ) (h : Header) (d : List ℕ)
      → (judge_of t.terms (passes t.terms y (m + total w (1 + (10 + length d) + 2))) (header_bytes h) d room).answer.exchange.sending ≡ y.sending
      → m + total w (1 + (10 + length d) + 2) ≤ most → length rs ≡ 256 → InRange h → Bytes d → length d ≤ 244
      → w 0 ≤ t.limits.t2.0 → ((i : ℕ) → 1 ≤ i → i < 1 + (10 + length d) + 2 → w i ≤ t.limits.t1.0)
      → hears_all o w (end_of (unit t (WaitLength 0) rs (passes t.terms y m) 1) room) (block_of h d)
      ≡ ack_of t (overwritten rs (header_bytes h ++ d)) 1 (judge_of t.terms (passes t.terms y (m + total w (1 + (10 + length d) + 2))) (header_bytes h) d room)
  taken_up w m h d kept early fits i b short first quick =
      let bs : List ℕ = header_bytes h ++ d in
      let n = block_length h d in
      let rest : List ℕ = drop (length bs) rs in
      let then : ℕ → Exchange = λ j. passes t.terms y (m + total w (1 + j + 2)) in
      block_heard o long t y 1 room g most still w m rs bs
      ((λ z. (judge_of t.terms (then (n z)) (ten_read h d rest z) (data_read h d rest z) room).answer.exchange.sending) ∙ kept)
      (omega (arith, ap (λ (j : ℕ). total w (1 + j + 2)) n)) fits (omega arith) (omega arith) (block_bytes h d i b) first
      (λ j least less. quick j least (omega arith))
      ∙ (λ z.
      ack_of t (overwritten rs bs) 1
      (judge_of t.terms (then (n z)) (ten_read h d rest z) (data_read h d rest z) room))

-- ---- both

-- what is left of `carried` once the receiver heard the ENQ, once the sender heard the EOT, and once the block is through
abbrev on_block : List ℕ → ℕ → List ℕ → List ℕ → List ℕ → Said → Said → Pair
on_block o ack ns asked block gone taken =
    let ended = hears_all o (λ i. ack) gone.end taken.bytes in
    pair ended.end taken.end (gone.bytes ++ ended.bytes) (ns ++ (asked ++ (block ++ (taken.notes ++ (gone.notes ++ ended.notes)))))

abbrev on_eot : List ℕ → Pauses → List ℕ → Said → Said → Pair
on_eot o w ns asked block =
    on_block o w.ack ns asked.notes block.notes (drains_late o w.draining block.end) (hears_all o w.byte asked.end block.bytes)

abbrev on_enq : List ℕ → Pauses → List ℕ → End → Said → Pair
on_enq o w ns a asked = on_eot o w ns asked (hears_all o (λ i. w.eot) a asked.bytes)

-- an idle end of these transactions and this room, with these bytes in its array; none of its blocks is on its way
abbrev pub idle_end : Settings → List ℕ → Exchange → List ℕ → End
idle_end t rs y room = end_of (unit t Idle rs y 1) room

-- one that received this
abbrev received_end : Settings → List ℕ → Receiver → End
received_end t rs y = idle_end t rs y.exchange y.room

-- the ticks at the sender while blocks 1 to k are carried
unfoldable pub spent : (ℕ → Pauses) → ℕ → ℕ
spent w zero = 0
spent w (suc k) = spent w k + (w (suc k)).eot + (w (suc k)).draining + (w (suc k)).ack

pub spent_all : (w : ℕ → Pauses) (k : ℕ) → spent w k ≡ ticks_before (ticks_out w) k
unfolding spent ticks_before
spent_all w zero = refl
spent_all w (suc k) = omega (arith, spent_all w k)

-- All blocks of a message were carried: it is sent, the receiver judged them all, both lines are idle, and nothing is on the line; and
-- calls left both ends.
pub record Arrived (here there : Track) (h : Header) (d : List ℕ) (w : ℕ → Pauses) (s : Settings) (x : Exchange) (sent kept : List ℕ) (t : Settings) (r : Receiver) (p : Pair) : Type 0 where
  pub array : List ℕ
  pub so : p
      ≡ pair (idle_end s kept (sent_of (passes s.terms x (spent w (block_count (length d))))).exchange sent)
      (received_end t array (received t.terms (ticks_in d w) r h d (block_count (length d)))) []
      (received t.terms (ticks_in d w) r h d (block_count (length d))).notes
  pub sender_reaches : Reaches here p.sender
  pub receiver_reaches : Reaches there p.receiver

-- a message d with header h is sent by x at one end; r receives it at the other
module _ (o : List ℕ) (long : 257 ≤ length o) (h : Header) (d : List ℕ) (i : InRange h) (b : Bytes d) (short : length d ≤ message_limit)
    (s : Settings) (x : Exchange) (sent kept : List ℕ)
    (sound : (more : Bool) (k : ℕ) → 1 ≤ k → k ≤ most_blocks → (n : ℕ) → Sound s (passes s.terms (putting_out more x) n) k sent)
    (going : (n : ℕ) → outgoing_of (passes s.terms x n) ≡ Message h (length d)) (starts : front sent Send (length d) ≡ d)
    (t : Settings) (r : Receiver) (rs : List ℕ) (fits : length rs ≡ 256) (w : ℕ → Pauses)
    (sounds : (k : ℕ) → k < block_count (length d) → (n : ℕ)
    → Sound t (passes t.terms (received t.terms (ticks_in d w) r h d k).exchange n) 1 (received t.terms (ticks_in d w) r h d k).room)
    -- no report starts meanwhile, neither where the message comes in nor behind its last ACK
    (still : (k : ℕ) → k < block_count (length d) → Still t.terms (received t.terms (ticks_in d w) r h d k).exchange (ticks_in d w (suc k)))
    (unchanged : (k : ℕ) → k < block_count (length d)
    → (received t.terms (ticks_in d w) r h d (suc k)).exchange.sending ≡ (received t.terms (ticks_in d w) r h d k).exchange.sending)
    (over : (sent_of (passes s.terms x (spent w (block_count (length d))))).exchange.sending ≡ sending.Nothing)
    (time : InTime s t d w) where
  -- what the receiver has of blocks 1 to k
  abbrev got : ℕ → Receiver
  got k = received t.terms (ticks_in d w) r h d k

  -- whether there is a block behind block k + 1, and the sender's transactions once that is put out
  abbrev more : ℕ → Bool
  more k = ltb (suc k) (block_count (length d))

  abbrev out : ℕ → Exchange
  out k = putting_out (more k) x

  -- the same message goes on
  goes_on_lem : (k n : ℕ) → outgoing_of (passes s.terms (out k) n) ≡ Message h (length d)
  goes_on_lem k n =
      ap outgoing_of (later_out s.terms x (more k) n) ∙ outgoing_out s.terms (passes s.terms x n) (more k) ∙ going n

  sends : (k n : ℕ) → is_sending (passes s.terms (out k) n) ≡ true
  sends k n = let y : Exchange = passes s.terms (out k) n in sends_one y.sending y h (length d) (goes_on_lem k n)

  sends_on : (k n : ℕ) → (passes s.terms (out k) n).sending ≡ (out k).sending
  unfolding passes
  sends_on k n = sending_stays s.terms (out k) n (sends k 0)

  starts_on : (n : ℕ) → (passes s.terms x n).sending ≡ x.sending
  unfolding passes
  starts_on n = sending_stays s.terms x n (sends_one x.sending x h (length d) (going 0))

  -- the sender with block k + 1 on its way
  sender : ℕ → End
  sender k = end_of (unit s (WaitEot 0 0) kept (passes s.terms x (spent w k)) (suc k)) sent

  -- the received bytes, and the receiver, once blocks 1 to k came
  array : ℕ → List ℕ
  array zero = rs
  array (suc k) = overwritten (array k) (header_in h d (suc k) ++ data_in h d (suc k))

  array_fits : (k : ℕ) → k ≤ block_count (length d) → length (array k) ≡ 256
  unfolding array
  array_fits zero most = fits
  array_fits (suc k) most =
      let bs : List ℕ = header_in h d (suc k) ++ data_in h d (suc k) in
      let before = array_fits k (omega arith) in
      let n = block_length (header_at h (length d) (suc k)) (data_in h d (suc k)) in
      let small = data_most h d i short (suc k) (omega arith) most in
      omega (arith, length-append bs (drop (length bs) (array k)), length-drop (length bs) (array k))

  receiver : ℕ → End
  receiver k = received_end t (array k) (got k)

  -- ---- block k + 1

  -- its bytes on the line
  abbrev bytes : ℕ → List ℕ
  bytes k = block_of (header_at h (length d) (suc k)) (data_in h d (suc k))

  -- the receiver that has heard its ENQ, and the sender while it drains, and then
  abbrev asked : ℕ → End
  asked k = end_of (unit t (WaitLength 0) (array k) (passes t.terms (got k).exchange (w (suc k)).enq) 1) (got k).room

  abbrev draining : ℕ → End
  draining k = end_of (unit s (Draining 0) kept (passes s.terms (out k) (spent w k + (w (suc k)).eot)) (suc k)) sent

  abbrev waiting : ℕ → End
  waiting k = end_of (unit s (WaitAck 0 0) kept (passes s.terms (out k) (spent w k + (w (suc k)).eot + (w (suc k)).draining)) (suc k)) sent

  -- what the receiver answers to it
  abbrev taken : ℕ → Said
  taken k =
      let y = rests t.terms (ticks_in d w (suc k)) (got k) in
      ack_of t (array (suc k)) 1 (judge_of t.terms y.exchange (header_in h d (suc k)) (data_in h d (suc k)) y.room)

  -- and the sender to the ACK
  ends : ℕ → Said
  ends k = hears_all o (λ j. (w (suc k)).ack) (waiting k) (ACK ∷ [])

  module _ (k : ℕ) (less : k < block_count (length d)) where
    is : BlockOf d (suc k)
    is = record { least = omega arith; most = less }

    out_sound : (b : Bool) (n : ℕ) → Sound s (passes s.terms (putting_out b x) n) (suc k) sent
    out_sound b = let at_most = few h d i short in sound b (suc k) (omega arith) (omega arith)

    sender_sound : (n : ℕ) → Sound s (passes s.terms x n) (suc k) sent
    unfolding putting_out
    sender_sound = out_sound true

    -- whether there is a block behind it, as the sender has it
    follows : (y : Exchange) → outgoing_of y ≡ Message h (length d) → has_next (unit s Idle kept y (suc k)) ≡ more k
    follows y e = ap (λ (z : Outgoing). next_in z (suc k)) e

    asked_so : hears_all o (λ j. (w (suc k)).enq) (receiver k) (ENQ ∷ []) ≡ said (asked k) (EOT ∷ [])
    unfolding receiver
    asked_so =
        enq_heard o long t (got k).exchange 1 (got k).room (sounds k less) (ticks_in d w (suc k)) (still k less) (array k) (w (suc k)).enq (omega arith)

    block_so : hears_all o (λ j. (w (suc k)).eot) (sender k) (EOT ∷ []) ≡ said (draining k) (bytes k)
    unfolding sender
    block_so =
        let n : ℕ = suc k in
        let m : ℕ = spent w k + (w n).eot in
        let y : Exchange = passes s.terms x m in
        eot_heard o long s x n sent kept sender_sound starts_on (spent w k) (w n).eot (time.eot n is)
        ∙ (λ z. said (end_of (unit s (Draining 0) kept (putting_out (follows y (going m) z) y) n) sent)
        (block_in s.terms.device y.reports.shown (going m z) n sent))
        ∙ (λ z.
        said (end_of (unit s (Draining 0) kept (sym (later_out s.terms x (more k) m) z) n) sent)
        (block_out h d i short n (omega arith) less s.terms.device y.reports.shown sent (sender_sound 0).whole starts z))

    taken_so : hears_all o (w (suc k)).byte (asked k) (bytes k) ≡ taken k
    unfolding array received
    taken_so =
        let n : ℕ = suc k in
        let p : Pauses = w n in
        let y : Receiver = got k in
        let size = data_length h d i short n (omega arith) less in
        taken_up o long t y.exchange y.room (array k) (sounds k less) (ticks_in d w n) (still k less) p.byte p.enq (header_at h (length d) n) (data_in h d n)
        (ap
        (λ (e : ℕ).
        (judge_of t.terms (passes t.terms y.exchange (p.enq + total p.byte (1 + (10 + e) + 2))) (header_in h d n) (data_in h d n) y.room).answer.exchange.sending)
        size
        ∙ unchanged k less)
        (omega (arith, ap (λ (e : ℕ). total p.byte (1 + (10 + e) + 2)) size)) (array_fits k (omega arith))
        (header_in_range h d i short n (omega arith) less) (data_bytes h d i short n (omega arith) less b) (data_most h d i short n (omega arith) less)
        (time.size n is) (λ j least under. time.body n is j least (omega (arith, size)))
        ∙ ap
        (λ (e : ℕ).
        ack_of t (overwritten (array k) (header_in h d n ++ data_in h d n)) 1
        (judge_of t.terms (passes t.terms y.exchange (p.enq + total p.byte (1 + (10 + e) + 2))) (header_in h d n) (data_in h d n) y.room))
        size

    gone_so : drains_late o (w (suc k)).draining (draining k) ≡ said (waiting k) []
    gone_so = drained o long s (out k) (suc k) sent kept (out_sound (more k)) (sends_on k) (spent w k + (w (suc k)).eot) (w (suc k)).draining

    -- each but the last has the next behind it
    next_so : suc k < block_count (length d) → ends k ≡ said (sender (suc k)) (ENQ ∷ [])
    unfolding ends sender spent putting_out
    next_so behind =
        let m : ℕ = spent w (suc k) in
        let on : more k ≡ true = lt-ltb (suc k) (block_count (length d)) behind in
        next_asked o long s (out k) (suc k) sent kept (out_sound (more k)) (sends_on k) (spent w k + (w (suc k)).eot + (w (suc k)).draining) (w (suc k)).ack (time.ack (suc k) is)
        (sends k m) (follows (passes s.terms (out k) m) (goes_on_lem k m) ∙ on)
        ∙ (λ z. said (end_of (unit s (WaitEot 0 0) kept (passes s.terms (putting_out (on z) x) m) (add-one (suc k) z)) sent) (ENQ ∷ []))

    -- behind the last there is none
    last_so : suc k ≡ block_count (length d) → ends k ≡ said (idle_end s kept (sent_of (passes s.terms x (spent w (suc k)))).exchange sent) []
    unfolding ends spent
    last_so e =
        let m : ℕ = spent w (suc k) in
        let last : more k ≡ false = le-ltb (suc k) (block_count (length d)) (omega arith) in
        let ended : (sent_of (passes s.terms (out k) m)).exchange ≡ (sent_of (passes s.terms x m)).exchange =
        ap (λ (y : Exchange). (sent_of y).exchange) (later_out s.terms x (more k) m) ∙ sent_out s.terms (passes s.terms x m) (more k) in
        all_sent o long s (out k) (suc k) sent kept (out_sound (more k)) (sends_on k) (spent w k + (w (suc k)).eot + (w (suc k)).draining) (w (suc k)).ack (time.ack (suc k) is)
        (sends k m) (ap (λ (y : Exchange). y.sending) ended ∙ ap (λ (j : ℕ). (sent_of (passes s.terms x (spent w j))).exchange.sending) e ∙ over)
        (follows (passes s.terms (out k) m) (goes_on_lem k m) ∙ last)
        ∙ ap (λ (y : Exchange). said (idle_end s kept y sent) []) ended

  -- the notes so far
  notes : ℕ → List ℕ
  notes k = (got k).notes

  -- both ends, once the receiver judged block k + 1 and the sender said this to its ACK
  both : ℕ → Said → Pair
  both k z = pair z.end (receiver (suc k)) z.bytes (notes k ++ ((taken k).notes ++ z.notes))

  block_carried : (k : ℕ) → k < block_count (length d)
      → carried o (w (suc k)) (pair (sender k) (receiver k) (ENQ ∷ []) (notes k)) ≡ both k (ends k)
  unfolding receiver ends notes both received
  block_carried k less =
      let p : Pauses = w (suc k) in
      ap (on_enq o p (notes k) (sender k)) (asked_so k less) ∙ ap (on_eot o p (notes k) (said (asked k) (EOT ∷ []))) (block_so k less)
      ∙ (λ z. on_block o p.ack (notes k) [] [] (gone_so k less z) (taken_so k less z))

  on_its_way : (k : ℕ) → k < block_count (length d)
      → carries o w k (pair (sender 0) (receiver 0) (ENQ ∷ []) (notes 0)) ≡ pair (sender k) (receiver k) (ENQ ∷ []) (notes k)
  unfolding carries both notes received
  on_its_way zero less = refl
  on_its_way (suc k) less =
      ap (carried o (w (suc k))) (on_its_way k (omega arith)) ∙ block_carried k (omega arith) ∙ ap (both k) (next_so k (omega arith) less)

  at_last : (k : ℕ) → suc k ≡ block_count (length d)
      → carries o w (suc k) (pair (sender 0) (receiver 0) (ENQ ∷ []) (notes 0))
      ≡ pair (idle_end s kept (sent_of (passes s.terms x (spent w (suc k)))).exchange sent) (receiver (suc k)) [] (notes (suc k))
  unfolding carries both notes received
  at_last k e =
      ap (carried o (w (suc k))) (on_its_way k (omega arith)) ∙ block_carried k (omega arith) ∙ ap (both k) (last_so k (omega arith) e)

  -- ---- calls left both ends

  module _ (here there : Track) (sends_here : Reaches here (end_of (unit s (WaitEot 0 0) kept x 1) sent))
      (hears_there : Reaches there (received_end t rs r)) where
    -- this end is what calls left, if that is
    then_reaches : (v : Track) {y z : Said} → y ≡ z → Reaches v y.end → Reaches v z.end
    then_reaches v e = subst (λ (z : Said). Reaches v z.end) e

    ends_reach : (k : ℕ) → k < block_count (length d) → Reaches here (sender k) → Reaches here (ends k).end
    unfolding ends
    ends_reach k less r =
        reaches_heard here (waiting k)
        (then_reaches here (gone_so k less)
        (reaches_drained here (draining k)
        (then_reaches here (block_so k less) (reaches_heard here (sender k) r o (λ j. (w (suc k)).eot) (EOT ∷ []) (one_byte EOT [] (omega arith) no_bytes))) o (w (suc k)).draining))
        o (λ j. (w (suc k)).ack) (ACK ∷ []) (one_byte ACK [] (omega arith) no_bytes)

    sender_reaches : (k : ℕ) → k < block_count (length d) → Reaches here (sender k)
    unfolding sender spent passes
    sender_reaches zero less = sends_here
    sender_reaches (suc k) less = then_reaches here (next_so k (omega arith) less) (ends_reach k (omega arith) (sender_reaches k (omega arith)))

    sent_reaches : (k : ℕ) → suc k ≡ block_count (length d) → Reaches here (idle_end s kept (sent_of (passes s.terms x (spent w (suc k)))).exchange sent)
    sent_reaches k e = then_reaches here (last_so k (omega arith) e) (ends_reach k (omega arith) (sender_reaches k (omega arith)))

    receiver_reaches : (k : ℕ) → k ≤ block_count (length d) → Reaches there (receiver k)
    unfolding receiver array received
    receiver_reaches zero less = hears_there
    receiver_reaches (suc k) less =
        then_reaches there (taken_so k less)
        (reaches_heard there (asked k)
        (then_reaches there (asked_so k less) (reaches_heard there (receiver k) (receiver_reaches k (omega arith)) o (λ j. (w (suc k)).enq) (ENQ ∷ []) (one_byte ENQ [] (omega arith) no_bytes)))
        o (w (suc k)).byte (bytes k)
        (line_bytes (header_at h (length d) (suc k)) (data_in h d (suc k)) (header_in_range h d i short (suc k) (omega arith) less)
        (data_bytes h d i short (suc k) (omega arith) less b) (data_most h d i short (suc k) (omega arith) less)))

    -- all of them
    pub all_carried :
        Arrived here there h d w s x sent kept t r
        (carries o w (block_count (length d)) (pair (end_of (unit s (WaitEot 0 0) kept x 1) sent) (received_end t rs r) (ENQ ∷ []) r.notes))
    unfolding sender receiver array notes received spent passes
    all_carried =
        let n : ℕ = block_count (length d) in
        let one = some h d i short in
        let e : suc (block_count (length d) - 1) ≡ block_count (length d) = omega arith in
        let sent_end : ℕ → End = λ m. idle_end s kept (sent_of (passes s.terms x (spent w m))).exchange sent in
        let so : carries o w n (pair (sender 0) (receiver 0) (ENQ ∷ []) (notes 0)) ≡ pair (sent_end n) (receiver n) [] (notes n) =
        subst (λ (m : ℕ). carries o w m (pair (sender 0) (receiver 0) (ENQ ∷ []) (notes 0)) ≡ pair (sent_end m) (receiver m) [] (notes m)) e (at_last (n - 1) e) in
        record {
          array = array n;
          so = so;
          sender_reaches =
              subst (λ (p : Pair). Reaches here p.sender) (sym so) (subst (λ (m : ℕ). Reaches here (sent_end m)) e (sent_reaches (n - 1) e));
          receiver_reaches = subst (λ (p : Pair). Reaches there p.receiver) (sym so) (receiver_reaches n (omega arith));
        }
