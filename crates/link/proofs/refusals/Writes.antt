-- What a call writes (`specs/Refusals.antt`): the output bytes that it reports, and the area bytes that it fills. Assumes nothing.
use Prim.Native.Nat.{ℕ, ◌≤◌}
use mathlib.Core.Path.{◌≡◌, refl, sym, ap, subst, ◌∙◌}
use mathlib.Core.Bool.{Bool, true, false, false≢true}
use mathlib.Core.List.{List, [], ◌++◌}
use mathlib.Core.Logic.{◌≢◌}
use native.Mathlib.Omega.{arith}
use lib.Dec.{ltb}
use lib.ListN.{length, drop, length-append, length-take, length-drop}
use lib.Seq.{length-take-le, drop_at}
use borrow.Author.Tests.{ltb-true, ltb-false}
use Rattle.wire.specs.Lent.{on_front}
use Rattle.wire.specs.Sum.{checksum_of}
use Rattle.wire.proofs.Choice.{either}
use Rattle.header.specs.Header.{header_bytes}
use Rattle.header.specs.declared.header.Header.{Header}
use Rattle.room.specs.Room.{bytes_in, lies}
use Rattle.room.proofs.Areas.{lies_exactly}
use Rattle.room.proofs.Reading.{bytes_read, nothing_read}
use Rattle.room.specs.declared.Message.{Message}
use Rattle.room.specs.declared.Message.TheVariants as message
use Rattle.cut.specs.Blocks.{cut_of}
use Rattle.cut.proofs.Cutting.{cut_blocks}
use Rattle.cut.specs.declared.Cut.{Cut}
use Rattle.block.specs.Block.{framed, block_of}
use Rattle.block.proofs.Frames.{frame_length}
use Rattle.line.specs.Codes.{bytes_out}
use Rattle.line.specs.Line.{Heard, settle_of}
use Rattle.line.specs.declared.step.Out.{Out}
use Rattle.line.specs.declared.step.Out.TheVariants as out
use Rattle.line.specs.declared.step.Told.{Told}
use Rattle.line.specs.declared.step.Told.TheVariants as told
use Rattle.exchange.specs.Reports.{report_header, report_body}
use Rattle.exchange.specs.Send.{outgoing_of}
use Rattle.exchange.specs.Request.{lends as lends_to}
use Rattle.exchange.specs.declared.Outgoing.{Outgoing}
use Rattle.exchange.specs.declared.Outgoing.TheVariants as outgoing
use Rattle.link.specs.Answer.{outcome_number}
use Rattle.link.specs.Run.{Left, untold, passing, carried_by, codes, course, bytes_by, block_in, block_bytes, hears, stepped, byte_step, tick_step, drained_step}
use Rattle.link.specs.History.{Call, byte, tick, drained, request, called, heard_by, came_to}
use Rattle.link.specs.Door.{bytes_left}
use Rattle.link.specs.Refusals.{lends, OutputShort, WritesOutput, FillsRoom, WritesOnly}
use Rattle.link.specs.declared.Midway.{Midway}
use Rattle.link.specs.declared.Outcome.{Outcome}
use Rattle.link.specs.declared.Outcome.TheVariants as outcome
use Rattle.link.specs.declared.Note.TheVariants as note
use Rattle.link.specs.declared.Link.{Link}
use Rattle.link.proofs.Cases.{by_byte, by_answer, answering}
use Rattle.link.proofs.door.Bytes.{leaves_by_line}
use Rattle.link.proofs.refusals.Rows.{behind, by_rows, by_passing, refused_changes_nothing}
use Rattle.link.proofs.refusals.Room.{size_behind, fills_behind}
use Rattle.std.specs.Prelude.{Option, None, Some}

-- ---- how many bytes leave

-- two codes at most
code_most : (p : Out) → length (bytes_out [] p) ≤ 1
code_most out.Nothing = omega arith
code_most (out.Code c) = omega arith
code_most out.Block = omega arith

codes_most : (p q : Out) → length (codes p q) ≤ 257
codes_most p q = omega (arith, length-append (bytes_out [] p) (bytes_out [] q), code_most p, code_most q)

-- a block: its length byte, ten header bytes, at most 244 data bytes, and two of the sum
header_ten : (h : Header) → length (header_bytes h) ≡ 10
unfolding header_bytes
header_ten h = refl

read_most : (room : List ℕ) (m : Message) (o n : ℕ) → length (bytes_in room m o n) ≤ n
read_most room m o n =
    either (lies room m o n) (λ t. length (bytes_in room m o n) ≤ n)
    (λ e. omega (arith, (bytes_read room m o n ((lies_exactly room m o n).0 e)).size))
    (λ e. subst (λ (bs : List ℕ). length bs ≤ n) (sym (nothing_read room m o n (λ l. false≢true (sym e ∙ (lies_exactly room m o n).1 l)))) (omega arith))

block_most : (h : Header) (d : List ℕ) → length d ≤ 244 → length (block_of h d) ≤ 257
unfolding framed
block_most h d few =
    omega (arith, frame_length (header_bytes h ++ d) (checksum_of (header_bytes h ++ d)), length-append (header_bytes h) d, header_ten h)

cut_most : (h : Header) (n k : ℕ) (room : List ℕ) (c : Option Cut) → cut_of h n k ≡ c → length (bytes_by c room) ≤ 257
cut_most h n k room (Some b) e =
    block_most b.header (bytes_in room message.Send b.start b.length)
    (omega (arith, read_most room message.Send b.start b.length, (cut_blocks h b.header n k b.start b.length e).most))
cut_most h n k room None e = omega arith

-- a report has twelve data bytes
report_most : (shown : List ℕ) → length (report_body shown) ≤ 244
report_most shown = omega (arith, length-take 10 shown)

block_in_most : (device : ℕ) (shown : List ℕ) (g : Outgoing) (k : ℕ) (room : List ℕ) → length (block_in device shown g k room) ≤ 257
block_in_most device shown outgoing.Nothing k room = omega arith
block_in_most device shown (outgoing.Message h n) k room = cut_most h n k room (cut_of h n k) refl
block_in_most device shown (outgoing.Report f n) k room = block_most (report_header device f n) (report_body shown) (report_most shown)

-- ---- the output

-- n bytes are reported, and only they are other ones
record Wrote (o : List ℕ) (n : ℕ) (after : List ℕ) : Type 0 where
  pub most : n ≤ 257
  pub within : n ≤ length o
  pub beyond : drop n after ≡ drop n o
  pub size : length after ≡ length o

-- bytes put at the output's front
written : (bs o : List ℕ) → length bs ≤ 257 → 257 ≤ length o → Wrote o (length bs) (on_front bs o)
unfolding on_front
written bs o few long = record {
  most = few;
  within = omega arith;
  beyond = drop_at bs (drop (length bs) o) (length bs) refl;
  size = omega (arith, length-append bs (drop (length bs) o), length-drop (length bs) o);
}

-- none
unwritten : (o : List ℕ) → Wrote o 0 o
unwritten o = record { most = omega arith; within = omega arith; beyond = refl; size = refl }

-- the output is as long as it must be, where it is lent
long_enough : (k : Call) (o : List ℕ) → lends k ≡ true → (OutputShort k o → ⊥) → 257 ≤ length o
long_enough k o lent long =
    either (ltb (length o) 257) (λ t. 257 ≤ length o) (λ e. absurd (long (record { lent = lent; short = ltb-true _ _ e })))
    (λ e. ltb-false (length o) 257 e)

module _ (u : Link) (room o : List ℕ) where
  abbrev WroteBy : Left → Type 0
  WroteBy l = Wrote o l.answer.count l.out

  -- a call's course ends by codes
  course_wrote : (v : Link) (p : Out) (t : Told) (m : Midway) (k : Outcome) (after : List ℕ) → 257 ≤ length o → WroteBy (course v p t m k after o)
  course_wrote v p t m k after long =
      let last = (settle_of (carried_by v t m.exchange after).line).out in
      written (codes p last) o (codes_most p last) long

  step_wrote : (ticks : Bool) (h : Heard) → 257 ≤ length o → WroteBy (stepped ticks u h room o)
  step_wrote ticks h =
      let w = heard_by u h room in
      course_wrote (hears u h) h.step.out h.step.told (passing ticks u.settings.terms w.midway) outcome.Done w.room

  wrote_behind : (k : Call) → (OutputShort k o → ⊥) → WroteBy (behind u room o k)
  wrote_behind (byte b fits) long =
      let enough = long_enough (byte b fits) o refl long in
      let few = step_wrote false (byte_step u b) enough in
      by_byte (λ p l. WroteBy l) u (byte_step u b) room o (λ e. few) (λ c e. few)
      (λ e. written (block_bytes u room) o (block_in_most u.settings.terms.device u.exchange.reports.shown (outgoing_of u.exchange) u.block room) enough)
  wrote_behind tick long = step_wrote true (tick_step u) (long_enough tick o refl long)
  wrote_behind drained long = step_wrote false (drained_step u) (long_enough drained o refl long)
  wrote_behind (request r) long =
      by_answer u r room o WroteBy (λ n e. unwritten o)
      (λ p e l.
      let a = answering u r room in
      course_wrote u out.Nothing told.Nothing (untold a.answer.exchange note.Nothing) (outcome.Taken p) a.room (long_enough (request r) o l long))
      (λ p e l. unwritten o) (lends_to r) refl

  wrote : (k : Call) → WroteBy (called u room o k)
  wrote k = by_passing u room o k WroteBy (λ r. unwritten o) (λ p. wrote_behind k p.not_short)

-- these bytes are what is found there
puts : (bs o : List ℕ) (l : Left) → bytes_left l ≡ bs → Wrote o l.answer.count l.out → WritesOutput bs o l
puts bs o l e w = record {
  count = sym (length-take-le l.answer.count l.out (omega (arith, w.within, w.size))) ∙ ap length e;
  most = w.most;
  within = w.within;
  front = e;
  beyond = w.beyond;
  size = w.size;
}

-- ---- the calls

-- a call with a number is refused
refused_room : (u : Link) (room o : List ℕ) (k : Call) → outcome_number (came_to u room o k) ≢ 0 → (called u room o k).room ≡ room
refused_room u room o k = by_outcome (came_to u room o k) refl
  where
    by_outcome : (t : Outcome) → came_to u room o k ≡ t → outcome_number t ≢ 0 → (called u room o k).room ≡ room
    by_outcome outcome.Done e n = absurd (n refl)
    by_outcome (outcome.Taken p) e n = absurd (n refl)
    by_outcome (outcome.Refused r) e n = (refused_changes_nothing u room o k r e).parts.bytes

pub writes_only : WritesOnly
writes_only u room o k = record {
  output = puts _ o (called u room o k) (leaves_by_line u room o k) (wrote u room o k);
  size = by_passing u room o k (λ l. length l.room ≡ length room) (λ r. refl) (λ p. size_behind u room o k);
  refused = refused_room u room o k;
  accepted = by_rows u room o k (λ l. outcome_number l.answer.outcome ≡ 0 → FillsRoom u room k l.answer l.room) (record {
    row_1 = λ s e. absurd (omega arith);
    row_2 = λ m w e. absurd (omega arith);
    row_3 = λ m w f e. absurd (omega arith);
    rest = λ p. fills_behind u room o k;
  });
}
