-- What a call that is not refused leaves of the room (`specs/Refusals.antt`). Assumes nothing.
use Rattle.std.specs.Prelude.{Option, Some, None, Err}
use Prim.Native.Nat.{ℕ, ◌<◌}
use mathlib.Core.Path.{◌≡◌, refl, sym, ap, subst, ◌∙◌}
use mathlib.Core.Bool.{Bool, true, false, false≢true}
use mathlib.Core.List.{List}
use mathlib.Core.Logic.Iff
use mathlib.Core.Logic.{◌≢◌}
use native.Mathlib.Omega.{arith}
use lib.Dec.{eqb}
use lib.ListN.{length}
use borrow.Author.Tests.{eqb-true, eqb-false}
use Rattle.wire.specs.Bytes.{part}
use Rattle.wire.proofs.Choice.{either}
use Rattle.header.specs.Header.{first_ten, header_of}
use Rattle.header.specs.declared.header.Header.{Header}
use Rattle.settings.specs.declared.terms.Terms.{Terms}
use Rattle.room.specs.Room.{kept_in}
use Rattle.room.proofs.Keeping.{keeps_only}
use Rattle.room.specs.declared.Message.{Message}
use Rattle.room.specs.declared.Message.TheVariants as message
use Rattle.line.specs.Codes.{fault_note}
use Rattle.line.proofs.Alone.{ticks_tell}
use Rattle.line.specs.declared.phase.Fault.{Fault}
use Rattle.line.specs.declared.phase.Fault.TheVariants.{Length, Sum}
use Rattle.line.specs.Line.{Heard}
use Rattle.line.specs.declared.step.Told.{Told}
use Rattle.line.specs.declared.step.Told.TheVariants as told
use Rattle.line.specs.declared.step.Remark.{Remark}
use Rattle.line.specs.declared.step.Remark.TheVariants as remark
use Rattle.place.specs.Fate.{fate_of}
use Rattle.place.specs.Own.{own_kept}
use Rattle.place.specs.Incoming.{incoming_length}
use Rattle.place.specs.declared.Fate.{Fate}
use Rattle.place.specs.declared.Fate.TheVariants as fate
use Rattle.table.specs.Own.{reply_for}
use Rattle.table.specs.Incoming.{message_for, open_alike}
use Rattle.table.proofs.Finding.{reply_lowest, free_incoming_lowest, message_lowest, open_alike_lowest}
use Rattle.exchange.specs.Note.{note_by as fate_note, note_number as block_note}
use Rattle.exchange.specs.Exchange.{own_place, incoming_place, saved_now}
use Rattle.exchange.specs.Judge.{thrown, keep_by, reply_block, message_block, begins_at, judge_of}
use Rattle.exchange.specs.Request.{lends}
use Rattle.exchange.specs.Rules.{Fours, ReplyHere, MessageHere, AlikeHere, reply_bytes, message_bytes, bytes_before, noted}
use Rattle.exchange.specs.Refusals.{FillsBy}
use Rattle.exchange.proofs.Finding.{found, lowest}
use Rattle.exchange.proofs.Judging.{reply_says, message_says, is_free, reply_here, message_here, alike_here}
use Rattle.exchange.proofs.Leaving.{judge_leaves}
use Rattle.exchange.proofs.Accepting.{refused_number, accepted_fills, request_spares}
use Rattle.exchange.proofs.Cases.{Thrown, stray, no_place, too_long_lem, empty, Takes, by_judge}
use Rattle.exchange.specs.declared.Note.{Note}
use Rattle.exchange.specs.declared.Note.TheVariants.{Kept, Misrouted, Duplicate, Stray, NoPlace, TooLong, Empty}
use Rattle.exchange.specs.declared.Exchange.{Exchange}
use Rattle.link.specs.Answer.{outcome_number, note_number, note_by}
use Rattle.link.specs.Run.{Left, has_next, Telling, telling, hears, hearing, byte_stepped, byte_step, tick_step}
use Rattle.link.specs.History.{Call, byte, tick, drained, request, step_in}
use Rattle.link.specs.Refusals.{AreaOf, of_reply_lem, of_message_lem, of_alike, of_free, header_heard, BlockKept, FillsRoom}
use Rattle.link.specs.declared.Midway.{Midway}
use Rattle.link.specs.declared.Link.{Link}
use Rattle.link.proofs.Cases.{by_byte, by_sent, by_answer, unlent_room}
use Rattle.link.proofs.Steps.{at_byte}
use Rattle.link.proofs.refusals.Rows.{behind}

-- ---- a block that is judged

-- the area that was found for a block
data AreaFound (x : Exchange) (b : Header) : Message → Type 0 where
  for_reply : (p : ℕ) → reply_for x.own b ≡ Some p → AreaFound x b (message.Reply p)
  for_message : (p : ℕ) → reply_for x.own b ≡ None → message_for x.incoming b ≡ Some p → AreaFound x b (message.Incoming p)
  for_primary :
      (p : ℕ) (gone : Bool) → reply_for x.own b ≡ None → message_for x.incoming b ≡ None → Takes x b p gone → AreaFound x b (message.Incoming p)

-- it is the one that the rules name
module _ (x : Exchange) (b : Header) (four : Fours x) where
  no_reply : reply_for x.own b ≡ None → ReplyHere x b → ⊥
  no_reply e w = false≢true (sym (ap found e) ∙ (reply_here x four b).1 w)

  no_message : message_for x.incoming b ≡ None → MessageHere x b → ⊥
  no_message e w = false≢true (sym (ap found e) ∙ (message_here x four b).1 w)

  no_alike : open_alike x.incoming b ≡ None → AlikeHere x b → ⊥
  no_alike e w = false≢true (sym (ap found e) ∙ (alike_here x four b).1 w)

  area_of : {m : Message} → AreaFound x b m → AreaOf x b m
  area_of (for_reply p r) = of_reply_lem p ((lowest _ _ _ (reply_lowest x.own b four.own) (λ q. reply_says _ b) p).0 r)
  area_of (for_message p r m) =
      of_message_lem p (no_reply r) ((lowest _ _ _ (message_lowest x.incoming b four.incoming) (λ q. message_says _ b) p).0 m)
  area_of (for_primary p true r m t) =
      of_alike p (no_reply r) (no_message m) ((lowest _ _ _ (open_alike_lowest x.incoming b four.incoming) (λ q. Iff.rfl) p).0 t)
  area_of (for_primary p false r m t) =
      of_free p (no_reply r) (no_message m) (no_alike t.0)
      ((lowest _ _ _ (free_incoming_lowest x.incoming four.incoming) (λ q. is_free _) p).0 t.1)

-- its data was kept there
record KeptThere (x : Exchange) (b : Header) (d room after : List ℕ) : Type 0 where
  pub area : Message
  pub there : AreaFound x b area
  pub kept : after ≡ kept_in room area (bytes_before x b) d

-- note 21 is that of a fate by which data is kept
kept_by : (f : Fate) (room : List ℕ) (m : Message) (have : ℕ) (d : List ℕ) → block_note (fate_note f) ≡ 21 → keep_by f room m have d ≡ kept_in room m have d
kept_by fate.Empty room m have d e = absurd (omega arith)
kept_by fate.TooLong room m have d e = absurd (omega arith)
kept_by (fate.Last n) room m have d e = refl
kept_by (fate.More n) room m have d e = refl

not_thrown : (n : Note) → Thrown n → block_note n ≢ 21
not_thrown Kept t e = elim t [ ]
not_thrown Misrouted t e = elim t [ ]
not_thrown Duplicate t e = elim t [ ]
not_thrown Stray stray e = omega arith
not_thrown NoPlace no_place e = omega arith
not_thrown TooLong too_long_lem e = omega arith
not_thrown Empty empty e = omega arith

-- by what the block was found to be of
module _ (x : Exchange) (b : Header) (d room : List ℕ) where
  before_reply : (p : ℕ) → reply_for x.own b ≡ Some p → bytes_before x b ≡ (own_kept (own_place x p)).length
  before_reply p r = ap (λ (f : Option ℕ). reply_bytes f x.own x.incoming b) r

  before_message : (f : Option ℕ) → reply_for x.own b ≡ None → message_for x.incoming b ≡ f → bytes_before x b ≡ message_bytes f x.incoming
  before_message f r m = ap (λ (g : Option ℕ). reply_bytes g x.own x.incoming b) r ∙ ap (λ (g : Option ℕ). message_bytes g x.incoming) m

  there : (m : Message) (have : ℕ) (after : List ℕ) → AreaFound x b m → bytes_before x b ≡ have → after ≡ kept_in room m have d → KeptThere x b d room after
  there m have after a e k = record { area = m; there = a; kept = k ∙ ap (λ (n : ℕ). kept_in room m n d) (sym e) }

judged_kept :
    (c : Terms) (x : Exchange) (h d room : List ℕ) → noted (judge_of c x h d room) ≡ 21
    → KeptThere x (header_of h) d room (judge_of c x h d room).room
unfolding thrown reply_block message_block begins_at saved_now
judged_kept c x h d room =
    by_judge c x h d room (λ j. noted j ≡ 21 → KeptThere x b d room j.room)
    (λ q e. absurd (omega arith)) (λ q u e. absurd (omega arith))
    (λ p q r e.
    there x b d room (message.Reply p) (own_kept (own_place x p)).length _ (for_reply p r) (before_reply x b d room p r)
    (kept_by (fate_of b (own_kept (own_place x p)).length (length d)) room (message.Reply p) (own_kept (own_place x p)).length d e))
    (λ p q r m e.
    there x b d room (message.Incoming p) (incoming_length (incoming_place x p)) _ (for_message p r m) (before_message x b d room (Some p) r m)
    (kept_by (fate_of b (incoming_length (incoming_place x p)) (length d)) room (message.Incoming p) (incoming_length (incoming_place x p)) d e))
    (λ p gone f q r m o k s t e.
    there x b d room (message.Incoming p) 0 _ (for_primary p gone r m t) (before_message x b d room None r m) refl)
    (λ n t r m e. absurd (not_thrown n t e))
  where
    b : Header
    b = header_of h

-- ---- what the device told

-- a block went up; or no byte of the room is touched, and the note is that of what was remarked
by_told :
    (P : Telling → Type 0) (t : Told) (r : Remark) (u : Link) (room : List ℕ)
    → ((m : Midway) → m.note ≡ note_by r → P (telling m room)) → ((n : ℕ) → t ≡ told.Up n → P (hearing (told.Up n) r u room)) → P (hearing t r u room)
by_told P told.Nothing r u room still up = still _ refl
by_told P told.PutOut r u room still up = still _ refl
by_told P told.Sent r u room still up =
    by_sent (λ more (m : Midway). P (telling m room)) (has_next u) u.exchange (note_by r) (λ e. still _ refl) (λ e. still _ refl)
by_told P told.Failed r u room still up = still _ refl
by_told P (told.Up n) r u room still up = up n refl

fault_note_lem : (f : Fault) → fault_note f ≢ 21
fault_note_lem Length e = omega arith
fault_note_lem (Sum a b) e = omega arith

-- a remark has another note
remark_note : (r : Remark) → note_number (note_by r) ≢ 21
remark_note remark.Nothing e = omega arith
remark_note remark.GaveWay e = omega arith
remark_note remark.NoLength e = omega arith
remark_note remark.Gap e = omega arith
remark_note (remark.Bad f) e = fault_note_lem f e

-- the block that went up was kept
record UpKept (t : Told) (x : Exchange) (rs room after : List ℕ) : Type 0 where
  pub size : ℕ
  pub up : t ≡ told.Up size
  pub kept : KeptThere x (header_of (first_ten rs)) (part 10 size rs) room after

module _ (t : Told) (r : Remark) (u : Link) (room : List ℕ) where
  -- no other note than 21 tells of bytes kept
  told_room : note_number (hearing t r u room).midway.note ≢ 21 → (hearing t r u room).room ≡ room
  told_room =
      by_told (λ w. note_number w.midway.note ≢ 21 → w.room ≡ room) t r u room (λ m e z. refl)
      (λ n e. (judge_leaves u.settings.terms u.exchange (first_ten u.received) (part 10 n u.received) room).thrown_out)

  -- and 21 tells of a block
  told_kept : note_number (hearing t r u room).midway.note ≡ 21 → UpKept t u.exchange u.received room (hearing t r u room).room
  told_kept =
      by_told (λ w. note_number w.midway.note ≡ 21 → UpKept t u.exchange u.received room w.room) t r u room
      (λ m e z. absurd (remark_note r (sym (ap note_number e) ∙ z)))
      (λ n e z. record {
        size = n;
        up = e;
        kept = judged_kept u.settings.terms u.exchange (first_ten u.received) (part 10 n u.received) room z;
      })

-- ---- a call behind 1, 2 and 3

module _ (u : Link) (room o : List ℕ) where
  -- after a byte: as it was, unless note 21 tells of a block
  abbrev Spared : Left → Type 0
  Spared l = note_number l.answer.note ≢ 21 → l.room ≡ room

  abbrev Filled : Heard → Left → Type 0
  Filled h l = note_number l.answer.note ≡ 21 → UpKept h.step.told u.exchange h.received room l.room

  byte_room : (h : Heard) → Spared (byte_stepped u h room o)
  byte_room h =
      let w = told_room h.step.told h.step.remark (hears u h) room in
      by_byte (λ p l. Spared l) u h room o (λ e. w) (λ c e. w) (λ e. w)

  byte_kept : (h : Heard) → Filled h (byte_stepped u h room o)
  byte_kept h =
      let w = told_kept h.step.told h.step.remark (hears u h) room in
      by_byte (λ p l. Filled h l) u h room o (λ e. w) (λ c e. w) (λ e. w)

  byte_size : (h : Heard) → length (byte_stepped u h room o).room ≡ length room
  byte_size h =
      let l = byte_stepped u h room o in
      either (eqb (note_number l.answer.note) 21) (λ t. length l.room ≡ length room)
      (λ e.
      let w = (byte_kept h (eqb-true _ _ e)).kept in
      ap length w.kept ∙ (keeps_only room w.area _ _).size)
      (λ e. ap length (byte_room h (eqb-false _ _ e)))

  block_kept : (h : Heard) → note_number (byte_stepped u h room o).answer.note ≡ 21 → Fours u.exchange → BlockKept u h room (byte_stepped u h room o).room
  block_kept h n four =
      let w = byte_kept h n in
      record {
        size = w.size;
        up = w.up;
        area = w.kept.area;
        of = area_of u.exchange (header_heard h) four w.kept.there;
        kept = w.kept.kept;
      }

  -- no block goes up on a tick
  tick_room : (behind u room o tick).room ≡ room
  tick_room =
      let h = tick_step u in
      by_told (λ w. w.room ≡ room) h.step.told h.step.remark (hears u h) room (λ m e. refl)
      (λ n e. absurd ((ticks_tell u.settings.limits u.line).not_up n e))

  pub size_behind : (k : Call) → length (behind u room o k).room ≡ length room
  size_behind (byte b fits) = byte_size (byte_step u b)
  size_behind tick = ap length tick_room
  size_behind drained = refl
  size_behind (request r) =
      by_answer u r room o (λ l. length l.room ≡ length room) (λ n e. refl)
      (λ p e l. request_spares u.settings.terms u.exchange r room) (λ p e l. refl) (lends r) refl

  abbrev Fills : (b : ℕ) → b < 256 → Left → Type 0
  Fills b fits l = outcome_number l.answer.outcome ≡ 0 → FillsRoom u room (byte b fits) l.answer l.room

  pub fills_behind : (k : Call) → outcome_number (behind u room o k).answer.outcome ≡ 0 → FillsRoom u room k (behind u room o k).answer (behind u room o k).room
  fills_behind (byte b fits) =
      let h = step_in u (byte b fits) in
      at_byte (λ s. Fills b fits (byte_stepped u s room o)) u b fits (λ e. (byte_room h, block_kept h))
  fills_behind tick = λ e. tick_room
  fills_behind drained = λ e. refl
  fills_behind (request r) =
      let fills = accepted_fills u.settings.terms u.exchange r room in
      by_answer u r room o (λ l. outcome_number l.answer.outcome ≡ 0 → FillsBy r room l.room) (λ n e z. absurd (refused_number (Err n) n refl z))
      (λ p e l z. fills p e) (λ p e l z. subst (FillsBy r room) (unlent_room u r room l) (fills p e)) (lends r) refl
