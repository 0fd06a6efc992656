-- Each note exactly when (`specs/Moves.antt`). Assumes nothing.
use Prim.Native.Nat.{ℕ, ◌≤◌}
use mathlib.Core.Path.{◌≡◌, refl, sym, ap, ◌∙◌, subst}
use mathlib.Core.Bool.{Bool, true, false, false≢true}
use mathlib.Core.List.{List}
use mathlib.Core.Logic.{◌↔◌, ◌⊎◌, inl, inr, ⊎_elim}
use native.Mathlib.Omega.{arith}
use Rattle.wire.proofs.Choice.{either}
use Rattle.settings.specs.declared.terms.Terms.{Terms}
use Rattle.line.specs.declared.phase.Fault.TheVariants as fault
use Rattle.line.specs.declared.step.Told.{Told}
use Rattle.line.specs.declared.step.Remark.{Remark}
use Rattle.line.specs.declared.step.Remark.TheVariants as remark
use Rattle.place.specs.OwnHistory as own
use Rattle.exchange.specs.Note.{note_number as block_note}
use Rattle.exchange.specs.Judge.{judge_of}
use Rattle.exchange.specs.Rules.{Ruled}
use Rattle.exchange.specs.History as exchange
use Rattle.exchange.specs.Watching.{told_by}
use Rattle.exchange.specs.declared.Note.{Note as BlockNote}
use Rattle.exchange.specs.declared.Note.TheVariants as kept
use Rattle.exchange.proofs.Notes.{notes_exactly}
use Rattle.exchange.proofs.Runs.{four_places}
use Rattle.link.specs.Answer.{accepted, note_number, note_by}
use Rattle.link.specs.Run.{passing, hears, hearing}
use Rattle.link.specs.History.{Made, step_in, itself, Track, terms_in, answered}
use Rattle.link.specs.Inside.{Reached}
use Rattle.link.specs.Verdicts.{Accepted, Among, here}
use Rattle.link.specs.Moves.{noted, GoesUp, Remarks, unnoted, Noted, refused, nothing, block, no_length, gap, bad_length, bad_sum, NotesLifted}
use Rattle.link.specs.declared.Midway.{Midway}
use Rattle.link.specs.declared.Note.{Note}
use Rattle.link.specs.declared.Link.{Link}
use Rattle.link.proofs.inside.Places.{lent, sound_inside}
use Rattle.link.proofs.device.Told.{front_among, told_exactly}
use Rattle.link.proofs.device.Says.{Said, silent, judged, put_out, sent, failed, step_said, remark_note, ticks, accepted_says, refused_says}
use Rattle.link.proofs.device.Remarks.{up_unremarked}
use Rattle.link.proofs.Accepted.{accepted_calls}

-- ---- what a note says of a block

-- it is kept, passed by, or breaks its message
pub by_note : (P : BlockNote → own.Answer → Type 0) → P kept.Kept own.kept → ((k : BlockNote) → 22 ≤ block_note k → block_note k ≤ 25 → P k own.passed)
    → ((k : BlockNote) → (block_note k ≡ 26) ⊎ (block_note k ≡ 27) → P k own.spoilt) → (k : BlockNote) → P k (told_by k)
by_note P keep pass spoil kept.Kept = keep
by_note P keep pass spoil kept.Misrouted = pass kept.Misrouted (omega arith) (omega arith)
by_note P keep pass spoil kept.Duplicate = pass kept.Duplicate (omega arith) (omega arith)
by_note P keep pass spoil kept.Stray = pass kept.Stray (omega arith) (omega arith)
by_note P keep pass spoil kept.NoPlace = pass kept.NoPlace (omega arith) (omega arith)
by_note P keep pass spoil kept.TooLong = spoil kept.TooLong (inl refl)
by_note P keep pass spoil kept.Empty = spoil kept.Empty (inr refl)

-- 21 is that of a block that is kept
pub kept_note : (k : BlockNote) → block_note k ≡ 21 → k ≡ kept.Kept
kept_note =
    by_note (λ k a. block_note k ≡ 21 → k ≡ kept.Kept) (λ e. refl) (λ k a b e. absurd (omega arith))
    (λ k i e. absurd (⊎_elim (λ z. omega arith) (λ z. omega arith) i))

-- 27 is the most
pub to_27 : (k : BlockNote) → block_note k ≤ 27
to_27 = by_note (λ k a. block_note k ≤ 27) (omega arith) (λ k a b. omega arith) (λ k i. ⊎_elim (λ z. omega arith) (λ z. omega arith) i)

-- 21 is the least
from_21 : (k : BlockNote) → 21 ≤ block_note k
from_21 = by_note (λ k a. 21 ≤ block_note k) (omega arith) (λ k a b. omega arith) (λ k i. ⊎_elim (λ z. omega arith) (λ z. omega arith) i)

-- 22 to 25 are those of one that is passed by
pub passed_note : (k : BlockNote) → 22 ≤ block_note k → block_note k ≤ 25 → told_by k ≡ own.passed
passed_note =
    by_note (λ k a. 22 ≤ block_note k → block_note k ≤ 25 → a ≡ own.passed) (λ a b. absurd (omega arith)) (λ k a b c d. refl)
    (λ k i a b. absurd (⊎_elim (λ z. omega arith) (λ z. omega arith) i))

-- 26 and 27 are those of one that breaks its message
pub spoilt_note : (k : BlockNote) (n : ℕ) → (n ≡ 26) ⊎ (n ≡ 27) → block_note k ≡ n → told_by k ≡ own.spoilt
spoilt_note k n i e =
    by_note (λ j a. block_note j ≡ n → a ≡ own.spoilt) (λ z. absurd (⊎_elim (λ y. omega arith) (λ y. omega arith) i))
    (λ j a b z. absurd (⊎_elim (λ y. omega arith) (λ y. omega arith) i)) (λ j a z. refl) k e

-- ---- the note of a call

passing_note : (z : Bool) (c : Terms) (m : Midway) → (passing z c m).note ≡ m.note
passing_note false c m = refl
passing_note true c m = refl

-- a block went up, or the note is that of what the line remarks
abbrev Rising : List exchange.Call → Note → Note → Type 0
Rising ks n said = ((h : List ℕ) × (d : List ℕ) × Among (exchange.block h d) ks) ⊎ (said ≡ n)

said_note : (u : Link) (room : List ℕ) (n : Note) (ks : List exchange.Call) (m : Midway) → Said u room n ks m → Rising ks n m.note
said_note u room n _ _ silent = inr refl
said_note u room n _ _ (judged h d) = inl (h, d, here)
said_note u room n _ _ put_out = inr refl
said_note u room n _ _ sent = inr refl
said_note u room n _ _ failed = inr refl

module _ (t : Track) (m : Made) where
  abbrev u : Link
  u = t.link

  -- as the transactions note it, where the line tells e
  abbrev noted_at : Told → ℕ
  noted_at e = note_number (hearing e (step_in u m.call).step.remark (hears u (step_in u m.call)) (lent t m)).midway.note

  accepted_note : Accepted t m → noted t m ≡ noted_at (step_in u m.call).step.told
  accepted_note a = ap note_number ((accepted_says t m a).0 ∙ passing_note (ticks m.call) (terms_in t) _)

  -- a block's is its judge's
  pub up_noted : (h d : List ℕ) → GoesUp t m h d → noted t m ≡ block_note (judge_of (terms_in t) u.exchange h d (lent t m)).answer.note
  up_noted h d g =
      let w = ((told_exactly t m).block h d).0 g in
      accepted_note w.told.accepted
      ∙ ap noted_at w.told.told
      ∙ (λ i. block_note (judge_of (terms_in t) u.exchange (w.header i) (w.rest i) (lent t m)).answer.note)

  abbrev pub Rose : Type 0
  Rose = (h : List ℕ) × (d : List ℕ) × GoesUp t m h d

  -- a block went up, or what the line remarked is noted
  pub remarked : Accepted t m → Rose ⊎ ((answered t m).answer.note ≡ remark_note u m.call)
  remarked a =
      ⊎_elim
      (λ z. inl (z.0, z.1, subst (Among (exchange.block z.0 z.1)) (sym (accepted_calls t m a)) (front_among (exchange.block z.0 z.1) _ (itself m.call) z.2)))
      (λ e. inr ((accepted_says t m a).0 ∙ passing_note (ticks m.call) (terms_in t) _ ∙ e))
      (said_note u (lent t m) (remark_note u m.call) _ _ (step_said u (lent t m) m.call))

  pub rises : Accepted t m → Rose ⊎ (noted t m ≡ note_number (remark_note u m.call))
  rises a = ⊎_elim (λ g. inl g) (λ e. inr (ap note_number e)) (remarked a)

  -- where none went up
  remark_noted : (r : Remark) → Remarks t m r → ((h d : List ℕ) → GoesUp t m h d → ⊥) → noted t m ≡ note_number (note_by r)
  remark_noted r z without = ⊎_elim (λ g. absurd (without g.0 g.1 g.2)) (λ e. e ∙ ap (λ (q : Remark). note_number (note_by q)) z.remark) (rises z.accepted)

  -- as where a NAK is noted
  nak_noted : (r : Remark) → unnoted r ≡ false → Remarks t m r → noted t m ≡ note_number (note_by r)
  nak_noted r n z =
      remark_noted r z
      (λ h d g.
      let w = ((told_exactly t m).block h d).0 g in
      false≢true (sym n ∙ sym (ap unnoted z.remark) ∙ ap unnoted (up_unremarked u m.call w.size w.told.told)))

  -- or nothing
  none_up : noted t m ≡ 20 → (h d : List ℕ) → GoesUp t m h d → ⊥
  none_up e h d g =
      let k = (judge_of (terms_in t) u.exchange h d (lent t m)).answer.note in
      omega (arith, up_noted h d g, from_21 k)

  -- the note is the one of what is remarked
  noted_by : (r : Remark) → Remarks t m r → noted t m ≡ note_number (note_by r) → Noted t m (note_number (note_by r))
  noted_by remark.Nothing z e = nothing remark.Nothing (none_up e) z refl
  noted_by remark.GaveWay z e = nothing remark.GaveWay (none_up e) z refl
  noted_by remark.NoLength z e = no_length z
  noted_by remark.Gap z e = gap z
  noted_by (remark.Bad fault.Length) z e = bad_length z
  noted_by (remark.Bad (fault.Sum came counted)) z e = bad_sum came counted z

unnoted_note : (r : Remark) → unnoted r ≡ true → note_number (note_by r) ≡ 20
unnoted_note remark.Nothing e = refl
unnoted_note remark.GaveWay e = refl
unnoted_note remark.NoLength e = absurd (false≢true e)
unnoted_note remark.Gap e = absurd (false≢true e)
unnoted_note (remark.Bad fault) e = absurd (false≢true e)

module _ (t : Track) (w : Reached t) (m : Made) where
  -- a block's is by the seven rules
  pub by_block : (h d : List ℕ) → GoesUp t m h d → (n : ℕ) → (noted t m ≡ n) ↔ Ruled (terms_in t) t.link.exchange h d n
  by_block h d g n =
      let x = t.link.exchange in
      let r = notes_exactly (terms_in t) x h d (lent t m) (four_places x (sound_inside t w)) n in
      let e = up_noted t m h d g in
      (λ z. r.0 (sym e ∙ z), λ z. e ∙ r.1 z)

  accepted_noted : Accepted t m → Noted t m (noted t m)
  accepted_noted a =
      ⊎_elim (λ g. block g.0 g.1 (noted t m) g.2 ((by_block g.0 g.1 g.2 (noted t m)).0 refl))
      (λ e. subst (Noted t m) (sym e) (noted_by t m (step_in t.link m.call).step.remark (record { accepted = a; remark = refl }) e)) (rises t m a)

  noted_so : Noted t m (noted t m)
  noted_so =
      either (accepted (answered t m).answer.outcome) (λ z. Noted t m (noted t m)) accepted_noted
      (λ r. subst (Noted t m) (sym (ap note_number (refused_says t m r).0)) (refused r))

  so_noted : {n : ℕ} → Noted t m n → noted t m ≡ n
  so_noted (refused r) = ap note_number (refused_says t m r).0
  so_noted (nothing r without z e) = remark_noted t m r z without ∙ unnoted_note r e
  so_noted (block h d n g r) = (by_block h d g n).1 r
  so_noted (no_length z) = nak_noted t m remark.NoLength refl z
  so_noted (gap z) = nak_noted t m remark.Gap refl z
  so_noted (bad_length z) = nak_noted t m (remark.Bad fault.Length) refl z
  so_noted (bad_sum came counted z) = nak_noted t m (remark.Bad (fault.Sum came counted)) refl z

pub notes_lifted : NotesLifted
notes_lifted t w m n = (λ e. subst (Noted t m) e (noted_so t w m), λ z. so_noted t w m z)

-- ---- 21 to 27

-- no remark has such a note
outside : (r : Remark) → 21 ≤ note_number (note_by r) → note_number (note_by r) ≤ 27 → ⊥
outside remark.Nothing a b = omega arith
outside remark.GaveWay a b = omega arith
outside remark.NoLength a b = omega arith
outside remark.Gap a b = omega arith
outside (remark.Bad fault.Length) a b = omega arith
outside (remark.Bad (fault.Sum came counted)) a b = omega arith

-- so a block went up
pub rose : (t : Track) (m : Made) → 21 ≤ noted t m → noted t m ≤ 27 → Rose t m
rose t m a b =
    either (accepted (answered t m).answer.outcome) (λ z. Rose t m)
    (λ z.
    ⊎_elim (λ g. g) (λ e. absurd (outside (step_in t.link m.call).step.remark (subst (λ k. 21 ≤ k) e a) (subst (λ k. k ≤ 27) e b))) (rises t m z))
    (λ r. absurd (omega (arith, ap note_number (refused_says t m r).0)))
