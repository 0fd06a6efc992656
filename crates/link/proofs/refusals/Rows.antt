-- Which calls are refused, and what a refused call leaves (`specs/Refusals.antt`). Assumes nothing.
use Rattle.std.specs.Prelude.{Ok, Err}
use Prim.Native.Nat.{ℕ}
use mathlib.Core.Path.{◌≡◌, refl, sym, ap, subst, ◌∙◌}
use mathlib.Core.Bool.{Bool, true, false, cond, true≢false}
use mathlib.Core.List.{List, []}
use mathlib.Core.Logic.{◌↔◌}
use native.Mathlib.Omega.{arith}
use lib.Dec.{ltb, eqb}
use lib.ListN.{length}
use borrow.Author.Tests.{ltb-true, ltb-false, eqb-true, eqb-false}
use Rattle.wire.proofs.Choice.{judged, chosen}
use Rattle.exchange.specs.Request.{Request, lends as lends_to, asked_number}
use Rattle.exchange.specs.Rules.{Fours}
use Rattle.exchange.specs.Refusals.{numbered}
use Rattle.exchange.proofs.Refusing.{request_exactly}
use Rattle.link.specs.Answer.{outcome_number}
use Rattle.link.specs.State.{refused_as, link_in_range, output_short, room_fits, gate_of}
use Rattle.link.specs.Run.{Left, left, stepped, byte_stepped, byte_step, tick_step, drained_step}
use Rattle.link.specs.Call.{through, gated, frees, free_call, request_by}
use Rattle.link.specs.History.{Call, byte, tick, drained, request, called}
use Rattle.link.specs.Refusals.{Untouched, RefusedChangesNothing, lends, OutputShort, RoomWrong, OutOfRange, Passes, RuledBehind, Ruled, ruled_1, ruled_2, ruled_3, ruled_behind, RefusalTable}
use Rattle.link.specs.declared.Answer.{Answer}
use Rattle.link.specs.declared.Refusal.{Refusal}
use Rattle.link.specs.declared.Refusal.TheVariants as refusal
use Rattle.link.specs.declared.Outcome.{Outcome}
use Rattle.link.specs.declared.Outcome.TheVariants as outcome
use Rattle.link.specs.declared.Link.{Link}
use Rattle.link.proofs.Cases.{by_byte, by_answer, answering, behind_by}
use Rattle.link.proofs.refusals.Ranges.{link_fits}

-- ---- a call, row by row

-- what a call leaves that passes 1, 2 and 3
abbrev pub behind : Link → List ℕ → List ℕ → Call → Left
behind u room o (byte b fits) = byte_stepped u (byte_step u b) room o
behind u room o tick = stepped true u (tick_step u) room o
behind u room o drained = stepped false u (drained_step u) room o
behind u room o (request r) = behind_by (lends_to r) u r room o

-- what holds of what is left in each row, l being left where none of them refuses
pub record Rows (u : Link) (room o : List ℕ) (k : Call) (P : Left → Type 0) (l : Left) : Type 0 where
  pub row_1 : OutputShort k o → P (left (refused_as u refusal.OutputShort) room o)
  pub row_2 : (OutputShort k o → ⊥) → RoomWrong k room → P (left (refused_as u refusal.RoomSize) room o)
  pub row_3 : (OutputShort k o → ⊥) → (RoomWrong k room → ⊥) → OutOfRange u → P (left (refused_as u refusal.State) room o)
  pub rest : Passes u room o k → P l

module _ (u : Link) (room o : List ℕ) (k : Call) (P : Left → Type 0) where
  -- refusals 1, 2 and 3
  by_lent : (l : Left) → lends k ≡ true → Rows u room o k P l → P (gated u room o l)
  unfolding gate_of output_short room_fits
  by_lent l lent rows =
      chosen (λ g. P (through g u room o l)) (ltb (length o) 257) _ _ (λ e. rows.row_1 (record { lent = lent; short = ltb-true _ _ e }))
      (λ e.
      let long : OutputShort k o → ⊥ = λ s. absurd (omega (arith, s.short, ltb-false (length o) 257 e)) in
      chosen (λ g. P (through g u room o l)) (eqb (length room) 36864) _ _
      (λ r.
      let right : RoomWrong k room → ⊥ = λ w. w.wrong (eqb-true _ _ r) in
      judged (link_in_range u) (link_fits u) (λ t. P (through (cond t (Ok tt) (Err refusal.State)) u room o l))
      (λ f. rows.rest (record { not_short = long; not_wrong = right; fits = f })) (rows.row_3 long right))
      (λ r. rows.row_2 long (record { lent = lent; wrong = eqb-false _ _ r })))

  -- 3 alone
  by_range : (a : Answer) → lends k ≡ false → Rows u room o k P (left a room o) → P (left (cond (link_in_range u) a (refused_as u refusal.State)) room o)
  by_range a lent rows =
      let long : OutputShort k o → ⊥ = λ s. true≢false (sym s.lent ∙ lent) in
      let right : RoomWrong k room → ⊥ = λ w. true≢false (sym w.lent ∙ lent) in
      judged (link_in_range u) (link_fits u) (λ t. P (left (cond t a (refused_as u refusal.State)) room o))
      (λ f. rows.rest (record { not_short = long; not_wrong = right; fits = f })) (rows.row_3 long right)

-- what holds in each row holds of the call
pub by_rows : (u : Link) (room o : List ℕ) (k : Call) (P : Left → Type 0) → Rows u room o k P (behind u room o k) → P (called u room o k)
unfolding free_call
by_rows u room o (byte b fits) P = by_lent u room o (byte b fits) P (behind u room o (byte b fits)) refl
by_rows u room o tick P = by_lent u room o tick P (behind u room o tick) refl
by_rows u room o drained P = by_lent u room o drained P (behind u room o drained) refl
by_rows u room o (request r) P = by (lends_to r) refl
  where
    by : (t : Bool) → lends_to r ≡ t → Rows u room o (request r) P (behind_by t u r room o) → P (request_by t u r room o)
    by true l = by_lent u room o (request r) P (behind_by true u r room o) l
    by false l = by_range u room o (request r) P (frees u (answering u r []).answer) l

-- the same where it does not matter which of 1, 2 and 3 refuses
pub by_passing :
    (u : Link) (room o : List ℕ) (k : Call) (P : Left → Type 0) → ((r : Refusal) → P (left (refused_as u r) room o))
    → (Passes u room o k → P (behind u room o k)) → P (called u room o k)
by_passing u room o k P refuse pass = by_rows u room o k P (record {
  row_1 = λ s. refuse refusal.OutputShort;
  row_2 = λ m w. refuse refusal.RoomSize;
  row_3 = λ m w f. refuse refusal.State;
  rest = pass;
})

-- ---- what a refused call leaves

-- what is left where the outcome is a refusal
abbrev Nothing : Link → List ℕ → List ℕ → Left → Type 0
Nothing u room o l = (r : Refusal) → l.answer.outcome ≡ outcome.Refused r → l ≡ left (refused_as u r) room o

-- a byte that is not refused is done
pub byte_done : (u : Link) (room o : List ℕ) (b : ℕ) → (byte_stepped u (byte_step u b) room o).answer.outcome ≡ outcome.Done
byte_done u room o b = by_byte (λ p l. l.answer.outcome ≡ outcome.Done) u (byte_step u b) room o (λ e. refl) (λ c e. refl) (λ e. refl)

-- what is done, or taken, is not refused
not_done : (t : Outcome) → t ≡ outcome.Done → (r : Refusal) → t ≡ outcome.Refused r → ⊥
not_done t d r e = let z : ◌≡◌ {A = ℕ} 0 1 = cc in omega arith

not_taken : (p : ℕ) (r : Refusal) → outcome.Taken p ≡ outcome.Refused r → ⊥
not_taken p r e = let z : ◌≡◌ {A = ℕ} 0 1 = cc in omega arith

module _ (u : Link) (room o : List ℕ) where
  refused_so : (q : Refusal) → Nothing u room o (left (refused_as u q) room o)
  refused_so q r e = let same : q ≡ r = cc in ap (λ (s : Refusal). left (refused_as u s) room o) same

  behind_nothing : (k : Call) → Nothing u room o (behind u room o k)
  behind_nothing (byte b fits) = λ r e. absurd (not_done _ (byte_done u room o b) r e)
  behind_nothing tick = λ r e. absurd (not_done outcome.Done refl r e)
  behind_nothing drained = λ r e. absurd (not_done outcome.Done refl r e)
  behind_nothing (request q) =
      by_answer u q room o (Nothing u room o) (λ n e. refused_so (refusal.Request n)) (λ p e l r f. absurd (not_taken p r f))
      (λ p e l r f. absurd (not_taken p r f)) (lends_to q) refl

  nothing : (k : Call) → Nothing u room o (called u room o k)
  nothing k = by_passing u room o k (Nothing u room o) refused_so (λ w. behind_nothing k)

pub refused_changes_nothing : RefusedChangesNothing
refused_changes_nothing u room o k r e =
    let w = nothing u room o k r e in
    record {
      whole = w;
      parts = subst (Untouched u room o) (sym w) (record { count = refl; note = refl; flags = refl; state = refl; bytes = refl; output = refl });
    }

-- ---- the table

-- 0 alone
only_zero : (a n : ℕ) → a ≡ 0 → (a ≡ n) ↔ (n ≡ 0)
only_zero a n e = (λ f. sym f ∙ e, λ z. e ∙ sym z)

module _ (u : Link) (room o : List ℕ) where
  -- the number of a request is the transactions'
  request_number : (r : Request) → outcome_number (behind u room o (request r)).answer.outcome ≡ numbered (answering u r room).answer
  request_number r =
      by_answer u r room o (λ l. outcome_number l.answer.outcome ≡ numbered (answering u r room).answer) (λ n e. sym (ap asked_number e))
      (λ p e l. sym (ap asked_number e)) (λ p e l. sym (ap asked_number e)) (lends_to r) refl

  number_behind : (k : Call) → Fours u.exchange → (n : ℕ) → (outcome_number (behind u room o k).answer.outcome ≡ n) ↔ RuledBehind u k n
  number_behind (byte b fits) four n = only_zero _ n (ap outcome_number (byte_done u room o b))
  number_behind tick four n = only_zero 0 n refl
  number_behind drained four n = only_zero 0 n refl
  number_behind (request r) four n =
      let w = request_exactly u.settings.terms u.exchange r room four n in
      (λ e. w.0 (sym (request_number r) ∙ e), λ f. request_number r ∙ w.1 f)

  module _ (k : Call) where
    -- where a row applies, its number is the only one
    in_row_1 : OutputShort k o → {n : ℕ} → Ruled u room o k n → ◌≡◌ {A = ℕ} 1 n
    in_row_1 s (ruled_1 t) = refl
    in_row_1 s (ruled_2 m w) = absurd (m s)
    in_row_1 s (ruled_3 m w f) = absurd (m s)
    in_row_1 s (ruled_behind p r) = absurd (p.not_short s)

    in_row_2 : (OutputShort k o → ⊥) → RoomWrong k room → {n : ℕ} → Ruled u room o k n → ◌≡◌ {A = ℕ} 2 n
    in_row_2 m w (ruled_1 t) = absurd (m t)
    in_row_2 m w (ruled_2 a b) = refl
    in_row_2 m w (ruled_3 a b f) = absurd (b w)
    in_row_2 m w (ruled_behind p r) = absurd (p.not_wrong w)

    in_row_3 : (OutputShort k o → ⊥) → (RoomWrong k room → ⊥) → OutOfRange u → {n : ℕ} → Ruled u room o k n → ◌≡◌ {A = ℕ} 3 n
    in_row_3 m w f (ruled_1 t) = absurd (m t)
    in_row_3 m w f (ruled_2 a b) = absurd (w b)
    in_row_3 m w f (ruled_3 a b g) = refl
    in_row_3 m w f (ruled_behind p r) = absurd (f p.fits)

    behind_rows : Passes u room o k → {n : ℕ} → Ruled u room o k n → RuledBehind u k n
    behind_rows p (ruled_1 t) = absurd (p.not_short t)
    behind_rows p (ruled_2 a b) = absurd (p.not_wrong b)
    behind_rows p (ruled_3 a b f) = absurd (f p.fits)
    behind_rows p (ruled_behind q r) = r

pub refusal_table : RefusalTable
refusal_table u room o k four n =
    by_rows u room o k (λ l. (outcome_number l.answer.outcome ≡ n) ↔ Ruled u room o k n) (record {
      row_1 = λ s. (λ e. subst (Ruled u room o k) e (ruled_1 s), in_row_1 u room o k s);
      row_2 = λ m w. (λ e. subst (Ruled u room o k) e (ruled_2 m w), in_row_2 u room o k m w);
      row_3 = λ m w f. (λ e. subst (Ruled u room o k) e (ruled_3 m w f), in_row_3 u room o k m w f);
      rest = λ p.
          let w = number_behind u room o k four n in
          (λ e. ruled_behind p (w.0 e), λ r. w.1 (behind_rows u room o k p r));
    })
