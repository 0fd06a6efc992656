-- Flags tell of the places what changed. Assumes nothing.
use Prim.Native.Nat.{ℕ, ◌<◌}
use mathlib.Core.Path.{◌≡◌, refl, sym, ap, ◌∙◌, subst}
use mathlib.Core.Bool.{Bool, true, false, not, ◌&&◌, false≢true}
use mathlib.Core.List.{List}
use mathlib.Core.Logic.{◌↔◌, ◌⊎◌, ⊎_elim}
use native.Mathlib.Omega.{arith}
use lib.ListN.{length, get_or, set, get_or-replicate}
use lib.Seq.{get_or-set_same, get_or-set_other}
use Rattle.header.specs.declared.header.Header.{Header}
use Rattle.place.specs.Own.{fresh_own, own_has_verdict}
use Rattle.place.specs.Incoming.{fresh_incoming, incoming_is_complete}
use Rattle.place.specs.declared.IncomingStage.{IncomingStage}
use Rattle.place.specs.declared.IncomingStage.TheVariants as arrival
use Rattle.place.specs.declared.Own.{Own}
use Rattle.place.specs.declared.Incoming.{Incoming}
use Rattle.exchange.specs.Flags.{no_marks, mark_at, no_flags, verdict_flag, incoming_flags}
use Rattle.exchange.specs.Exchange.{own_place, incoming_place, got_verdict}
use Rattle.exchange.specs.Theorems.{flag_at, became_given, became_complete, Dropped, Flagged}
use Rattle.exchange.proofs.Tables.{set_every}
use Rattle.exchange.specs.declared.Flags.{Flags}
use Rattle.exchange.specs.declared.Exchange.{Exchange}

-- nothing is got by a place that stays as it is
pub stays : (t : Bool) → not t && t ≡ false
stays true = refl
stays false = refl

no_verdict : (o : Own) → became_given o o ≡ false
unfolding became_given
no_verdict o = stays (own_has_verdict o)

not_completed : (i : Incoming) → became_complete i i ≡ false
unfolding became_complete
not_completed i = stays (incoming_is_complete i)

-- no message is dropped in a place that stays as it is
not_dropped : (h : Header) (s : IncomingStage) → Dropped (record { header = h; stage = s }) (record { header = h; stage = s }) → ⊥
not_dropped h arrival.Free d = false≢true d.was_open
not_dropped h (arrival.Open a) d = false≢true d.is_free
not_dropped h (arrival.Complete n) d = false≢true d.was_open
not_dropped h (arrival.Replying n) d = false≢true d.was_open
not_dropped h (arrival.Replied n e) d = false≢true d.was_open

-- no flag of four is raised
pub unmarked : (p : ℕ) → p < 4 → flag_at no_marks p ≡ false
unmarked p k = get_or-replicate 4 p false false k

-- one flag of four
pub marked_here : (p : ℕ) (on : Bool) → p < 4 → flag_at (mark_at p on) p ≡ on
marked_here p on k = get_or-set_same no_marks p on false k

marked_else : (q : ℕ) (on : Bool) (p : ℕ) → p < 4 → (p ≡ q → ⊥) → flag_at (mark_at q on) p ≡ false
marked_else q on p k ne = get_or-set_other no_marks q p on false ne ∙ unmarked p k

-- the places that a new primary throws a message out of are flagged
abbrev pub Forced : (ℕ → Type 0) → Flags → Type 0
Forced T f = (p : ℕ) → p < 4 → T p → flag_at f.dropped p ≡ true

-- ---- a test that no place meets which stays as it is

module _ {A : Type 0} (fresh : A) (got : A → A → Bool) (still : (a : A) → got a a ≡ false) (l k : List A) where
  -- no place changes, and no flag is raised
  none_got : l ≡ k → (p : ℕ) → p < 4 → flag_at no_marks p ≡ got (get_or l p fresh) (get_or k p fresh)
  none_got same p w = unmarked p w ∙ sym (subst (λ j. got (get_or l p fresh) (get_or j p fresh) ≡ false) same (still (get_or l p fresh)))

  -- place q is put anew, and its flag tells
  one_got : length l ≡ 4 → (q : ℕ) (a : A) (on : Bool) → k ≡ set l q a → on ≡ got (get_or l q fresh) a
      → (p : ℕ) → p < 4 → flag_at (mark_at q on) p ≡ got (get_or l p fresh) (get_or k p fresh)
  one_got four q a on put e p w =
      subst (λ j. flag_at (mark_at q on) p ≡ got (get_or l p fresh) (get_or j p fresh)) (sym put)
      (set_every (λ p b. p < 4 → flag_at (mark_at q on) p ≡ got (get_or l p fresh) b) l fresh q a
      (λ p i ne w. marked_else q on p w ne ∙ sym (still (get_or l p fresh))) (λ w. marked_here q on w ∙ e) p (omega arith) w)

-- ---- what a call makes of the places

-- no message is dropped where the incoming places are as they were
none_dropped : (x y : Exchange) (f : Flags) (T : ℕ → Type 0) → x.incoming ≡ y.incoming → f.dropped ≡ no_marks → Forced T f
    → (p : ℕ) → p < 4 → (flag_at f.dropped p ≡ true) ↔ (Dropped (incoming_place x p) (incoming_place y p) ⊎ T p)
none_dropped x y f T same none forced p k = (
  λ e. absurd (false≢true (sym (ap (λ (m : List Bool). flag_at m p) none ∙ unmarked p k) ∙ e)),
  ⊎_elim
      (λ d. absurd (not_dropped (incoming_place x p).header (incoming_place x p).stage (subst (λ is. Dropped (incoming_place x p) (get_or is p fresh_incoming)) (sym same) d)))
      (forced p k),
)

-- a call that changes no place raises no flag
pub unflagged : (x y : Exchange) (T : ℕ → Type 0) → x.own ≡ y.own → x.incoming ≡ y.incoming → Forced T no_flags → Flagged x y T no_flags
unflagged x y T o i forced =
    record {
      verdicts = none_got fresh_own became_given no_verdict x.own y.own o;
      completed = none_got fresh_incoming became_complete not_completed x.incoming y.incoming i;
      dropped = none_dropped x y no_flags T i refl forced;
    }

-- an own place is put anew
pub own_flagged : (x y : Exchange) (T : ℕ → Type 0) (q : ℕ) (o : Own) → length x.own ≡ 4 → y.own ≡ set x.own q o → x.incoming ≡ y.incoming
    → Forced T (verdict_flag q (got_verdict (own_place x q) o)) → Flagged x y T (verdict_flag q (got_verdict (own_place x q) o))
unfolding got_verdict became_given
own_flagged x y T q o four put i forced =
    let f : Flags = verdict_flag q (got_verdict (own_place x q) o) in
    record {
      verdicts = one_got fresh_own became_given no_verdict x.own y.own four q o _ put refl;
      completed = none_got fresh_incoming became_complete not_completed x.incoming y.incoming i;
      dropped = none_dropped x y f T i refl forced;
    }

-- an incoming place is put anew
pub incoming_flagged : (x y : Exchange) (T : ℕ → Type 0) (q : ℕ) (i : Incoming) (done gone : Bool) → length x.incoming ≡ 4 → x.own ≡ y.own
    → y.incoming ≡ set x.incoming q i
    → done ≡ became_complete (incoming_place x q) i
    → (Dropped (incoming_place x q) i → gone ≡ true)
    → (gone ≡ true → Dropped (incoming_place x q) i ⊎ T q)
    → Forced T (incoming_flags q done gone) → Flagged x y T (incoming_flags q done gone)
incoming_flagged x y T q i done gone four o put complete drops only forced =
    let f : Flags = incoming_flags q done gone in
    record {
      verdicts = none_got fresh_own became_given no_verdict x.own y.own o;
      completed = one_got fresh_incoming became_complete not_completed x.incoming y.incoming four q i done put complete;
      dropped = λ p k.
          subst (λ is. (flag_at f.dropped p ≡ true) ↔ (Dropped (incoming_place x p) (get_or is p fresh_incoming) ⊎ T p)) (sym put)
          (set_every (λ p (a : Incoming). p < 4 → (flag_at f.dropped p ≡ true) ↔ (Dropped (incoming_place x p) a ⊎ T p)) x.incoming fresh_incoming q i
          (λ p l ne k. (
            λ e. absurd (false≢true (sym (marked_else q gone p k ne) ∙ e)),
            ⊎_elim (λ d. absurd (not_dropped (incoming_place x p).header (incoming_place x p).stage d)) (forced p k),
          ))
          (λ k. (λ e. only (sym (marked_here q gone k) ∙ e), ⊎_elim (λ d. marked_here q gone k ∙ drops d) (forced q k)))
          p
          (omega arith)
          k);
    }
