-- Which blocks an own place takes for its reply, and what becomes of each, exactly when. Assumes nothing.
use Prim.Native.Nat.{ℕ}
use mathlib.Core.Path.{◌≡◌, refl, sym, subst, ◌∙◌}
use mathlib.Core.Bool.{true, cond, false≢true}
use mathlib.Core.List.{List}
use mathlib.Core.Logic.{◌↔◌, inl, inr, ⊎_elim}
use native.Mathlib.Omega.{arith}
use Rattle.wire.proofs.Choice.{judged}
use Rattle.header.specs.declared.header.Header.{Header}
use Rattle.settings.specs.declared.terms.Terms.{Terms}
use Rattle.place.specs.Fate.{fate_of}
use Rattle.place.specs.Message.{Routed}
use Rattle.place.specs.Own.{standing_at, kept_at, own_kept, awaits, own_takes}
use Rattle.place.specs.OwnHistory.{Answer, passed, kept, spoilt, answer_by, answer_to, Request, none, underway, out, acknowledged, proved, lost, Seen, Track}
use Rattle.place.specs.OwnTheorems.{Reached, Awaited, Due, Becomes, OwnTakesExactly, AnswerExactly}
use Rattle.place.proofs.Messages.{by_fate}
use Rattle.place.proofs.OwnInvariant.{Unanswered, At, place_at, meet, no_block, HasVerdict, awaits_exactly, goes_on_lem}
use Rattle.place.proofs.OwnAlways.{always}
use Rattle.place.specs.declared.Standing.TheVariants.{Open}
use Rattle.place.specs.declared.OwnStage.{OwnStage}
use Rattle.place.specs.declared.OwnStage.TheVariants.{Free, Sending, PutOut, Awaiting, Replying, Done}

-- ---- whether it is the reply's

-- no reply is awaited where there is no request, before its last block is out, and where it failed
abbrev IsAwaited : Request → Type 0
IsAwaited none = ⊥
IsAwaited underway = ⊥
IsAwaited out = Unit {0}
IsAwaited acknowledged = Unit {0}
IsAwaited proved = Unit {0}
IsAwaited lost = ⊥

is_awaited : (s : Seen) (r : Request) → s.request ≡ r → Awaited s → IsAwaited r
is_awaited s r e w =
    ⊎_elim (λ o. subst IsAwaited (sym o ∙ e) tt) (λ a. ⊎_elim (λ k. subst IsAwaited (sym k ∙ e) tt) (λ k. subst IsAwaited (sym k ∙ e) tt) a.received) w

-- an awaited reply is begun by the blocks that are due, and by no other
first_exactly :
    (c : Terms) (h : List ℕ) (p : OwnStage) (s : Seen) (b : Header) → Unanswered h s → Awaited s → standing_at p ≡ Open
    → awaits (place_at h p) b ≡ true ↔ Due (meet (place_at h p) s) b
first_exactly c h p s b g awaited undecided =
    let w = awaits_exactly h p s b g.header in (
      λ t. record { awaited = awaited; undecided = undecided; fits = inl (g.kept, w.0 t) },
      λ d. ⊎_elim (λ k. w.1 k.1) (λ k. absurd (no_block _ g.kept k.some)) d.fits,
    )

-- a place takes the blocks that are due, and no other
takes_exactly :
    (c : Terms) (h : List ℕ) (p : OwnStage) (s : Seen) (b : Header) → At c p h s → Routed c b
    → own_takes (place_at h p) b ≡ true ↔ Due (meet (place_at h p) s) b
takes_exactly c h Free s b g q = (λ t. absurd (false≢true t), λ d. absurd (is_awaited s _ g d.awaited))
takes_exactly c h Sending s b g q = (λ t. absurd (false≢true t), λ d. absurd (is_awaited s _ g.request d.awaited))
takes_exactly c h PutOut s b g q = first_exactly c h PutOut s b g.unanswered (inl g.request) refl
takes_exactly c h (Awaiting timer) s b g q =
    first_exactly c h (Awaiting timer) s b g.unanswered (inr (record { received = inl g.request; wanted = g.unanswered.wanted })) refl
takes_exactly c h (Replying a) s b g q =
    let w = goes_on_lem c h s a b g q in (
      λ t.
          let k = w.0 t in
          record { awaited = inr g.asked; undecided = refl; fits = inr (record { some = g.arrives.begun.some; device = rw g.header k.0; following = k.1 }) },
      λ d.
          ⊎_elim (λ k. absurd (no_block _ k.0 g.arrives.begun.some)) (λ k. w.1 (rw g.header at k.device, k.following)) d.fits,
    )
takes_exactly c h (Done v r) s b g q = (λ t. absurd (false≢true t), λ d. absurd (subst HasVerdict d.undecided tt))

pub own_takes_exactly : OwnTakesExactly
own_takes_exactly c t w b q = takes_exactly c t.own.header t.own.stage t.seen b (always c t w) q

-- ---- what becomes of it

-- while the reply is awaited, the place counts the bytes kept
bytes_kept : (c : Terms) (h : List ℕ) (p : OwnStage) (s : Seen) (b : Header) → At c p h s → Due (meet (place_at h p) s) b → (kept_at p).length ≡ s.bytes
bytes_kept c h Free s b g d = absurd (is_awaited s _ g d.awaited)
bytes_kept c h Sending s b g d = absurd (is_awaited s _ g.request d.awaited)
bytes_kept c h PutOut s b g d = sym g.unanswered.bytes
bytes_kept c h (Awaiting timer) s b g d = sym g.unanswered.bytes
bytes_kept c h (Replying a) s b g d = g.arrives.size
bytes_kept c h (Done v r) s b g d = absurd (subst HasVerdict d.undecided tt)

-- each answer is as it should be
becomes : (c : Terms) (t : Track) → Reached c t → (b : Header) (size : ℕ) → Routed c b → Becomes t b size (answer_to t.own b size)
unfolding answer_to
becomes c t w b size q =
    let P : Answer → Type 0 = Becomes t b size in
    judged (own_takes t.own b) (own_takes_exactly c t w b q) (λ z. P (cond z (answer_by (fate_of b (own_kept t.own).length size)) passed))
    (λ d.
    rw (bytes_kept c t.own.header t.own.stage t.seen b (always c t w) d)
    (by_fate b t.seen.bytes size (λ f. P (answer_by f)) (λ lacks. (d, inl lacks)) (λ has long. (d, inr long))
    (λ has last fits. (d, ⊎_elim has (λ long. omega arith))) (λ has more fits some. (d, ⊎_elim has (λ long. omega arith)))))
    (λ n. n)

-- one thing becomes of a block
one_answer : (t : Track) (b : Header) (size : ℕ) (x y : Answer) → Becomes t b size x → Becomes t b size y → x ≡ y
one_answer t b size passed passed m n = refl
one_answer t b size passed kept m n = absurd (m n.0)
one_answer t b size passed spoilt m n = absurd (m n.0)
one_answer t b size kept passed m n = absurd (n m.0)
one_answer t b size kept kept m n = refl
one_answer t b size kept spoilt m n = absurd (m.1 n.1)
one_answer t b size spoilt passed m n = absurd (n m.0)
one_answer t b size spoilt kept m n = absurd (n.1 m.1)
one_answer t b size spoilt spoilt m n = refl

pub answer_exactly : AnswerExactly
answer_exactly c t w b size q a =
    let m = becomes c t w b size q in
    (λ e. subst (Becomes t b size) e m, λ n. one_answer t b size _ a m n)
