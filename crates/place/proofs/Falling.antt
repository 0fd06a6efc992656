-- The verdict of an own place falls in time. Assumes nothing.
use Prim.Native.Nat.{ℕ, ◌+◌, ◌*◌, ◌≤◌}
use mathlib.Core.Path.{◌≡◌, refl}
use mathlib.Core.List.{List, []}
use mathlib.Core.Logic.{◌⊎◌, inl, inr, ⊎_elim}
use native.Mathlib.Omega.{arith}
use native.Mathlib.Nat.{mul-le-mul_right}
use Rattle.wire.specs.Message.{message_limit}
use Rattle.settings.specs.declared.terms.Terms.{Terms}
use Rattle.place.specs.OwnHistory.{Seen}
use Rattle.place.specs.OwnTheorems.{OwnTicked, Received, Decided, VerdictFalls}
use Rattle.place.proofs.OwnInvariant.{At, place_at, meet, is_received, no_block}
use Rattle.place.proofs.OwnAlways.{always}
use Rattle.place.specs.declared.OwnStage.{OwnStage}
use Rattle.place.specs.declared.OwnStage.TheVariants.{Free, Sending, PutOut, Awaiting, Replying, Done}

pub own_ticked : OwnTicked
own_ticked c o s = record { request = refl; header = refl; kept = refl; bytes = refl; spoilt = refl; since = refl; quiet = refl }

-- there is time left: less than T3 + 4096 x T4 + 1 ticks have passed, and less than T3 + 1 if no block is kept
record Early (c : Terms) (s : Seen) : Type 0 where
  in_all : s.since ≤ c.t3.0 + message_limit * c.t4.0
  in_silence : s.kept ≡ [] → s.since ≤ c.t3.0

-- from the ACK on, or from the block that proved the request received, there is a verdict or time left
decided : (c : Terms) (p : OwnStage) (h : List ℕ) (s : Seen) → At c p h s → Received s.request → Decided (meet (place_at h p) s) ⊎ Early c s
decided c Free h s g a = absurd (is_received _ _ g a)
decided c Sending h s g a = absurd (is_received _ _ g.request a)
decided c PutOut h s g a = absurd (is_received _ _ g.request a)
decided c (Awaiting timer) h s g a = inr (record { in_all = omega (arith, g.since, g.within); in_silence = λ e. omega (arith, g.since, g.within) })
decided c (Replying b) h s g a =
    inr (record {
      in_all = omega (arith, g.late, g.arrives.within, mul-le-mul_right c.t4.0 g.arrives.room);
      in_silence = λ e. absurd (no_block s.kept e g.arrives.begun.some);
    })
decided c (Done v r) h s g a = inl (record { verdict = v; shown = refl })

pub verdict_falls : VerdictFalls
verdict_falls c t w =
    let d = decided c t.own.stage t.own.header t.seen (always c t w) in
    record {
      by_limit = λ a n. ⊎_elim (λ x. x) (λ early. absurd (omega (arith, early.in_all))) (d a);
      by_silence = λ a e n. ⊎_elim (λ x. x) (λ early. absurd (omega (arith, early.in_silence e))) (d a);
    }
