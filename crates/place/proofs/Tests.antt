-- What is asked of a place is what it shows. Assumes nothing.
use mathlib.Core.Path.{◌≡◌, refl, ap}
use mathlib.Core.Bool.{true, false, false≢true}
use mathlib.Core.Logic.{◌↔◌}
use Rattle.header.specs.declared.header.Header.{Header}
use Rattle.place.specs.Own.{free_by, given_by, own_standing}
use Rattle.place.specs.OwnTheorems.{OwnTests}
use Rattle.place.specs.IncomingHistory.{Shows, nothing, arriving, complete, replying, replied}
use Rattle.place.specs.IncomingTheorems.{IncomingTested, IncomingTests}
use Rattle.place.specs.declared.Verdict.{Verdict}
use Rattle.place.specs.declared.Standing.{Standing}
use Rattle.place.specs.declared.Standing.TheVariants as standing
use Rattle.place.specs.declared.End.{End}
use Rattle.place.specs.declared.IncomingStage.{IncomingStage}
use Rattle.place.specs.declared.IncomingStage.TheVariants.{Free, Open, Complete, Replying, Replied}

-- the test is true, and so it is; it is false, and it is not so
so : {A : Type 0} → A → (true ≡ true) ↔ A
so a = (λ e. a, λ x. refl)

not_so : {A : Type 0} → (A → ⊥) → (false ≡ true) ↔ A
not_so n = (λ e. absurd (false≢true e), λ a. absurd (n a))

-- ---- of an own place

free_by_lem : (z : Standing) → (free_by z ≡ true) ↔ (z ≡ standing.Free)
free_by_lem standing.Free = so refl
free_by_lem standing.Open = not_so (λ e. false≢true (ap free_by e))
free_by_lem (standing.Given v) = not_so (λ e. false≢true (ap free_by e))

given_by_lem : (z : Standing) → (given_by z ≡ true) ↔ ((v : Verdict) × (z ≡ standing.Given v))
given_by_lem standing.Free = not_so (λ w. false≢true (ap given_by w.1))
given_by_lem standing.Open = not_so (λ w. false≢true (ap given_by w.1))
given_by_lem (standing.Given v) = so (v, refl)

pub own_tests : OwnTests
own_tests o = record { free = free_by_lem (own_standing o); given = given_by_lem (own_standing o) }

-- ---- of an incoming one

-- our reply is not at its end where none was accepted, or where it is on its way
abbrev Ended : Shows → Type 0
Ended z = (e : End) × (z ≡ replied e)

none_ended : Ended nothing → ⊥
none_ended w = let e : nothing ≡ replied w.0 = w.1 in false≢true cc

arriving_ended : Ended arriving → ⊥
arriving_ended w = let e : arriving ≡ replied w.0 = w.1 in false≢true cc

complete_ended : Ended complete → ⊥
complete_ended w = let e : complete ≡ replied w.0 = w.1 in false≢true cc

replying_ended : Ended replying → ⊥
replying_ended w = let e : replying ≡ replied w.0 = w.1 in false≢true cc

-- by its stage
at_stage : (s : IncomingStage) (h : Header) → IncomingTested (record { header = h; stage = s })
at_stage Free h =
    record { free = so refl; open_yet = not_so (λ e. false≢true cc); unanswered = not_so (λ e. false≢true cc); ended = not_so none_ended; none_kept = λ e. refl }
at_stage (Open a) h =
    record { free = not_so (λ e. false≢true cc); open_yet = so refl; unanswered = not_so (λ e. false≢true cc); ended = not_so arriving_ended; none_kept = λ e. absurd (false≢true cc) }
at_stage (Complete n) h =
    record { free = not_so (λ e. false≢true cc); open_yet = not_so (λ e. false≢true cc); unanswered = so refl; ended = not_so complete_ended; none_kept = λ e. absurd (false≢true cc) }
at_stage (Replying n) h =
    record { free = not_so (λ e. false≢true cc); open_yet = not_so (λ e. false≢true cc); unanswered = not_so (λ e. false≢true cc); ended = not_so replying_ended; none_kept = λ e. absurd (false≢true cc) }
at_stage (Replied n f) h =
    record { free = not_so (λ e. false≢true cc); open_yet = not_so (λ e. false≢true cc); unanswered = not_so (λ e. false≢true cc); ended = so (f, refl); none_kept = λ e. absurd (false≢true cc) }

pub incoming_tests : IncomingTests
incoming_tests i = at_stage i.stage i.header
