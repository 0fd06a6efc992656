-- What a call tells the transactions: nothing where it is refused. Assumes nothing.
use mathlib.Core.Path.{◌≡◌, refl, sym, ◌∙◌}
use mathlib.Core.Bool.{true, false, false≢true}
use mathlib.Core.List.{List, []}
use Rattle.exchange.specs.History as exchange
use Rattle.link.specs.Answer.{accepted}
use Rattle.link.specs.History.{Made, unless_refused, on_exchange, Track, answered, on_exchange_in}
use Rattle.link.specs.Verdicts.{Accepted}
use Rattle.link.specs.Moves.{Refused}
use Rattle.link.specs.declared.Outcome.{Outcome}
use Rattle.link.specs.declared.Outcome.TheVariants as outcome

pub by_unless : (P : List exchange.Call → Type 0) (o : Outcome) (ks : List exchange.Call) → (accepted o ≡ true → P ks) → (accepted o ≡ false → P []) → P (unless_refused o ks)
by_unless P outcome.Done ks went stopped = went refl
by_unless P (outcome.Taken p) ks went stopped = went refl
by_unless P (outcome.Refused r) ks went stopped = stopped refl

module _ (t : Track) (m : Made) where
  -- what holds of a call that goes through and of one that is refused
  pub by_outcome : (P : List exchange.Call → Type 0) → (Accepted t m → P (on_exchange t.link m.call)) → (Refused t m → P []) → P (on_exchange_in t m)
  by_outcome P went stopped = by_unless P (answered t m).answer.outcome (on_exchange t.link m.call) went stopped

  pub accepted_calls : Accepted t m → on_exchange_in t m ≡ on_exchange t.link m.call
  accepted_calls a = by_outcome (λ ks. ks ≡ on_exchange t.link m.call) (λ e. refl) (λ r. absurd (false≢true (sym r ∙ a)))

  pub refused_calls : Refused t m → on_exchange_in t m ≡ []
  refused_calls r = by_outcome (λ ks. ks ≡ []) (λ a. absurd (false≢true (sym r ∙ a))) (λ e. refl)
