-- What a request comes to: taken, for this place, or refused.
use Rattle.std.specs.Prelude.{ℕ, Result}
use Rattle.exchange.specs.declared.Refusal.{Refusal}

abbrev pub Asked : Type 0
Asked = Result ℕ Refusal
