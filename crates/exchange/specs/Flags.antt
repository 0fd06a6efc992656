-- "flags for places that got a verdict, completed or were dropped" (01, "Refusal numbers and notes").
use Rattle.std.specs.Prelude.{ℕ, Bool, false, List, replicate, set}
use Rattle.exchange.specs.declared.Flags.{Flags}

abbrev pub no_marks : List Bool
no_marks = replicate 4 false

-- one place's mark
abbrev pub mark_at : ℕ → Bool → List Bool
mark_at p on = set no_marks p on

abbrev pub no_flags : Flags
no_flags = record { verdicts = no_marks; completed = no_marks; dropped = no_marks }

abbrev pub verdict_flag : ℕ → Bool → Flags
verdict_flag p given = record { verdicts = mark_at p given; completed = no_marks; dropped = no_marks }

abbrev pub incoming_flags : ℕ → Bool → Bool → Flags
incoming_flags p done gone = record { verdicts = no_marks; completed = mark_at p done; dropped = mark_at p gone }
