-- The numbers of `specs/Table.antt`, by computing. Assumes nothing.
use mathlib.Core.Path.{refl}
use Rattle.place.specs.Table.{VerdictNumbers}

pub verdict_numbers : VerdictNumbers
verdict_numbers = record { undecided = refl; sent = refl; answered = refl; declined = refl; other = refl; broken = refl; no_reply = refl; send_failed = refl }
