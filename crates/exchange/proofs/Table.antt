-- The numbers of `specs/Table.antt`, by computing. Assumes nothing.
use mathlib.Core.Path.{refl}
use Rattle.exchange.specs.Table.{NoteNumbers, RefusalNumbers}

pub note_numbers : NoteNumbers
note_numbers = record { kept = refl; misrouted = refl; duplicate = refl; stray = refl; no_place = refl; too_long_lem = refl; empty = refl }

pub refusal_numbers : RefusalNumbers
refusal_numbers = record { message = refl; data_long = refl; sending = refl; no_place = refl; place = refl; not_wanted = refl; replied = refl }
