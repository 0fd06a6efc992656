-- The closed runs of `specs/Table.antt`, by computing. Assumes nothing.
use mathlib.Core.Path.{refl}
use Rattle.wire.specs.Sum.{sum_with}
use Rattle.settings.specs.Panel.{between}
use Rattle.settings.specs.Timer.{ticked}
use Rattle.line.specs.Line.{spent, retry_of, holding, eot_byte, ack_byte, length_byte, low_byte, body_byte, idle_byte, settle_idle}
use Rattle.line.specs.History.{track}
use Rattle.line.specs.Table.{all_out, CodesTable, NotesTable, ListingOut, attempt, four_attempts, LimitMet}

pub codes_table : CodesTable
unfolding track all_out ticked sum_with holding eot_byte ack_byte between length_byte low_byte body_byte idle_byte settle_idle
codes_table = record { unasked = refl; enq = refl; eot = refl; ack = refl; nak = refl; eot_taken = refl; ack_taken = refl }

pub notes_table : NotesTable
notes_table = record { nothing = refl; no_length = refl; gap = refl; bad_length = refl; bad_sum = λ received counted. refl }

pub listing_out : ListingOut
unfolding all_out sum_with holding eot_byte ack_byte between length_byte low_byte body_byte idle_byte settle_idle
listing_out = refl

pub limit_met : LimitMet
unfolding track ticked holding spent retry_of eot_byte ack_byte settle_idle attempt four_attempts
limit_met = record { limit = refl; before = refl; under_way_lem = refl; four_enqs = refl; fails = refl; met = refl; over = refl }
