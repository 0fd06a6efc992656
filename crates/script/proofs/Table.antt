-- 01's commands: all definitions on the way from a line to its command are run. Assumes nothing.
use mathlib.Core.Path.{refl}
use Rattle.text.specs.Find.{index_after, index_of}
use Rattle.wire.specs.Lent.{splice, on_front}
use Rattle.text.specs.Field.{field_of, behind_of, letter_of}
use Rattle.text.specs.Number.{number_of, with_digits, with_digit}
use Rattle.text.specs.Hex.{is_data, data_of, are_digits, digit_of, byte_of}
use Rattle.script.specs.Command.{start_by, primary_in, open_by, reply_by, release_by, bytes_by, ticks_by, verdict_by, alone_by, command_by, line_read}
use Rattle.script.specs.Hex.{glyph_of, hex_of}
use Rattle.script.specs.Printed.{digits_of, number_text}
use Rattle.script.specs.Table.{CommandTable, LimitTable, DigitTable, CountTable}

tables : CommandTable × LimitTable
unfolding index_after index_of splice on_front field_of behind_of letter_of number_of with_digits with_digit is_data data_of are_digits digit_of byte_of start_by primary_in open_by reply_by release_by bytes_by ticks_by verdict_by alone_by command_by line_read
tables = (record { host = refl; equipment = refl; opens = refl; opens_unanswered = refl; replies = refl; frees_own = refl; frees_incoming = refl; says_bytes = refl; says_ticks = refl; drains = refl; shows = refl; counts = refl }, record { w_above_1 = refl; source_above_65535 = refl; stream_above_255 = refl; function_above_255 = refl; place_above_255 = refl; reply_above_255 = refl; freed_above_255 = refl; shown_above_255 = refl; count_above_100000 = refl; setting_above_65535 = refl; last_above_65535 = refl; no_such_letter = refl; small_letter = refl; neither_own_nor_incoming = refl; more_than_drained = refl; more_than_dropped = refl; space_behind_dropped = refl; of_1024_bytes = refl; of_1025_bytes = refl })

pub command_table : CommandTable
command_table = tables.0

pub limit_table : LimitTable
limit_table = tables.1

pub digit_table : DigitTable
unfolding glyph_of hex_of
digit_table = refl

pub count_table : CountTable
unfolding digits_of number_text
count_table = record { least = refl; most = refl }
