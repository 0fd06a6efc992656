-- 01's listing, each command at work, and requests 1 and 2 of 02: all definitions on the way from a line to what is printed for it are run.
-- Assumes nothing.
use mathlib.Core.Path.{refl}
use Rattle.wire.specs.Bytes.{part}
use Rattle.wire.specs.Lent.{splice, on_front, filled_with}
use Rattle.wire.specs.Sum.{plain_sum, checksum_of, sum_with}
use Rattle.settings.specs.Limits.{panel_in_range, taken_of, limits_in_range}
use Rattle.settings.specs.Panel.{between}
use Rattle.settings.specs.Terms.{message_panel_in_range, agreed_of, terms_in_range}
use Rattle.settings.specs.Timer.{ticked}
use Rattle.line.specs.Line.{holding, spent, retry_of, give_way, eot_byte, ack_byte, length_byte, low_byte, body_byte, idle_byte, settle_idle}
use Rattle.line.specs.Range.{wait_in_range, arrival_in_range, body_in_range}
use Rattle.header.specs.Header.{header_bytes, header_of}
use Rattle.cut.specs.Blocks.{block_count, part_length, has_block, header_at, cut_of}
use Rattle.block.specs.Block.{framed, output_short, length_good, refused_write, taken_write, write_of, sums_agree, read_sized, read_of}
use Rattle.room.specs.Room.{whole_room, has_place, in_area, lies, filled, kept_in, bytes_at, bytes_in, front}
use Rattle.place.specs.Fate.{starts_message, begins_reply, begins_primary, lacks_data, too_long, fate_of}
use Rattle.place.specs.Arriving.{arriving_tick, same_kind, continues_arriving}
use Rattle.place.specs.Incoming.{begins, open_tick, continues_here, goes_on, incoming_offered}
use Rattle.place.specs.Own.{ended, first_out, acknowledged, await_tick, reply_tick, awaits, continues_reply, verdict_of, replied, own_offered}
use Rattle.place.specs.Range.{timer_in_range, length_in_range, arriving_in_range}
use Rattle.table.specs.Find.{first_from, first_of}
use Rattle.table.specs.Incoming.{free_incoming, message_for, alike, open_alike}
use Rattle.table.specs.Number.{number_of, held_number, following, among, first_after, next_number}
use Rattle.table.specs.Own.{free_own, reply_for}
use Rattle.reports.specs.Reports.{one_more, added, less_one, without_oldest, showing, reports_in_range}
use Rattle.exchange.specs.Exchange.{got_verdict, latest_after, put_own, put_incoming, with_sending, sent_behind, put_replied, saved_now}
use Rattle.exchange.specs.Judge.{thrown, is_misrouted, same_bytes, is_saved, is_duplicate, reply_block, message_block, begins_at, takes_place, primary_block, or_primary, no_reply_block, new_block, rules_of, box_behind}
use Rattle.exchange.specs.Range.{owns_in_range, incomings_in_range, message_in_range, exchange_in_range}
use Rattle.exchange.specs.Reading.{own_reading, wanted, incoming_reading}
use Rattle.exchange.specs.Reports.{starts, reported, caused, oldest_starts, is_over, freed, freed_in}
use Rattle.exchange.specs.Request.{refused_by, refused, bad_primary, bad_function, data_long, not_ready, claimed_at, open_free, open_of, reply_accepted, reply_ready, reply_of, release_own, release_incoming}
use Rattle.exchange.specs.Send.{ended_own, ended_reply, ended_report}
use Rattle.exchange.specs.Tick.{was_dropped, owns_timed, incomings_timed, is_still, passed_of, got_no_reply, late_at, late_over}
use Rattle.link.specs.Call.{free_call}
use Rattle.link.specs.Run.{putting_out, acknowledged as acknowledged_link}
use Rattle.link.specs.Setup.{ranged_of, settings_in_range}
use Rattle.link.specs.State.{link_in_range, output_short as output_short_link, room_fits, gate_of}
use Rattle.script.specs.Command.{start_by, primary_in, open_by, reply_by, release_by, bytes_by, ticks_by, verdict_by, command_by, line_read, alone_by}
use Rattle.text.specs.Field.{field_of, behind_of, letter_of}
use Rattle.text.specs.Hex.{digit_of, are_digits, is_data, byte_of, data_of}
use Rattle.text.specs.Number.{with_digit, with_digits, number_of as number_of_text}
use Rattle.script.specs.Hex.{glyph_of, hex_of}
use Rattle.script.specs.Printed.{number_text, data_fits, digits_of}
use Rattle.talk.specs.Answer.{start_shown, line_done}
use Rattle.talk.specs.Run.{bytes_run, ticks_run}
use Rattle.text.specs.Find.{index_after, index_of}
use Rattle.talk.specs.Listing.{talked, ListingPrinted}
use Rattle.talk.specs.Overtaken.{OvertakenPrinted}
use Rattle.talk.specs.Reported.{ReportPrinted}
use Rattle.talk.specs.Round.{RoundPrinted}

runs : ListingPrinted × RoundPrinted × OvertakenPrinted × ReportPrinted
unfolding part splice on_front filled_with plain_sum checksum_of sum_with panel_in_range taken_of limits_in_range between message_panel_in_range agreed_of terms_in_range ticked holding spent retry_of give_way eot_byte ack_byte length_byte low_byte body_byte idle_byte settle_idle wait_in_range arrival_in_range body_in_range header_bytes header_of block_count part_length has_block header_at cut_of framed output_short length_good refused_write taken_write write_of sums_agree read_sized read_of whole_room has_place in_area lies filled kept_in bytes_at bytes_in front starts_message begins_reply begins_primary same_kind continues_arriving arriving_tick lacks_data too_long fate_of begins open_tick continues_here goes_on incoming_offered ended first_out acknowledged await_tick reply_tick awaits continues_reply verdict_of replied own_offered timer_in_range length_in_range arriving_in_range first_from first_of free_incoming message_for alike open_alike number_of held_number following among first_after next_number free_own reply_for one_more added less_one without_oldest showing reports_in_range got_verdict latest_after put_own put_incoming with_sending sent_behind put_replied saved_now thrown is_misrouted same_bytes is_saved is_duplicate reply_block message_block begins_at takes_place primary_block or_primary no_reply_block new_block rules_of owns_in_range incomings_in_range message_in_range exchange_in_range own_reading wanted incoming_reading starts reported caused oldest_starts is_over freed refused_by refused bad_primary bad_function data_long not_ready claimed_at open_free open_of reply_accepted reply_ready reply_of release_own release_incoming ended_own ended_reply ended_report was_dropped passed_of got_no_reply late_at owns_timed incomings_timed is_still free_call putting_out acknowledged_link ranged_of settings_in_range link_in_range output_short_link room_fits gate_of start_by primary_in open_by reply_by release_by bytes_by ticks_by verdict_by alone_by command_by line_read field_of behind_of letter_of digit_of are_digits is_data byte_of data_of glyph_of hex_of with_digit with_digits number_of_text digits_of number_text data_fits start_shown line_done bytes_run ticks_run index_after index_of talked box_behind freed_in late_over
runs = (refl, refl, refl, refl)

pub listing_printed : ListingPrinted
listing_printed = runs.0

pub round_printed : RoundPrinted
round_printed = runs.1

pub overtaken_printed : OvertakenPrinted
overtaken_printed = runs.2

pub report_printed : ReportPrinted
report_printed = runs.3
