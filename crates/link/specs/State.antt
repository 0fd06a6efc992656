-- The unit's state: a fresh one, its ranges (docs/STATE.md), what changes a part of it, and what a refused call answers.
use Rattle.std.specs.Prelude.{ℕ, Bool, cond, ◌&&◌, List, [], eqb, ltb, replicate, Option, Some, None, Result, Ok, Err}
use Rattle.settings.specs.Panel.{between}
use Rattle.cut.specs.Blocks.{most_blocks}
use Rattle.room.specs.Room.{room_size}
use Rattle.line.specs.Line.{fresh_line}
use Rattle.line.specs.Range.{line_in_range}
use Rattle.line.specs.declared.line.Line.{Line}
use Rattle.exchange.specs.Exchange.{fresh_exchange}
use Rattle.exchange.specs.Range.{exchange_in_range}
use Rattle.exchange.specs.Flags.{no_flags}
use Rattle.exchange.specs.declared.Flags.{Flags}
use Rattle.exchange.specs.declared.Exchange.{Exchange}
use Rattle.link.specs.Setup.{ranged_of, no_settings, settings_in_range}
use Rattle.link.specs.declared.Setup.{Setup}
use Rattle.link.specs.declared.Settings.{Settings}
use Rattle.link.specs.declared.Refusal.{Refusal}
use Rattle.link.specs.declared.Refusal.TheVariants as refusal
use Rattle.link.specs.declared.Outcome.{Outcome}
use Rattle.link.specs.declared.Outcome.TheVariants as outcome
use Rattle.link.specs.declared.Note.{Note}
use Rattle.link.specs.declared.Note.TheVariants as note
use Rattle.link.specs.declared.Answer.{Answer}
use Rattle.link.specs.declared.Link.{Link}

-- the line idle, no place in use
abbrev pub fresh_link : Settings → ℕ → Link
fresh_link s last = record { settings = s; line = fresh_line; received = replicate 256 0; exchange = fresh_exchange last; block = 1 }

-- ---- one part changed

abbrev pub with_line : Link → Line → Link
with_line u l = record { settings = u.settings; line = l; received = u.received; exchange = u.exchange; block = u.block }

abbrev pub with_heard : Link → Line → List ℕ → Link
with_heard u l rs = record { settings = u.settings; line = l; received = rs; exchange = u.exchange; block = u.block }

abbrev pub with_exchange : Link → Exchange → Link
with_exchange u x = record { settings = u.settings; line = u.line; received = u.received; exchange = x; block = u.block }

-- a unit of these parts: of the received bytes no range is asked
abbrev pub parts_of : Settings → Line → Exchange → ℕ → Link
parts_of s l x k = record { settings = s; line = l; received = []; exchange = x; block = k }

-- ---- refusals

-- "A refusal reports 0 bytes out, note 20, state and memory untouched."
abbrev pub answer_as : Link → ℕ → Outcome → Note → Flags → Answer
answer_as u n o t f = record { link = u; outcome = o; count = n; note = t; flags = f }

abbrev pub refused_as : Link → Refusal → Answer
refused_as u r = answer_as u 0 (outcome.Refused r) note.Nothing no_flags

-- "a field outside the ranges listed in docs/"
unfoldable pub link_in_range : Link → Bool
link_in_range u = between 1 u.block most_blocks && (settings_in_range u.settings && (line_in_range u.line && exchange_in_range u.exchange))

-- 1: "output buffer under 257 bytes"
unfoldable pub output_short : ℕ → Bool
output_short out = ltb out 257

-- 2: "room not 36,864 bytes"
unfoldable pub room_fits : ℕ → Bool
room_fits room = eqb room room_size

-- "Order: 1, 2, 3": by the state, and by how many bytes of room and output are lent
unfoldable pub gate_of : Link → ℕ → ℕ → Result Unit Refusal
gate_of u room out =
    cond (output_short out) (Err refusal.OutputShort)
    (cond (room_fits room) (cond (link_in_range u) (Ok tt) (Err refusal.State)) (Err refusal.RoomSize))

-- ---- the start

-- a refused start hands back a unit whose settings are out of their ranges: every call refuses it by 3
abbrev pub start_by : Option Settings → ℕ → Answer
start_by (Some s) last = answer_as (fresh_link s last) 0 outcome.Done note.Nothing no_flags
start_by None last = refused_as (fresh_link no_settings 0) refusal.Setting

abbrev pub start_of : Setup → Answer
start_of s = start_by (ranged_of s) s.last
