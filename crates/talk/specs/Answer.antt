-- What a line does, and what is printed for it (01, "Bench program and proved table").
use Rattle.std.specs.Prelude.{ℕ, cond, List, eqb, take, replicate, None, Option, Some}
use Rattle.place.specs.Verdict.{standing_number}
use Rattle.exchange.specs.declared.OwnReading.{OwnReading}
use Rattle.link.specs.Answer.{outcome_number}
use Rattle.link.specs.State.{start_of}
use Rattle.link.specs.Run.{left}
use Rattle.link.specs.Call.{open_call, reply_call, drained_call, release_own_call, release_incoming_call}
use Rattle.link.specs.Reading.{own_of, dropped_of}
use Rattle.link.specs.declared.Link.{Link}
use Rattle.link.specs.declared.Setup.{Setup}
use Rattle.script.specs.Command.{Told, line_read}
use Rattle.script.specs.Printed.{text_of}
use Rattle.script.specs.declared.Command.{Command}
use Rattle.script.specs.declared.Command.TheVariants as command
use Rattle.script.specs.declared.Printed.{Printed}
use Rattle.script.specs.declared.Printed.TheVariants as printed
use Rattle.talk.specs.Run.{Running, running, nothing_ran, joins, bytes_run, ticks_run}
use Rattle.talk.specs.declared.Ran.{Ran}
use Rattle.talk.specs.declared.Shown.{Shown}

-- what a line came to, and every byte of the room and of the memory that output is put in
pub record Done : Type 0 where
  pub shown : Shown
  pub room : List ℕ
  pub out : List ℕ

abbrev pub done : Shown → List ℕ → List ℕ → Done
done shown room out = record { shown = shown; room = room; out = out }

abbrev pub shown_as : Option Link → Printed → ℕ → Shown
shown_as b p count = record { bench = b; printed = p; count = count }

-- `?`, and all is as it was
abbrev pub unread_shown : Option Link → Shown
unread_shown b = shown_as b printed.Unreadable 0

-- "`V` place prints V, place, verdict, or `9 - 20` for a free place or one above 3."
abbrev pub verdict_by : Option OwnReading → ℕ → Printed
verdict_by None p = printed.Answer 9 20
verdict_by (Some r) p = printed.Verdict p (standing_number r.standing)

-- a start that is not refused begins anew, a refused one leaves the unit that there was
unfoldable pub start_shown : Option Link → Setup → Shown
start_shown b setup =
    cond (eqb (outcome_number (start_of setup).outcome) 0)
    (shown_as (Some (start_of setup).link) (printed.Answer (outcome_number (start_of setup).outcome) 20) 0)
    (shown_as b (printed.Answer (outcome_number (start_of setup).outcome) 20) 0)

-- "refusal number or 0, bytes out in hex or `-`, note"
abbrev pub shown_ran : Ran → Shown
shown_ran r = shown_as (Some r.link) (printed.Answer r.number r.note) r.count

abbrev pub done_by : Running → Done
done_by s = done (shown_ran s.ran) s.room s.out

-- A command, for a unit that was started. `bytes` begins with those that the line says.
abbrev pub command_done : Link → Command → List ℕ → List ℕ → List ℕ → Done
command_done u (command.Start setup) bytes room out = done (start_shown (Some u) setup) room out
command_done u (command.Open q n) bytes room out = done_by (joins 0 out (open_call u q (take n bytes) room out))
command_done u (command.Reply p f n) bytes room out = done_by (joins 0 out (reply_call u p f (take n bytes) room out))
command_done u (command.ReleaseOwn p) bytes room out = done_by (joins 0 out (left (release_own_call u p) room out))
command_done u (command.ReleaseIncoming p) bytes room out = done_by (joins 0 out (left (release_incoming_call u p) room out))
command_done u (command.Bytes n) bytes room out = done_by (bytes_run (running (nothing_ran u) room out) (take n bytes))
command_done u (command.Ticks n) bytes room out = done_by (ticks_run (running (nothing_ran u) room out) n)
command_done u command.Drained bytes room out = done_by (joins 0 out (drained_call u room out))
command_done u (command.Verdict p) bytes room out = done (shown_as (Some u) (verdict_by (own_of u p) p) 0) room out
command_done u command.Dropped bytes room out = done (shown_as (Some u) (printed.Dropped (dropped_of u)) 0) room out

-- "before the first start that was not refused, prints `?`": a start alone does anything
abbrev pub early_shown : Command → Shown
early_shown (command.Start setup) = start_shown None setup
early_shown (command.Open q n) = unread_shown None
early_shown (command.Reply p f n) = unread_shown None
early_shown (command.ReleaseOwn p) = unread_shown None
early_shown (command.ReleaseIncoming p) = unread_shown None
early_shown (command.Bytes n) = unread_shown None
early_shown (command.Ticks n) = unread_shown None
early_shown command.Drained = unread_shown None
early_shown (command.Verdict p) = unread_shown None
early_shown command.Dropped = unread_shown None

-- a command, if the line could be read, and the unit, if there is one
abbrev pub asked_done : Option Command → Option Link → List ℕ → List ℕ → List ℕ → Done
asked_done None b bytes room out = done (unread_shown b) room out
asked_done (Some c) None bytes room out = done (early_shown c) room out
asked_done (Some c) (Some u) bytes room out = command_done u c bytes room out

-- a line that was read
abbrev pub told_done : Option Link → Told → List ℕ → List ℕ → Done
told_done b t room out = asked_done t.command b t.bytes room out

-- Does what a line says.
unfoldable pub line_done : Option Link → List ℕ → List ℕ → List ℕ → Done
line_done b line room out = told_done b (line_read line (replicate 512 0)) room out

-- what is printed for it
abbrev pub text_done : Done → List ℕ
text_done d = text_of d.shown.printed (take d.shown.count d.out)
