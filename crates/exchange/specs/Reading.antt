-- What a user reads of a place.
use Rattle.std.specs.Prelude.{ℕ, Bool, true, false, cond, not, None, Option, Some}
use Rattle.header.specs.declared.header.Header.{Header}
use Rattle.place.specs.Message.{no_header}
use Rattle.place.specs.Own.{primary_of as own_primary, own_standing, own_is_free, own_kept}
use Rattle.place.specs.Incoming.{primary_of as incoming_primary, incoming_length, incoming_is_free, incoming_is_open}
use Rattle.place.specs.declared.End.{End}
use Rattle.place.specs.declared.End.TheVariants as end
use Rattle.place.specs.declared.IncomingStage.{IncomingStage}
use Rattle.place.specs.declared.IncomingStage.TheVariants as stage
use Rattle.place.specs.declared.Incoming.{Incoming}
use Rattle.exchange.specs.Exchange.{own_place, incoming_place}
use Rattle.exchange.specs.declared.Exchange.{Exchange}
use Rattle.exchange.specs.declared.OwnReading.{OwnReading}
use Rattle.exchange.specs.declared.ReplyStage.{ReplyStage}
use Rattle.exchange.specs.declared.ReplyStage.TheVariants.{NotOwed, Owed, OnItsWay, Sent, Failed}
use Rattle.place.specs.declared.Standing.{Standing}
use Rattle.place.specs.declared.Reply.{Reply}
use Rattle.exchange.specs.declared.IncomingReading.{IncomingReading}

-- what is read of a place in use
abbrev pub reads_own : Header → Standing → Reply → Option OwnReading
reads_own h s r = Some (record { primary = h; standing = s; reply = r })

abbrev pub reads_incoming : Header → ℕ → Bool → ReplyStage → Option IncomingReading
reads_incoming h n c r = Some (record { primary = h; length = n; complete = c; reply = r })

-- nothing is read of a free place, or of one above 3
unfoldable pub own_reading : Exchange → ℕ → Option OwnReading
own_reading x p =
    cond (own_is_free (own_place x p)) None
    (reads_own (own_primary (own_place x p)) (own_standing (own_place x p)) (own_kept (own_place x p)))

-- a reply is owed to a complete message with W = 1
unfoldable pub wanted : Header → ReplyStage
wanted h = cond h.w Owed NotOwed

abbrev pub ended_by : End → ReplyStage
ended_by end.Sent = Sent
ended_by end.Failed = Failed

abbrev pub reply_stage_at : IncomingStage → Incoming → ReplyStage
reply_stage_at stage.Free i = NotOwed
reply_stage_at (stage.Open a) i = NotOwed
reply_stage_at (stage.Complete n) i = wanted (incoming_primary i)
reply_stage_at (stage.Replying n) i = OnItsWay
reply_stage_at (stage.Replied n e) i = ended_by e

abbrev pub reply_stage : Incoming → ReplyStage
reply_stage i = reply_stage_at i.stage i

unfoldable pub incoming_reading : Exchange → ℕ → Option IncomingReading
incoming_reading x p =
    cond (incoming_is_free (incoming_place x p)) None
    (reads_incoming (incoming_primary (incoming_place x p)) (incoming_length (incoming_place x p)) (not (incoming_is_open (incoming_place x p))) (reply_stage (incoming_place x p)))

-- the header of a message that is read
abbrev pub header_by : Option IncomingReading → Header
header_by None = no_header
header_by (Some r) = r.primary

-- what it says of our reply
abbrev pub stage_by : Option IncomingReading → ReplyStage
stage_by None = NotOwed
stage_by (Some r) = r.reply

-- "A reply of ours ends sent or failed in its incoming place": it has its end
abbrev pub has_ended : ReplyStage → Bool
has_ended NotOwed = false
has_ended Owed = false
has_ended OnItsWay = false
has_ended Sent = true
has_ended Failed = true
