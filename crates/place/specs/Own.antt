-- The life of a place of an own transaction (E4 7.3; 01, "Messages").
use Rattle.std.specs.Prelude.{ℕ, ◌+◌, Bool, true, false, cond, ◌&&◌, List, eqb, replicate, Option, Some, None}
use Rattle.header.specs.Header.{header_of}
use Rattle.header.specs.declared.header.Header.{Header}
use Rattle.settings.specs.Timer.{ticked}
use Rattle.settings.specs.declared.terms.Terms.{Terms}
use Rattle.place.specs.Fate.{begins_reply, fate_of}
use Rattle.place.specs.Arriving.{arriving_from, arriving_tick, continues_arriving}
use Rattle.place.specs.declared.Fate.{Fate}
use Rattle.place.specs.declared.Fate.TheVariants.{Empty, TooLong, Last, More}
use Rattle.place.specs.declared.Verdict.{Verdict}
use Rattle.place.specs.declared.Verdict.TheVariants.{Sent, Answered, Declined, Other, Broken, NoReply, SendFailed}
use Rattle.place.specs.declared.Standing.{Standing}
use Rattle.place.specs.declared.Standing.TheVariants as standing
use Rattle.place.specs.declared.Reply.{Reply}
use Rattle.place.specs.declared.Arriving.{Arriving}
use Rattle.place.specs.declared.OwnStage.{OwnStage}
use Rattle.place.specs.declared.OwnStage.TheVariants.{Free, Sending, PutOut, Awaiting, Replying, Done}
use Rattle.place.specs.declared.Own.{Own}

abbrev pub fresh_own : Own
fresh_own = record { header = replicate 10 0; stage = Free }

abbrev pub stage_at : Own → OwnStage → Own
stage_at o s = record { header = o.header; stage = s }

-- what the primary's header says
abbrev pub primary_of : Own → Header
primary_of o = header_of o.header

abbrev pub no_reply : Reply
no_reply = record { w = false; stream = 0; function = 0; length = 0 }

abbrev pub reply_of : Header → ℕ → Reply
reply_of h n = record { w = h.w; stream = h.stream; function = h.function; length = n }

-- what is known of a reply that is arriving
abbrev pub reply_from : Arriving → Reply
reply_from a = record { w = a.kind.w; stream = a.kind.stream; function = a.kind.function; length = a.length }

-- a verdict, and no reply of which bytes are kept
unfoldable pub ended : Own → Verdict → Own
ended o v = stage_at o (Done v no_reply)

-- ---- what a user reads

-- free; "0 open"; or its verdict
abbrev pub standing_at : OwnStage → Standing
standing_at Free = standing.Free
standing_at Sending = standing.Open
standing_at PutOut = standing.Open
standing_at (Awaiting timer) = standing.Open
standing_at (Replying a) = standing.Open
standing_at (Done v r) = standing.Given v

abbrev pub own_standing : Own → Standing
own_standing o = standing_at o.stage

abbrev pub free_by : Standing → Bool
free_by standing.Free = true
free_by standing.Open = false
free_by (standing.Given v) = false

abbrev pub own_is_free : Own → Bool
own_is_free o = free_by (own_standing o)

abbrev pub given_by : Standing → Bool
given_by standing.Free = false
given_by standing.Open = false
given_by (standing.Given v) = true

abbrev pub own_has_verdict : Own → Bool
own_has_verdict o = given_by (own_standing o)

-- what is kept of the reply
abbrev pub kept_at : OwnStage → Reply
kept_at Free = no_reply
kept_at Sending = no_reply
kept_at PutOut = no_reply
kept_at (Awaiting timer) = no_reply
kept_at (Replying a) = reply_from a
kept_at (Done v r) = r

abbrev pub own_kept : Own → Reply
own_kept o = kept_at o.stage

-- ---- the primary is sent

abbrev pub claimed_at : OwnStage → Own → List ℕ → Own
claimed_at Free o h = record { header = h; stage = Sending }
claimed_at Sending o h = o
claimed_at PutOut o h = o
claimed_at (Awaiting timer) o h = o
claimed_at (Replying a) o h = o
claimed_at (Done v r) o h = o

abbrev pub own_claimed : Own → List ℕ → Own
own_claimed o h = claimed_at o.stage o h

-- 02, request 1: "A primary with W = 1 now awaits its reply from the call that first puts out the bytes of its last block."
unfoldable pub first_out : Own → Own
first_out o = cond (primary_of o).w (stage_at o PutOut) o

abbrev pub put_out_at : OwnStage → Own → Own
put_out_at Free o = o
put_out_at Sending o = first_out o
put_out_at PutOut o = o
put_out_at (Awaiting timer) o = o
put_out_at (Replying a) o = o
put_out_at (Done v r) o = o

-- the bytes of its last block leave; at a retry they left before
abbrev pub own_put_out : Own → Own
own_put_out o = put_out_at o.stage o

-- "T3 runs, from the ACK of the primary's last block."; "1 sent (W = 0, all acknowledged)"
unfoldable pub acknowledged : Own → Own
acknowledged o = cond (primary_of o).w (stage_at o (Awaiting 0)) (ended o Sent)

abbrev pub sent_at : OwnStage → Own → Own
sent_at Free o = o
sent_at Sending o = acknowledged o
sent_at PutOut o = acknowledged o
sent_at (Awaiting timer) o = o
sent_at (Replying a) o = o
sent_at (Done v r) o = o

abbrev pub own_sent : Own → Own
own_sent o = sent_at o.stage o

-- "7 send failed"
abbrev pub failed_at : OwnStage → Own → Own
failed_at Free o = o
failed_at Sending o = ended o SendFailed
failed_at PutOut o = ended o SendFailed
failed_at (Awaiting timer) o = o
failed_at (Replying a) o = o
failed_at (Done v r) o = o

abbrev pub own_failed : Own → Own
own_failed o = failed_at o.stage o

-- ---- time

-- "6 no reply in T3"
abbrev pub awaited_by : Own → Option ℕ → Own
awaited_by o None = ended o NoReply
awaited_by o (Some timer) = stage_at o (Awaiting timer)

unfoldable pub await_tick : Terms → Own → ℕ → Own
await_tick c o timer = awaited_by o (ticked c.t3 timer)

-- "5 broken"
abbrev pub replying_by : Own → Option Arriving → Own
replying_by o None = ended o Broken
replying_by o (Some a) = stage_at o (Replying a)

unfoldable pub reply_tick : Terms → Own → Arriving → Own
reply_tick c o a = replying_by o (arriving_tick c a)

abbrev pub tick_at : Terms → OwnStage → Own → Own
tick_at c Free o = o
tick_at c Sending o = o
tick_at c PutOut o = o
tick_at c (Awaiting timer) o = await_tick c o timer
tick_at c (Replying a) o = reply_tick c o a
tick_at c (Done v r) o = o

abbrev pub own_tick : Terms → Own → Own
own_tick c o = tick_at c o.stage o

-- ---- the reply

-- "the first block of an awaited reply (same system bytes, even function, number 1, or 0 with E = 1)"
unfoldable pub awaits : Own → Header → Bool
awaits o h = eqb (primary_of o).system h.system && begins_reply h

-- "Continues an open message": the reply has device ID and system bytes of its primary
unfoldable pub continues_reply : Own → Arriving → Header → Bool
continues_reply o a h = continues_arriving (primary_of o).device (primary_of o).system a h

abbrev pub takes_at : OwnStage → Own → Header → Bool
takes_at Free o h = false
takes_at Sending o h = false
takes_at PutOut o h = awaits o h
takes_at (Awaiting timer) o h = awaits o h
takes_at (Replying a) o h = continues_reply o a h
takes_at (Done v r) o h = false

abbrev pub own_takes : Own → Header → Bool
own_takes o h = takes_at o.stage o h

-- "function one higher"
abbrev pub follows : ℕ → ℕ → Bool
follows f before = eqb f (before + 1)

-- "2 answered (complete reply, same stream, function one higher); 3 declined (same stream, function 0); 4 other reply"
unfoldable pub verdict_of : Own → Header → Verdict
verdict_of o h =
    cond (eqb h.stream (primary_of o).stream)
    (cond (follows h.function (primary_of o).function) Answered (cond (eqb h.function 0) Declined Other))
    Other

-- 4 and 5: "An open message, or awaited reply, ends broken."; 7: kept
abbrev pub replied_by : Own → Header → Fate → Own
replied_by o h Empty = ended o Broken
replied_by o h TooLong = ended o Broken
replied_by o h (Last n) = stage_at o (Done (verdict_of o h) (reply_of h n))
replied_by o h (More n) = stage_at o (Replying (arriving_from h n))

-- a block of the reply
unfoldable pub replied : Own → Header → ℕ → Own
replied o h size = replied_by o h (fate_of h (own_kept o).length size)

-- a block that is for this place is of its reply; any other leaves it as it is
unfoldable pub own_offered : Own → Header → ℕ → Own
own_offered o h size = cond (own_takes o h) (replied o h size) o

-- ---- the end

abbrev pub released_at : OwnStage → Own → Own
released_at Free o = o
released_at Sending o = o
released_at PutOut o = o
released_at (Awaiting timer) o = o
released_at (Replying a) o = o
released_at (Done v r) o = stage_at o Free

abbrev pub own_released : Own → Own
own_released o = released_at o.stage o
