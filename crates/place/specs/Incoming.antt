-- The life of a place of a message of the far end (E4 7.4; 01, "Messages").
use Rattle.std.specs.Prelude.{ℕ, Bool, true, false, cond, Option, Some, None}
use Rattle.header.specs.declared.header.Header.{Header}
use Rattle.settings.specs.declared.terms.Terms.{Terms}
use Rattle.place.specs.Message.{no_header}
use Rattle.place.specs.Fate.{fate_of}
use Rattle.place.specs.Arriving.{arriving_from, arriving_tick, continues_arriving}
use Rattle.place.specs.declared.Fate.{Fate}
use Rattle.place.specs.declared.Fate.TheVariants.{Empty, TooLong, Last, More}
use Rattle.place.specs.declared.Arriving.{Arriving}
use Rattle.place.specs.declared.End.{End}
use Rattle.place.specs.declared.End.TheVariants as end
use Rattle.place.specs.declared.IncomingStage.{IncomingStage}
use Rattle.place.specs.declared.IncomingStage.TheVariants.{Free, Open, Complete, Replying, Replied}
use Rattle.place.specs.declared.Incoming.{Incoming}

abbrev pub fresh_incoming : Incoming
fresh_incoming = record { header = no_header; stage = Free }

abbrev pub stage_at : Incoming → IncomingStage → Incoming
stage_at i s = record { header = i.header; stage = s }

-- the header of its first block
abbrev pub primary_of : Incoming → Header
primary_of i = i.header

-- how many data bytes are kept
abbrev pub length_at : IncomingStage → ℕ
length_at Free = 0
length_at (Open a) = a.length
length_at (Complete n) = n
length_at (Replying n) = n
length_at (Replied n e) = n

abbrev pub incoming_length : Incoming → ℕ
incoming_length i = length_at i.stage

abbrev pub free_at : IncomingStage → Bool
free_at Free = true
free_at (Open a) = false
free_at (Complete n) = false
free_at (Replying n) = false
free_at (Replied n e) = false

abbrev pub incoming_is_free : Incoming → Bool
incoming_is_free i = free_at i.stage

-- "open (not yet complete)"
abbrev pub open_at : IncomingStage → Bool
open_at Free = false
open_at (Open a) = true
open_at (Complete n) = false
open_at (Replying n) = false
open_at (Replied n e) = false

abbrev pub incoming_is_open : Incoming → Bool
incoming_is_open i = open_at i.stage

-- complete, and no reply to it was accepted
abbrev pub complete_at : IncomingStage → Bool
complete_at Free = false
complete_at (Open a) = false
complete_at (Complete n) = true
complete_at (Replying n) = false
complete_at (Replied n e) = false

abbrev pub incoming_is_complete : Incoming → Bool
incoming_is_complete i = complete_at i.stage

-- our reply to it has ended
abbrev pub replied_at : IncomingStage → Bool
replied_at Free = false
replied_at (Open a) = false
replied_at (Complete n) = false
replied_at (Replying n) = false
replied_at (Replied n e) = true

abbrev pub incoming_is_replied : Incoming → Bool
incoming_is_replied i = replied_at i.stage

-- ---- a primary begins

-- "A primary not yet open takes no place."
abbrev pub begun_by : Incoming → Header → Fate → Incoming
begun_by i h Empty = i
begun_by i h TooLong = i
begun_by i h (Last n) = record { header = h; stage = Complete n }
begun_by i h (More n) = record { header = h; stage = Open (arriving_from h n) }

unfoldable pub begins : Incoming → Header → ℕ → Incoming
begins i h size = begun_by i h (fate_of h 0 size)

-- in a free place, or instead of an open message: "throws that one out and takes its place"
abbrev pub begun_at : IncomingStage → Incoming → Header → ℕ → Incoming
begun_at Free i h size = begins i h size
begun_at (Open a) i h size = begins i h size
begun_at (Complete n) i h size = i
begun_at (Replying n) i h size = i
begun_at (Replied n e) i h size = i

abbrev pub incoming_begun : Incoming → Header → ℕ → Incoming
incoming_begun i h size = begun_at i.stage i h size

-- ---- time

-- "T4 beyond its limit breaks the message. A broken incoming message frees its place."
abbrev pub open_by : Incoming → Option Arriving → Incoming
open_by i None = stage_at i Free
open_by i (Some a) = stage_at i (Open a)

unfoldable pub open_tick : Terms → Incoming → Arriving → Incoming
open_tick c i a = open_by i (arriving_tick c a)

abbrev pub tick_at : Terms → IncomingStage → Incoming → Incoming
tick_at c Free i = i
tick_at c (Open a) i = open_tick c i a
tick_at c (Complete n) i = i
tick_at c (Replying n) i = i
tick_at c (Replied n e) i = i

abbrev pub incoming_tick : Terms → Incoming → Incoming
incoming_tick c i = tick_at c i.stage i

-- ---- its further blocks

-- "Continues an open message": it has device ID and system bytes of its first block
unfoldable pub continues_here : Incoming → Arriving → Header → Bool
continues_here i a h = continues_arriving (primary_of i).device (primary_of i).system a h

abbrev pub takes_at : IncomingStage → Incoming → Header → Bool
takes_at Free i h = false
takes_at (Open a) i h = continues_here i a h
takes_at (Complete n) i h = false
takes_at (Replying n) i h = false
takes_at (Replied n e) i h = false

abbrev pub incoming_takes : Incoming → Header → Bool
incoming_takes i h = takes_at i.stage i h

-- 4 and 5: "An open message .. ends broken."; 7: kept
abbrev pub kept_by : Incoming → Header → Fate → Incoming
kept_by i h Empty = stage_at i Free
kept_by i h TooLong = stage_at i Free
kept_by i h (Last n) = stage_at i (Complete n)
kept_by i h (More n) = stage_at i (Open (arriving_from h n))

unfoldable pub goes_on : Incoming → Header → ℕ → Incoming
goes_on i h size = kept_by i h (fate_of h (incoming_length i) size)

-- a block that is for this place is of its message; any other leaves it as it is
unfoldable pub incoming_offered : Incoming → Header → ℕ → Incoming
incoming_offered i h size = cond (incoming_takes i h) (goes_on i h size) i

-- ---- our reply

abbrev pub answered_at : IncomingStage → Incoming → Incoming
answered_at Free i = i
answered_at (Open a) i = i
answered_at (Complete n) i = stage_at i (Replying n)
answered_at (Replying n) i = i
answered_at (Replied n e) i = i

abbrev pub incoming_answered : Incoming → Incoming
incoming_answered i = answered_at i.stage i

-- "A reply of ours ends sent or failed in its incoming place."
abbrev pub ended_at : End → IncomingStage → Incoming → Incoming
ended_at e Free i = i
ended_at e (Open a) i = i
ended_at e (Complete n) i = i
ended_at e (Replying n) i = stage_at i (Replied n e)
ended_at e (Replied n f) i = i

abbrev pub incoming_sent : Incoming → Incoming
incoming_sent i = ended_at end.Sent i.stage i

abbrev pub incoming_failed : Incoming → Incoming
incoming_failed i = ended_at end.Failed i.stage i

-- ---- the end

abbrev pub released_at : IncomingStage → Incoming → Incoming
released_at Free i = i
released_at (Open a) i = i
released_at (Complete n) i = stage_at i Free
released_at (Replying n) i = i
released_at (Replied n e) i = stage_at i Free

abbrev pub incoming_released : Incoming → Incoming
incoming_released i = released_at i.stage i
