-- The two transaction numbers that the state keeps, "the last given" and "that of the latest own transaction to get a verdict" (01,
-- "Messages"), over every list of calls from a fresh start. An onlooker keeps them too: by what is called and answered, and by what a
-- user reads of the own places before and after each call (`specs/Reading.antt`). And what one call does to either, whatever an onlooker
-- keeps. Each proof is in `proofs/Numbering.antt`.
use Rattle.std.specs.Prelude.{ℕ, ◌%◌, ◌≤◌, ◌<◌, ◌≡◌, Bool, true, false, cond, not, ◌&&◌, List, ◌≢◌, length, Ok, Err, None, Option, Some}
use Rattle.header.specs.declared.header.Header.{Header}
use Rattle.settings.specs.declared.terms.Terms.{Terms}
use Rattle.place.specs.declared.Verdict.{Verdict}
use Rattle.place.specs.declared.Verdict.TheVariants.{Sent, Answered, Declined, Other, Broken, NoReply, SendFailed}
use Rattle.place.specs.declared.Standing.TheVariants.{Free, Open, Given}
use Rattle.place.specs.declared.Reply.{Reply}
use Rattle.table.specs.Number.{next_number}
use Rattle.exchange.specs.Reports.{same_message}
use Rattle.exchange.specs.Reading.{own_reading}
use Rattle.exchange.specs.Request.{open_of, Request, primary, reply, freeing_own, freeing_incoming, answer_of}
use Rattle.exchange.specs.Rules.{Fours}
use Rattle.exchange.specs.Refusals.{number_given}
use Rattle.exchange.specs.History.{Call, block, tick, put_out, acknowledged, failed, request, called, track, at_start}
use Rattle.exchange.specs.Watching.{watch}
use Rattle.exchange.specs.declared.Sending.{Sending}
use Rattle.exchange.specs.declared.Sending.TheVariants as sending
use Rattle.exchange.specs.declared.Exchange.{Exchange}
use Rattle.exchange.specs.declared.OwnReading.{OwnReading}
use Rattle.exchange.specs.declared.Primary.{Primary}
use Rattle.place.specs.declared.Standing.{Standing}
use Rattle.exchange.specs.Asked.{Asked}

-- ---- what is read of an own place

-- "System bytes: the caller's 16-bit source ID, then the number."
abbrev pub number_shown : Option OwnReading → ℕ
number_shown None = 0
number_shown (Some r) = r.primary.system % 65536

-- a verdict of this kind was given
abbrev pub given : (Verdict → Bool) → Standing → Bool
given kind Free = false
given kind Open = false
given kind (Given v) = kind v

-- it shows one
abbrev pub shows : (Verdict → Bool) → Option OwnReading → Bool
shows kind None = false
shows kind (Some r) = given kind r.standing

abbrev pub any_verdict : Verdict → Bool
any_verdict v = true

-- 1 and 7 are given where the sending of a primary ends: the line tells of it. The others are given where a block of the reply is
-- judged, or where T3 or T4 runs out.
abbrev pub by_line : Verdict → Bool
by_line Sent = true
by_line Answered = false
by_line Declined = false
by_line Other = false
by_line Broken = false
by_line NoReply = false
by_line SendFailed = true

abbrev pub by_place : Verdict → Bool
by_place v = not (by_line v)

-- it got one in this call: it shows it now, and showed no verdict before
unfoldable pub gets : (Verdict → Bool) → Option OwnReading → Option OwnReading → Bool
gets kind before after = not (shows any_verdict before) && shows kind after

-- ---- what the onlooker keeps

-- the number of the last primary that was accepted or report that started, and that of the latest own transaction to get a verdict: a
-- report gets none
pub record NumbersSeen : Type 0 where
  pub last : ℕ
  pub latest : ℕ

-- from what is read of places 0 to 3 before and after a call: of several that got such a verdict the highest is the latest; if none
-- did, the latest is as it was, and so it stays after its release
unfoldable pub highest : (Verdict → Bool) → (ℕ → Option OwnReading) → (ℕ → Option OwnReading) → ℕ → ℕ
highest kind before after latest =
    cond (gets kind (before 3) (after 3)) (number_shown (after 3))
    (cond (gets kind (before 2) (after 2)) (number_shown (after 2))
    (cond (gets kind (before 1) (after 1)) (number_shown (after 1))
    (cond (gets kind (before 0) (after 0)) (number_shown (after 0))
    latest)))

-- "On a tick the line goes first, then own places 0 to 3"
abbrev pub latest_seen : (ℕ → Option OwnReading) → (ℕ → Option OwnReading) → ℕ → ℕ
latest_seen before after latest = highest by_place before after (highest by_line before after latest)

-- a primary that was accepted shows its number; no other request gives one
abbrev pub last_by : Request → Option OwnReading → ℕ → ℕ
last_by (primary q d) after last = number_shown after
last_by (reply p f d) after last = last
last_by (freeing_own p) after last = last
last_by (freeing_incoming p) after last = last

-- one that was refused uses none up
abbrev pub last_asked : Request → Asked → (ℕ → Option OwnReading) → ℕ → ℕ
last_asked r (Ok p) after last = last_by r (after p) last
last_asked r (Err n) after last = last

-- a report that started shows its number in what is being sent: "a new transaction number, taken when the report starts" (02, request 2).
-- `same` is whether the same message was being sent before.
abbrev pub last_started : Bool → Sending → ℕ → ℕ
last_started same sending.Nothing last = last
last_started same (sending.Primary p n) last = last
last_started same (sending.Reply p f n) last = last
last_started same (sending.Report f n) last = cond same last n

-- by what is being sent before a call and behind it
abbrev pub last_reported : Sending → Sending → ℕ → ℕ
last_reported before after last = last_started (same_message before after) after last

abbrev pub last_seen : Terms → Exchange → List ℕ → ℕ → Call → ℕ
last_seen c x room last (block h d) = last_reported x.sending (called c x room (block h d)).exchange.sending last
last_seen c x room last tick = last_reported x.sending (called c x room tick).exchange.sending last
last_seen c x room last put_out = last
last_seen c x room last acknowledged = last_reported x.sending (called c x room acknowledged).exchange.sending last
last_seen c x room last failed = last_reported x.sending (called c x room failed).exchange.sending last
last_seen c x room last (request r) = last_asked r (answer_of c x r room).answer.asked (own_reading (answer_of c x r room).answer.exchange) last

abbrev pub numbers_sees : Terms → Exchange → List ℕ → NumbersSeen → Call → NumbersSeen
numbers_sees c x room s k = record {
  last = last_seen c x room s.last k;
  latest = latest_seen (own_reading x) (own_reading (called c x room k).exchange) s.latest;
}

-- the last one that the start is told of; 0, which is no number, before the first verdict
abbrev pub numbers_at_start : ℕ → NumbersSeen
numbers_at_start last = record { last = last; latest = 0 }

abbrev pub numbers_watch : Terms → ℕ → List ℕ → List Call → NumbersSeen
numbers_watch c last room ks = watch c (numbers_sees c) (at_start last room) (numbers_at_start last) ks

-- ---- what the state keeps

-- the state's numbers are these
pub record NumbersAre (x : Exchange) (s : NumbersSeen) : Type 0 where
  pub last : x.numbers.last ≡ s.last
  pub latest : x.numbers.latest ≡ s.latest
  -- a report on its way has the last one given: no primary is accepted before it is over
  pub report : (f n : ℕ) → x.sending ≡ sending.Report f n → n ≡ s.last
  -- "0 to 65535"
  pub fits : x.numbers.last ≤ 65535

-- where they are those that the onlooker keeps, so they are after any call more
abbrev pub NumbersKeptOn : Type 0
NumbersKeptOn =
    (c : Terms) (x : Exchange) (room : List ℕ) → Fours x → (s : NumbersSeen) (k : Call)
    → NumbersAre x s → NumbersAre (called c x room k).exchange (numbers_sees c x room s k)

-- so they are after any calls from a fresh start
abbrev pub NumbersKept : Type 0
NumbersKept =
    (c : Terms) (last : ℕ) (room : List ℕ) → last ≤ 65535 → length room ≡ 36864 → (ks : List Call)
    → NumbersAre (track c (at_start last room) ks).exchange (numbers_watch c last room ks)

-- ---- one call: plain words, that no onlooker's rule stands for

-- call k is a primary, and it is accepted
pub record GivesNumber (c : Terms) (x : Exchange) (room : List ℕ) (k : Call) : Type 0 where
  pub header : Primary
  pub rest : List ℕ
  pub place : ℕ
  pub so : k ≡ request (primary header rest)
  pub taken : (answer_of c x (primary header rest) room).answer.asked ≡ Ok place

-- a report is being sent behind a call, and not the same one before it
pub record StartsReport (before after : Exchange) : Type 0 where
  pub function : ℕ
  pub number : ℕ
  pub now : after.sending ≡ sending.Report function number
  pub new : before.sending ≢ after.sending

-- "the next after the last given": a primary that is accepted is given the next number, and that one is the last given then; so is a report
-- that starts, "passing over any number in an own place in use and that of the latest own transaction to get a verdict", as they are then.
-- Nothing else gives a number, or takes one back: no report that waits or is dropped, no other block, tick, ACK or failure, no last block put
-- out, and no other request.
pub record LastMoves (Gives : Type 0) (before after : Exchange) : Type 0 where
  pub given : Gives → after.numbers.last ≡ number_given before
  pub started :
      (s : StartsReport before after)
      → (after.numbers.last ≡ next_number after.own before.numbers.last after.numbers.latest) × (s.number ≡ after.numbers.last)
  pub stays : (Gives → ⊥) → (StartsReport before after → ⊥) → after.numbers.last ≡ before.numbers.last

abbrev pub LastGoes : Type 0
LastGoes =
    (c : Terms) (x : Exchange) (room : List ℕ) → Fours x → (s : NumbersSeen) → NumbersAre x s → (k : Call)
    → LastMoves (GivesNumber c x room k) x (called c x room k).exchange

-- an own place got its verdict: it shows none before the call, and one after it
pub record Got (before after : Option OwnReading) : Type 0 where
  pub header : Header
  pub verdict : Verdict
  pub reply : Reply
  pub none_before : (h : Header) (v : Verdict) (r : Reply) → before ≢ Some (record { primary = h; standing = Given v; reply = r })
  pub now : after ≡ Some (record { primary = header; standing = Given verdict; reply = reply })

-- not by the end of its primary's sending
pub record NotByLine (v : Verdict) : Type 0 where
  pub not_sent : v ≢ Sent
  pub not_failed : v ≢ SendFailed

-- "that of the latest own transaction to get a verdict"
pub record LatestMoves (before after : Exchange) : Type 0 where
  -- the place that got one, if no other did
  pub alone :
      (p : ℕ) → p < 4 → Got (own_reading before p) (own_reading after p)
      → ((q : ℕ) → q < 4 → q ≢ p → Got (own_reading before q) (own_reading after q) → ⊥)
      → after.numbers.latest ≡ number_shown (own_reading after p)
  -- of several the highest's: "On a tick the line goes first, then own places 0 to 3". So one whose send fails on that tick, whatever its
  -- place, comes before those whose timers run out.
  pub highest :
      (p : ℕ) → p < 4 → (g : Got (own_reading before p) (own_reading after p)) → NotByLine g.verdict
      → ((q : ℕ) → p < q → q < 4 → (h : Got (own_reading before q) (own_reading after q)) → NotByLine h.verdict → ⊥)
      → after.numbers.latest ≡ number_shown (own_reading after p)
  -- as it was, if none did
  pub stays :
      ((p : ℕ) → p < 4 → Got (own_reading before p) (own_reading after p) → ⊥) → after.numbers.latest ≡ before.numbers.latest

abbrev pub LatestGoes : Type 0
LatestGoes = (c : Terms) (x : Exchange) (room : List ℕ) → Fours x → (k : Call) → LatestMoves x (called c x room k).exchange

-- ---- E4 6.8.1

-- a place in use
abbrev pub in_use : Option OwnReading → Bool
in_use None = false
in_use (Some r) = true

-- "The system bytes of a primary message must be distinct from": where their lower half, the number, is, they are, whatever the source
-- IDs. (What this leaves of the second distinction, and the third: docs/EXCEPTIONS.md.)
pub record NumberNew (x : Exchange) (s : NumbersSeen) (number : ℕ) : Type 0 where
  -- "those of all currently open transactions initiated from the same end": of every own place in use, one with a verdict too
  pub from_open : (p : ℕ) → p < 4 → in_use (own_reading x p) ≡ true → number ≢ number_shown (own_reading x p)
  -- "those of the most recently completed transaction": of the latest own one to get a verdict, in its place or released
  pub from_latest : number ≢ s.latest

-- the number that an accepted primary shows is such a one
abbrev pub NumberDistinct : Type 0
NumberDistinct =
    (c : Terms) (x : Exchange) → Fours x → (s : NumbersSeen) → NumbersAre x s → (q : Primary) (d room : List ℕ) (p : ℕ)
    → (open_of c x q d room).answer.asked ≡ Ok p
    → NumberNew x s (number_shown (own_reading (open_of c x q d room).answer.exchange p))

-- and so is that of a report which starts, of the places and the latest verdict as they are then
abbrev pub ReportDistinct : Type 0
ReportDistinct =
    (c : Terms) (x : Exchange) (room : List ℕ) → Fours x → (s : NumbersSeen) → NumbersAre x s → (k : Call)
    → (w : StartsReport x (called c x room k).exchange) → NumberNew (called c x room k).exchange (numbers_sees c x room s k) w.number
