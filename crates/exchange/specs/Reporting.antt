-- Which reports wait, which one is on its way and how many were dropped (02, request 2), over every list of calls from a fresh start. An
-- onlooker keeps them too: by the notes of blocks, by the verdicts that a user reads, by what is accepted and by the ends of messages. Each
-- proof is in `proofs/Reporting.antt`.
use Rattle.std.specs.Prelude.{ℕ, ◌+◌, ◌≤◌, ◌<◌, ◌≡◌, Bool, true, false, cond, ◌&&◌, ◌||◌, List, [], ◌∷◌, ◌++◌, ◌≢◌, eqb, ltb, length, Option, Some, None, Ok, Err}
use Rattle.header.specs.Header.{header_of, header_bytes}
use Rattle.settings.specs.declared.terms.Terms.{Terms}
use Rattle.place.specs.declared.Verdict.{Verdict}
use Rattle.place.specs.declared.Verdict.TheVariants.{Sent, Answered, Declined, Other, Broken, NoReply, SendFailed}
use Rattle.table.specs.Own.{reply_for}
use Rattle.reports.specs.Reports.{report, no_report, waiting_in}
use Rattle.reports.specs.Theorems.{Sound}
use Rattle.reports.specs.declared.Report.{Report}
use Rattle.exchange.specs.Exchange.{own_place, sent_from}
use Rattle.exchange.specs.Request.{Request, primary, reply, freeing_own, freeing_incoming, answer_of}
use Rattle.exchange.specs.Reports.{outbox_of, with_outbox}
use Rattle.exchange.specs.Tick.{tick_of}
use Rattle.exchange.specs.Send.{sent_of, failed_of}
use Rattle.exchange.specs.Judge.{judge_of}
use Rattle.exchange.specs.Reading.{own_reading}
use Rattle.exchange.specs.Rules.{Fours, noted, Begun, PutBy}
use Rattle.exchange.specs.History.{Call, block, tick, put_out, acknowledged, failed, request, called, anew, track, at_start}
use Rattle.exchange.specs.Watching.{watch}
use Rattle.exchange.specs.Numbers.{number_shown, gets, in_use}
use Rattle.exchange.specs.Posting.{primary_asked}
use Rattle.exchange.specs.declared.OwnReading.{OwnReading}
use Rattle.exchange.specs.declared.Sending.{Sending}
use Rattle.exchange.specs.declared.Sending.TheVariants as sending
use Rattle.exchange.specs.declared.Exchange.{Exchange}
use Rattle.exchange.specs.Asked.{Asked}

-- ---- what the onlooker keeps

-- whether a message is being sent or held: none, one that was accepted, or a report
pub data Turn : Type 0 where
  nobody caller reporter : Turn

pub record Reporter : Type 0 where
  pub turn : Turn
  -- those that wait, the oldest first
  pub waiting : List Report
  -- the one that started last
  pub underway : Report
  -- how many causes there were, how many reports started, and how many were dropped, since the start
  pub causes : ℕ
  pub starts : ℕ
  pub lost : ℕ
  -- of the primary that was accepted last for each own place: the ten header bytes of its last block
  pub primaries : ℕ → List ℕ

abbrev pub nothing_reported : Reporter
nothing_reported =
    record { turn = nobody; waiting = []; underway = no_report; causes = 0; starts = 0; lost = 0; primaries = λ p. [] }

abbrev pub is_nobody : Turn → Bool
is_nobody nobody = true
is_nobody caller = false
is_nobody reporter = false

-- ---- what happens

-- a report starts, and these wait then
abbrev pub begins : Report → List Report → Reporter → Reporter
begins r rest s = record {
  turn = reporter;
  waiting = rest;
  underway = r;
  causes = s.causes;
  starts = s.starts + 1;
  lost = s.lost;
  primaries = s.primaries;
}

-- one more waits
abbrev pub waits_too : Report → Reporter → Reporter
waits_too r s = record {
  turn = s.turn;
  waiting = s.waiting ++ (r ∷ []);
  underway = s.underway;
  causes = s.causes;
  starts = s.starts;
  lost = s.lost;
  primaries = s.primaries;
}

-- "A ninth is dropped, and a count of those, defined from the history, goes up by one."
abbrev pub is_lost : Reporter → Reporter
is_lost s = record {
  turn = s.turn;
  waiting = s.waiting;
  underway = s.underway;
  causes = s.causes;
  starts = s.starts;
  lost = s.lost + 1;
  primaries = s.primaries;
}

-- one more cause
abbrev pub counted : Reporter → Reporter
counted s = record {
  turn = s.turn;
  waiting = s.waiting;
  underway = s.underway;
  causes = s.causes + 1;
  starts = s.starts;
  lost = s.lost;
  primaries = s.primaries;
}

-- A report is due: while nothing is being sent or held it starts in the call of its cause, else it waits (reading 32); one that finds 8 waiting
-- is itself dropped and counted.
unfoldable pub is_due : Report → Reporter → Reporter
is_due r s =
    cond (is_nobody s.turn) (begins r s.waiting (counted s))
    (cond (ltb (length s.waiting) 8) (waits_too r (counted s)) (is_lost (counted s)))

-- at the equipment alone: a host reports nothing (reading 31)
abbrev pub is_caused : Terms → Report → Reporter → Reporter
is_caused c r s = cond c.host s (is_due r s)

-- the message is over, and nothing is being sent
abbrev pub rests : Reporter → Reporter
rests s = record {
  turn = nobody;
  waiting = s.waiting;
  underway = s.underway;
  causes = s.causes;
  starts = s.starts;
  lost = s.lost;
  primaries = s.primaries;
}

-- the oldest starts in the call that ends a message (reading 32)
abbrev pub oldest_of : List Report → Reporter → Reporter
oldest_of [] s = rests s
oldest_of (r ∷ rest) s = begins r rest s

abbrev pub ends : Turn → Reporter → Reporter
ends nobody s = s
ends caller s = oldest_of s.waiting s
ends reporter s = oldest_of s.waiting s

-- ---- the causes

-- by the note of a block with header bytes h: 22 gives S9F1, 26 gives S9F11, and no other note gives any (reading 31)
abbrev pub by_note : Terms → ℕ → List ℕ → Reporter → Reporter
by_note c n h s = cond (eqb n 22) (is_caused c (report 1 h) s) (cond (eqb n 26) (is_caused c (report 11 h) s) s)

abbrev pub is_six : Verdict → Bool
is_six Sent = false
is_six Answered = false
is_six Declined = false
is_six Other = false
is_six Broken = false
is_six NoReply = true
is_six SendFailed = false

-- own place p shows verdict 6 now, and showed no verdict before: S9F9 with the header of the primary's last block as it was sent (reading 31)
abbrev pub by_place : Terms → (ℕ → Option OwnReading) → (ℕ → Option OwnReading) → ℕ → Reporter → Reporter
by_place c before after p s = cond (gets is_six (before p) (after p)) (is_caused c (report 9 (s.primaries p)) s) s

-- then places 0 to 3 add theirs (reading 34)
abbrev pub by_places : Terms → (ℕ → Option OwnReading) → (ℕ → Option OwnReading) → Reporter → Reporter
by_places c before after s = by_place c before after 3 (by_place c before after 2 (by_place c before after 1 (by_place c before after 0 s)))

-- the block is of the reply to the primary being sent: "the held block is withdrawn and counts as sent" (02, request 1), if it is kept or
-- breaks the reply
abbrev pub of_sent : Option ℕ → Sending → Bool
of_sent (Some p) z = sent_from z p
of_sent None z = false

abbrev pub proves : Exchange → List ℕ → ℕ → Bool
proves x h n = (eqb n 21 || (eqb n 26 || eqb n 27)) && of_sent (reply_for x.own (header_of h)) x.sending

-- ---- a request that was accepted for place p: a message is being sent; a release has no part in it

abbrev pub sends : Turn → (ℕ → List ℕ) → Reporter → Reporter
sends turn primaries s = record {
  turn = turn;
  waiting = s.waiting;
  underway = s.underway;
  causes = s.causes;
  starts = s.starts;
  lost = s.lost;
  primaries = primaries;
}

abbrev pub reporter_taken : Terms → (ℕ → Option OwnReading) → Request → ℕ → Reporter → Reporter
reporter_taken c after (primary q d) p s =
    sends caller (anew s.primaries p (header_bytes (primary_asked c q (length d) (number_shown (after p))))) s
reporter_taken c after (reply k f d) p s = sends caller s.primaries s
reporter_taken c after (freeing_own k) p s = s
reporter_taken c after (freeing_incoming k) p s = s

abbrev pub reporter_asked : Terms → (ℕ → Option OwnReading) → Request → Asked → Reporter → Reporter
reporter_asked c after r (Ok p) s = reporter_taken c after r p s
reporter_asked c after r (Err n) s = s

-- ---- any call

abbrev pub reporter_sees : Terms → Exchange → List ℕ → Reporter → Call → Reporter
reporter_sees c x room s (block h d) =
    by_note c (noted (judge_of c x h d room)) h (cond (proves x h (noted (judge_of c x h d room))) (ends s.turn s) s)
reporter_sees c x room s tick = by_places c (own_reading x) (own_reading (called c x room tick).exchange) s
-- not between blocks (reading 32): only a last one is told
reporter_sees c x room s put_out = s
reporter_sees c x room s acknowledged = ends s.turn s
reporter_sees c x room s failed = ends s.turn s
reporter_sees c x room s (request r) =
    reporter_asked c (own_reading (answer_of c x r room).answer.exchange) r (answer_of c x r room).answer.asked s

abbrev pub reporter_watch : Terms → ℕ → List ℕ → List Call → Reporter
reporter_watch c last room ks = watch c (reporter_sees c) (at_start last room) nothing_reported ks

-- ---- what the state keeps

-- what is being sent is by whose turn it is
abbrev pub TurnIs : Sending → Turn → Report → List ℕ → Type 0
TurnIs sending.Nothing z r shown = z ≡ nobody
TurnIs (sending.Primary p n) z r shown = z ≡ caller
TurnIs (sending.Reply p f n) z r shown = z ≡ caller
-- a report is the one that started last, and shows its ten bytes
TurnIs (sending.Report f n) z r shown = (z ≡ reporter) × (r ≡ report f shown)

-- as many as were dropped, up to 4,294,967,295
abbrev pub up_to : ℕ → ℕ
up_to n = cond (ltb n 4294967295) n 4294967295

pub record ReportsAre (x : Exchange) (s : Reporter) : Type 0 where
  pub sound : Sound x.reports
  pub turn : TurnIs x.sending s.turn s.underway x.reports.shown
  pub waiting : waiting_in x.reports ≡ s.waiting
  pub dropped : x.reports.dropped ≡ up_to s.lost
  -- an own place in use keeps the header of its primary's last block
  pub primaries : (p : ℕ) → p < 4 → in_use (own_reading x p) ≡ true → (own_place x p).header ≡ s.primaries p
  -- none is lost: each cause has started a report, or its report waits, or was dropped and counted
  pub none_lost : s.causes ≡ s.starts + length s.waiting + s.lost
  -- "Up to 8 reports wait while a message is being sent or held", and none while nothing is
  pub most : length s.waiting ≤ 8
  pub none_idle : s.turn ≡ nobody → s.waiting ≡ []

-- where they are so, they are after any call more
abbrev pub ReportsKeptOn : Type 0
ReportsKeptOn =
    (c : Terms) (x : Exchange) (room : List ℕ) → Fours x → x.numbers.last ≤ 65535 → (s : Reporter) (k : Call)
    → ReportsAre x s → ReportsAre (called c x room k).exchange (reporter_sees c x room s k)

-- and so they are after any calls from a fresh start
abbrev pub ReportsKept : Type 0
ReportsKept =
    (c : Terms) (last : ℕ) (room : List ℕ) → last ≤ 65535 → length room ≡ 36864 → (ks : List Call)
    → ReportsAre (track c (at_start last room) ks).exchange (reporter_watch c last room ks)

-- ---- one call: plain words, that no onlooker's rule stands for. Of a block `BoxGoes` (specs/Rules.antt) says it, of a request
-- `AcceptedOpens`, `AcceptedReplies`, `AcceptedReleases` (specs/Refusals.antt).

-- the S9F9 of own place p, if it shows verdict 6 behind the call and showed no verdict before it: its ten bytes are those that the place keeps
abbrev pub late_in : Exchange → Exchange → ℕ → List Report
late_in before after p = cond (gets is_six (own_reading before p) (own_reading after p)) (report 9 (own_place after p).header ∷ []) []

-- places 0 to 3 add theirs (reading 34), at the equipment
abbrev pub lates_in : Terms → Exchange → Exchange → List Report
lates_in c before after =
    cond c.host [] (late_in before after 0 ++ (late_in before after 1 ++ (late_in before after 2 ++ late_in before after 3)))

-- the places, and the number of the latest verdict, are the same in both
pub record SamePlaces (x y : Exchange) : Type 0 where
  pub own : y.own ≡ x.own
  pub latest : y.numbers.latest ≡ x.numbers.latest

-- These reports are due, one after the other, between two states with the same places: each starts if nothing is being sent when it is due,
-- else it waits, or is dropped (`EachComes`, reports/specs/Theorems.antt).
pub data Adds : List Report → Exchange → Exchange → Type 0 where
  no_more : (x : Exchange) → Adds [] x x
  one_starts :
      (r : Report) (rs : List Report) (x y z : Exchange) → SamePlaces x y → x.sending ≡ sending.Nothing
      → Begun x.numbers.last r (waiting_in x.reports) x.reports.dropped y → Adds rs y z → Adds (r ∷ rs) x z
  one_waits :
      (r : Report) (rs : List Report) (x y z : Exchange) → SamePlaces x y → x.sending ≢ sending.Nothing → PutBy r x y → Adds rs y z
      → Adds (r ∷ rs) x z

-- Behind a tick: with the places as the tick left them, from what was being sent, the last number and those that waited before it.
abbrev pub TickAdds : Type 0
TickAdds =
    (c : Terms) (x : Exchange) → Fours x → Sound x.reports
    → Adds (lates_in c x (tick_of c x).exchange) (with_outbox (tick_of c x).exchange (outbox_of x)) (tick_of c x).exchange

-- nothing is being sent, and no number was given
pub record PutDown (x y : Exchange) : Type 0 where
  pub last : y.numbers.last ≡ x.numbers.last
  pub sending_none : y.sending ≡ sending.Nothing
  pub reports : y.reports ≡ x.reports

-- The end of a send, by the ACK of its last block or by its failure.
pub record Frees (x y : Exchange) : Type 0 where
  -- where nothing was being sent, nothing changes
  pub none : x.sending ≡ sending.Nothing → outbox_of y ≡ outbox_of x
  -- where none waits, nothing is being sent then
  pub empty : x.sending ≢ sending.Nothing → waiting_in x.reports ≡ [] → PutDown x y
  -- the oldest starts in the call that ends a message (reading 32)
  pub oldest :
      x.sending ≢ sending.Nothing → (r : Report) (rest : List Report) → waiting_in x.reports ≡ r ∷ rest
      → Begun x.numbers.last r rest x.reports.dropped y

abbrev pub EndFrees : Type 0
EndFrees = (x : Exchange) → Sound x.reports → Frees x (sent_of x).exchange × Frees x (failed_of x).exchange
