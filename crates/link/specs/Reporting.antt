-- What the equipment tells the host it threw out or waited for in vain (02, request 2; E4 R1-7.6), over any calls from a start, refused ones
-- among them. The onlooker is that of exchange/specs/Reporting.antt: it goes by what a call tells the transactions and by what it answers
-- (`Tells`, specs/Verdicts.antt; `ToldExactly`, specs/Device.antt). Each proof is in `proofs/reporting/`.
use Rattle.std.specs.Prelude.{ℕ, ◌+◌, ◌/◌, ◌%◌, ◌≤◌, ◌<◌, ◌≡◌, Bool, true, false, cond, ◌||◌, List, [], ◌∷◌, ◌++◌, ◌≢◌, ◌↔◌, eqb, length, take, drop, Option}
use Rattle.wire.specs.Bytes.{halves_of}
use Rattle.wire.specs.Sum.{checksum_of}
use Rattle.header.specs.Header.{header_bytes}
use Rattle.settings.specs.declared.terms.Terms.{Terms}
use Rattle.cut.specs.Blocks.{block_count}
use Rattle.line.specs.Codes.{EOT}
use Rattle.line.specs.History.{enquired}
use Rattle.reports.specs.Reports.{waiting_in}
use Rattle.exchange.specs.Reports.{same_message}
use Rattle.exchange.specs.Watching.{watch}
use Rattle.exchange.specs.Numbers.{gets}
use Rattle.exchange.specs.Posting.{post, primary_asked}
use Rattle.exchange.specs.Reporting as exchange
use Rattle.exchange.specs.Reporting.{Reporter, nothing_reported, is_six, up_to, ReportsAre}
use Rattle.exchange.specs.declared.OwnReading.{OwnReading}
use Rattle.exchange.specs.declared.Primary.{Primary}
use Rattle.exchange.specs.declared.Sending.{Sending}
use Rattle.exchange.specs.declared.Sending.TheVariants as sending
use Rattle.exchange.specs.Underway.{OnItsWay}
use Rattle.exchange.specs.declared.ReplyStage.TheVariants as stage
use Rattle.link.specs.Reading.{own_of, sending_of, message_of, dropped_of, last_number_of}
use Rattle.link.specs.History.{byte, Room, lent_room, Made, Track, exchange_track, terms_in, on_exchange_in, answered, next, at_start}
use Rattle.link.specs.Inside.{Reached, Always}
use Rattle.link.specs.Door.{bytes_left, Watch, AtDoor, made}
use Rattle.link.specs.Verdicts.{Accepted, reply_stands}
use Rattle.link.specs.Moves.{noted}
use Rattle.link.specs.Sends.{Sender, sender_seen, block_sent}

-- ---- the onlooker of reports

-- one call
abbrev pub reporter_sees : Track → Reporter → Made → Reporter
reporter_sees t s m =
    watch (terms_in t) (exchange.reporter_sees (terms_in t)) (exchange_track t (lent_room m.room t.room)) s (on_exchange_in t m)

-- any calls
unfoldable pub reporter_watch : Track → Reporter → List Made → Reporter
reporter_watch t s [] = s
reporter_watch t s (m ∷ ms) = reporter_watch (next t m) (reporter_sees t s m) ms

-- those from the start
abbrev pub reporter_seen : (t : Track) → Reached t → Reporter
reporter_seen t w = reporter_watch (at_start w.settings w.setup.last w.room) nothing_reported w.calls

-- The reports that wait, the one on its way, and the count of those dropped are the onlooker's.
abbrev pub ReportsKept : Type 0
ReportsKept = (t : Track) (w : Reached t) → w.setup.last ≤ 65535 → ReportsAre t.link.exchange (reporter_seen t w)

-- ---- a host reports nothing (reading 31)

pub record Silent (t : Track) : Type 0 where
  pub none_sent : (f n : ℕ) → message_of t.link ≢ sending.Report f n
  pub none_waits : waiting_in t.link.exchange.reports ≡ []
  pub none_dropped : dropped_of t.link ≡ 0

abbrev pub HostSilent : Type 0
HostSilent = Always (λ t. (terms_in t).host ≡ true → Silent t)

-- ---- none is lost: counted at the door, by notes, verdicts and what is being sent

-- note 22 or 26
abbrev pub note_causes : ℕ → ℕ
note_causes n = cond (eqb n 22 || eqb n 26) 1 0

-- an own place that shows verdict 6 now, and showed none before
abbrev pub place_causes : Option OwnReading → Option OwnReading → ℕ
place_causes before after = cond (gets is_six before after) 1 0

abbrev pub places_cause : (ℕ → Option OwnReading) → (ℕ → Option OwnReading) → ℕ
places_cause before after =
    place_causes (before 0) (after 0) + place_causes (before 1) (after 1) + place_causes (before 2) (after 2) + place_causes (before 3) (after 3)

-- how much there is to report of a call
abbrev pub causes_in : Track → Made → ℕ
causes_in t m = cond (terms_in t).host 0 (note_causes (noted t m) + places_cause (own_of t.link) (own_of (next t m).link))

-- a report is being sent behind a call, and not the same one before it
abbrev pub starts_one : Bool → Sending → ℕ
starts_one same sending.Nothing = 0
starts_one same (sending.Primary p n) = 0
starts_one same (sending.Reply p f n) = 0
starts_one true (sending.Report f n) = 0
starts_one false (sending.Report f n) = 1

abbrev pub starts_in : Track → Made → ℕ
starts_in t m = starts_one (same_message (message_of t.link) (message_of (next t m).link)) (message_of (next t m).link)

-- since the start
pub record Tally : Type 0 where
  pub causes : ℕ
  pub starts : ℕ

abbrev pub tallied : Tally → Track → Made → Tally
tallied s t m = record { causes = s.causes + causes_in t m; starts = s.starts + starts_in t m }

unfoldable pub tally_watch : Track → Tally → List Made → Tally
tally_watch t s [] = s
tally_watch t s (m ∷ ms) = tally_watch (next t m) (tallied s t m) ms

abbrev pub tally_seen : (t : Track) → Reached t → Tally
tally_seen t w = tally_watch (at_start w.settings w.setup.last w.room) (record { causes = 0; starts = 0 }) w.calls

-- Each cause has started a report, or its report waits, or was dropped and counted. "Up to 8 reports wait while a message is being sent or
-- held": none does while nothing is.
pub record NoneMissing (t : Track) (s : Tally) : Type 0 where
  pub lost : ℕ
  pub all : s.causes ≡ s.starts + length (waiting_in t.link.exchange.reports) + lost
  pub counted : dropped_of t.link ≡ up_to lost
  pub most : length (waiting_in t.link.exchange.reports) ≤ 8
  pub idle : sending_of t.link ≡ false → waiting_in t.link.exchange.reports ≡ []

abbrev pub NoneLost : Type 0
NoneLost = (t : Track) (w : Reached t) → w.setup.last ≤ 65535 → NoneMissing t (tally_seen t w)

-- ---- what leaves

-- the twenty-two bytes of a report, and their sum behind them: R = 1 and the device ID; W = 0 and stream 9; its function; E = 1 and number 1;
-- source ID 0 and its transaction number; 21 0A, and the ten bytes shown
abbrev pub report_bytes : ℕ → ℕ → ℕ → List ℕ → List ℕ
report_bytes device f number shown =
    (128 + device / 256) ∷ (device % 256) ∷ 9 ∷ f ∷ 128 ∷ 1 ∷ 0 ∷ 0 ∷ (number / 256) ∷ (number % 256) ∷ 33 ∷ 10 ∷ shown

abbrev pub report_line : List ℕ → List ℕ
report_line bytes = 22 ∷ (bytes ++ halves_of (checksum_of bytes))

-- Whenever EOT answers the ENQ of a report, it leaves, byte for byte, whatever room is lent: its function and its number are those that are
-- read of what is being sent, the ten bytes those of the block or primary that it is about.
abbrev pub ReportBytes : Type 0
ReportBytes =
    (t : Track) (w : Watch) (a : AtDoor t w) → a.reached.setup.last ≤ 65535 → w.ours ≡ enquired
    → (f n : ℕ) → message_of t.link ≡ sending.Report f n → (fits : EOT < 256) (room : Room) (o : List ℕ) → Accepted t (made (byte EOT fits) room o)
    → (f ≡ (reporter_seen t a.reached).underway.function)
    × (bytes_left (answered t (made (byte EOT fits) room o))
    ≡ report_line (report_bytes a.reached.setup.device f n (reporter_seen t a.reached).underway.header))

-- "for S9F9 of the primary's last": the ten bytes that the onlooker keeps of a primary are those behind the length of its last block, as it leaves
-- (`SendsAccepted`, specs/Sends.antt)
abbrev pub LastBlocksHeader : Type 0
LastBlocksHeader =
    (c : Terms) (q : Primary) (d : List ℕ) (n : ℕ)
    → take 10 (drop 1 (block_sent (post (primary_asked c q (length d) n) d) (block_count (length d)))) ≡ header_bytes (primary_asked c q (length d) n)

-- ---- which message is being sent, as a user reads it

-- `sending` names a primary exactly while the request of that own place is on its way, with as many data bytes as were accepted; a reply
-- exactly while that of this incoming place is, with its function and length; a report with the function and number of the one that started
-- last; and nothing exactly while nothing is being sent or held.
pub record Names (t : Track) (s : Sender) (r : Reporter) : Type 0 where
  pub primary :
      (p n : ℕ) → (message_of t.link ≡ sending.Primary p n) ↔ ((p < 4) × OnItsWay (t.own p).request × (n ≡ length s.message.text))
  pub reply :
      (p f n : ℕ)
      → (message_of t.link ≡ sending.Reply p f n)
      ↔ ((p < 4) × (reply_stands t p ≡ stage.OnItsWay) × (f ≡ s.message.header.function) × (n ≡ length s.message.text))
  pub report :
      (f n : ℕ) → message_of t.link ≡ sending.Report f n → (f ≡ r.underway.function) × (n ≡ last_number_of t.link) × (s.message.header.system ≡ n)
  pub none : (message_of t.link ≡ sending.Nothing) ↔ (sending_of t.link ≡ false)

abbrev pub SendingNamed : Type 0
SendingNamed = (t : Track) (w : Reached t) → w.setup.last ≤ 65535 → Names t (sender_seen t w) (reporter_seen t w)
