-- What is being sent is what was accepted for sending (demand 2, "What the unit sends"), or a report that started (02, request 2). An onlooker
-- goes by requests and their answers, and by what a user reads of the places and of what is being sent; of the message that was accepted, or
-- of the report that started, last it keeps the header and the data. The ten bytes that a report shows are taken from the state; which they
-- are: `ReportsKept` (specs/Reporting.antt). Each proof is in `proofs/Posting.antt`.
use Rattle.std.specs.Prelude.{ℕ, ◌+◌, ◌*◌, ◌≤◌, ◌≡◌, Bool, true, false, not, List, [], ◌∷◌, length, Ok, Err, Option}
use Rattle.cut.specs.Blocks.{block_count}
use Rattle.header.specs.Header.{InRange}
use Rattle.header.specs.declared.header.Header.{Header}
use Rattle.settings.specs.declared.terms.Terms.{Terms}
use Rattle.place.specs.Message.{no_header}
use Rattle.exchange.specs.Send.{outgoing_of}
use Rattle.exchange.specs.Request.{Request, primary, reply, freeing_own, freeing_incoming, answer_of}
use Rattle.exchange.specs.Reports.{same_message}
use Rattle.exchange.specs.Reading.{own_reading, incoming_reading, header_by}
use Rattle.exchange.specs.Numbers.{number_shown}
use Rattle.exchange.specs.History.{Call, block, tick, put_out, acknowledged, failed, request, called, track, at_start}
use Rattle.exchange.specs.Theorems.{length_sent, from_caller}
use Rattle.exchange.specs.Watching.{watch}
use Rattle.exchange.specs.declared.Sending.{Sending}
use Rattle.exchange.specs.declared.Sending.TheVariants as sending
use Rattle.exchange.specs.declared.Exchange.{Exchange}
use Rattle.exchange.specs.declared.OwnReading.{OwnReading}
use Rattle.exchange.specs.declared.IncomingReading.{IncomingReading}
use Rattle.exchange.specs.declared.Outgoing.TheVariants as outgoing
use Rattle.exchange.specs.declared.Primary.{Primary}
use Rattle.exchange.specs.Asked.{Asked}

-- ---- a message as it was accepted

-- its header, whose block number and E each block has its own of, and its data
pub record Post : Type 0 where
  pub header : Header
  pub text : List ℕ

abbrev pub post : Header → List ℕ → Post
post h d = record { header = h; text = d }

abbrev pub nothing_posted : Post
nothing_posted = post no_header []

-- a primary of n data bytes as it was asked for, with the number given, and with block number and E of its last block: "R = 1 means to the
-- host"; "System bytes: the caller's 16-bit source ID, then the number."
abbrev pub primary_asked : Terms → Primary → ℕ → ℕ → Header
primary_asked c q n number = record {
  r = not c.host;
  device = c.device;
  w = q.w;
  stream = q.stream;
  function = q.function;
  e = true;
  number = block_count n;
  system = q.source * 65536 + number;
}

-- a reply to primary h with the function asked for: "A reply of ours has W = 0"; "the complement of the R-bit", and the same stream, device
-- ID and system bytes (E4 7.3.1, 6.8.2)
abbrev pub reply_asked : Header → ℕ → Header
reply_asked h f = record {
  r = not h.r;
  device = h.device;
  w = false;
  stream = h.stream;
  function = f;
  e = false;
  number = 0;
  system = h.system;
}

-- a report of function f with this number, which shows the ten bytes h: to the host, in stream 9, "all with W = 0, source ID 0 and a new
-- transaction number"; "The body is the two bytes hex 21 0A, then the ten header bytes"
abbrev pub report_sent : ℕ → ℕ → ℕ → List ℕ → Post
report_sent device f number h =
    post (record { r = true; device = device; w = false; stream = 9; function = f; e = true; number = 1; system = number }) (33 ∷ 10 ∷ h)

-- ---- the onlooker

-- A request was accepted for place p: the number of a primary is what its own place shows then, the header of the message to be replied to
-- what its incoming place showed before. A release posts nothing.
abbrev pub post_taken : Terms → (ℕ → Option IncomingReading) → (ℕ → Option OwnReading) → Request → ℕ → Post → Post
post_taken c before after (primary q d) p s = post (primary_asked c q (length d) (number_shown (after p))) d
post_taken c before after (reply k f d) p s = post (reply_asked (header_by (before p)) f) d
post_taken c before after (freeing_own k) p s = s
post_taken c before after (freeing_incoming k) p s = s

-- one that was refused does not either
abbrev pub post_asked : Terms → (ℕ → Option IncomingReading) → (ℕ → Option OwnReading) → Request → Asked → Post → Post
post_asked c before after r (Ok p) s = post_taken c before after r p s
post_asked c before after r (Err n) s = s

-- what is being sent behind a call is a report, and the same was not before: it shows these ten bytes
abbrev pub post_started : Terms → Bool → Sending → List ℕ → Post → Post
post_started c same sending.Nothing shown s = s
post_started c same (sending.Primary p n) shown s = s
post_started c same (sending.Reply p f n) shown s = s
post_started c true (sending.Report f n) shown s = s
post_started c false (sending.Report f n) shown s = report_sent c.device f n shown

abbrev pub post_reported : Terms → Exchange → Exchange → Post → Post
post_reported c before after s = post_started c (same_message before.sending after.sending) after.sending after.reports.shown s

abbrev pub post_sees : Terms → Exchange → List ℕ → Post → Call → Post
post_sees c x room s (block h d) = post_reported c x (called c x room (block h d)).exchange s
post_sees c x room s tick = post_reported c x (called c x room tick).exchange s
post_sees c x room s put_out = s
post_sees c x room s acknowledged = post_reported c x (called c x room acknowledged).exchange s
post_sees c x room s failed = post_reported c x (called c x room failed).exchange s
post_sees c x room s (request r) =
    post_asked c (incoming_reading x) (own_reading (answer_of c x r room).answer.exchange) r (answer_of c x r room).answer.asked s

-- ---- what is being sent

-- where a message is being sent, it is the one that was posted: as many data bytes, and its header, if each of its numbers has no more than
-- its bits, which a caller's types see to
pub record Posted (c : Terms) (x : Exchange) (s : Post) : Type 0 where
  pub size : from_caller x.sending ≡ true → length_sent x.sending ≡ length s.text
  pub message : from_caller x.sending ≡ true → InRange s.header → outgoing_of x ≡ outgoing.Message s.header (length s.text)
  -- and where a report is, it is that one
  pub report : (f n : ℕ) → x.sending ≡ sending.Report f n → s ≡ report_sent c.device f n x.reports.shown

-- After any calls from a fresh start that message is the one which was accepted, or the report which started, last. ("last transaction number
-- | 0 to 65535", which the setting's type keeps to.)
abbrev pub OutgoingAccepted : Type 0
OutgoingAccepted =
    (c : Terms) (last : ℕ) (room : List ℕ) → last ≤ 65535 → length room ≡ 36864 → (ks : List Call)
    → Posted c (track c (at_start last room) ks).exchange (watch c (post_sees c) (at_start last room) nothing_posted ks)
