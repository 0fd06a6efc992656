-- Reports of stream 9 (E4 R1-7.6; 02, request 2: "Tell the host what was thrown out"): what a report is on the line, when one starts, and when
-- it waits. Which calls cause one is said where these are: `judge_of` (specs/Judge.antt), `tick_of` (specs/Tick.antt).
use Rattle.std.specs.Prelude.{ℕ, Bool, true, false, cond, not, ◌&&◌, List, ◌∷◌, eqb, take}
use Rattle.header.specs.declared.header.Header.{Header}
use Rattle.settings.specs.declared.terms.Terms.{Terms}
use Rattle.place.specs.declared.Own.{Own}
use Rattle.table.specs.Number.{next_number}
use Rattle.reports.specs.Reports.{added, oldest, without_oldest, showing}
use Rattle.reports.specs.declared.Report.{Report}
use Rattle.exchange.specs.Request.{sending_by}
use Rattle.exchange.specs.declared.Sending.{Sending}
use Rattle.exchange.specs.declared.Sending.TheVariants as sending
use Rattle.exchange.specs.declared.Outbox.{Outbox}
use Rattle.exchange.specs.declared.Exchange.{Exchange}

-- ---- on the line

-- its own header: to the host, so R = 1; "all with W = 0, source ID 0 and a new transaction number"; a single block has number 1 and E = 1
abbrev pub report_header : ℕ → ℕ → ℕ → Header
report_header device f number = record {
  r = true;
  device = device;
  w = false;
  stream = 9;
  function = f;
  e = true;
  number = 1;
  system = number;
}

-- "The body is the two bytes hex 21 0A, then the ten header bytes of the offending block"
abbrev pub report_body : List ℕ → List ℕ
report_body shown = 33 ∷ 10 ∷ take 10 shown

-- ---- the part of the state that a report touches

abbrev pub outbox_of : Exchange → Outbox
outbox_of x = record { last = x.numbers.last; sending = x.sending; reports = x.reports }

-- places, saved header and the latest verdict's number are as they were
abbrev pub with_outbox : Exchange → Outbox → Exchange
with_outbox x b = record {
  own = x.own;
  incoming = x.incoming;
  saved = x.saved;
  numbers = record { last = b.last; latest = x.numbers.latest };
  sending = b.sending;
  reports = b.reports;
}

-- ---- which message

-- it is the same one
abbrev pub same_message : Sending → Sending → Bool
same_message sending.Nothing sending.Nothing = true
same_message sending.Nothing (sending.Primary q m) = false
same_message sending.Nothing (sending.Reply q g m) = false
same_message sending.Nothing (sending.Report g m) = false
same_message (sending.Primary p n) sending.Nothing = false
same_message (sending.Primary p n) (sending.Primary q m) = eqb p q && eqb n m
same_message (sending.Primary p n) (sending.Reply q g m) = false
same_message (sending.Primary p n) (sending.Report g m) = false
same_message (sending.Reply p f n) sending.Nothing = false
same_message (sending.Reply p f n) (sending.Primary q m) = false
same_message (sending.Reply p f n) (sending.Reply q g m) = eqb p q && (eqb f g && eqb n m)
same_message (sending.Reply p f n) (sending.Report g m) = false
same_message (sending.Report f n) sending.Nothing = false
same_message (sending.Report f n) (sending.Primary q m) = false
same_message (sending.Report f n) (sending.Reply q g m) = false
same_message (sending.Report f n) (sending.Report g m) = eqb f g && eqb n m

-- ---- a report starts

-- "a new transaction number, taken when the report starts": it is being sent with that number from then on
abbrev pub started_as : Outbox → Report → ℕ → Outbox
started_as b r number = record { last = number; sending = sending.Report r.function number; reports = showing b.reports r.header }

-- by 01's rule: the next after the last given, passing over those of own places in use and that of the latest verdict
unfoldable pub starts : List Own → ℕ → Outbox → Report → Outbox
starts own latest b r = started_as b r (next_number own b.last latest)

-- ---- one that is due

-- "Up to 8 reports wait while a message is being sent or held"
abbrev pub awaits : Outbox → Report → Outbox
awaits b r = record { last = b.last; sending = b.sending; reports = added b.reports r }

unfoldable pub reported : List Own → ℕ → Outbox → Report → Outbox
reported own latest b r = cond (sending_by b.sending) (awaits b r) (starts own latest b r)

-- a cause: "the equipment side" reports, a host nothing
unfoldable pub caused : Terms → List Own → ℕ → Outbox → Report → Outbox
caused c own latest b r = cond c.host b (reported own latest b r)

-- ---- the line is freed

abbrev pub without_first : Outbox → Outbox
without_first b = record { last = b.last; sending = b.sending; reports = without_oldest b.reports }

-- "the oldest goes first"
unfoldable pub oldest_starts : List Own → ℕ → Outbox → Outbox
oldest_starts own latest b = cond (eqb b.reports.count 0) b (starts own latest (without_first b) (oldest b.reports))

-- the message that was being sent is over: `before` was being sent, and nothing is now
unfoldable pub is_over : Sending → Sending → Bool
is_over before after = sending_by before && not (sending_by after)

-- "in the call that frees the line"
unfoldable pub freed : Sending → List Own → ℕ → Outbox → Outbox
freed before own latest b = cond (is_over before b.sending) (oldest_starts own latest b) b

-- what is left of a state in which `before` was being sent
unfoldable pub freed_in : Sending → Exchange → Outbox
freed_in before x = freed before x.own x.numbers.latest (outbox_of x)
