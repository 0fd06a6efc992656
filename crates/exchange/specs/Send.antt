-- The message that is being sent: what it is, and how its sending ends (E4 7.3; 01, "Messages"); a report that waits starts then (02,
-- request 2).
use Rattle.std.specs.Prelude.{ℕ, false, not}
use Rattle.header.specs.declared.header.Header.{Header}
use Rattle.place.specs.Own.{primary_of as own_primary, own_put_out, own_sent, own_failed}
use Rattle.place.specs.Incoming.{primary_of as incoming_primary, incoming_sent, incoming_failed}
use Rattle.place.specs.declared.Own.{Own}
use Rattle.place.specs.declared.Incoming.{Incoming}
use Rattle.exchange.specs.Flags.{no_flags, verdict_flag}
use Rattle.exchange.specs.Exchange.{own_place, incoming_place, got_verdict, put_own, put_incoming, with_sending}
use Rattle.exchange.specs.Reports.{with_outbox, freed_in}
use Rattle.exchange.specs.declared.Sending.{Sending}
use Rattle.exchange.specs.declared.Sending.TheVariants.{Nothing, Primary, Reply, Report}
use Rattle.exchange.specs.declared.Exchange.{Exchange}
use Rattle.exchange.specs.declared.Changed.{Changed}
use Rattle.exchange.specs.declared.Outgoing.{Outgoing}
use Rattle.exchange.specs.declared.Outgoing.TheVariants as outgoing

-- "A reply of ours has W = 0"; "the complement of the R-bit" and the same system bytes (E4 7.3.1, 6.8.2); the stream is the primary's
abbrev pub reply_to : Header → ℕ → Header
reply_to h f = record {
  r = not h.r;
  device = h.device;
  w = false;
  stream = h.stream;
  function = f;
  e = false;
  number = 0;
  system = h.system;
}

abbrev pub outgoing_at : Sending → Exchange → Outgoing
outgoing_at Nothing x = outgoing.Nothing
outgoing_at (Primary p n) x = outgoing.Message (own_primary (own_place x p)) n
outgoing_at (Reply p f n) x = outgoing.Message (reply_to (incoming_primary (incoming_place x p)) f) n
outgoing_at (Report f n) x = outgoing.Report f n

abbrev pub outgoing_of : Exchange → Outgoing
outgoing_of x = outgoing_at x.sending x

abbrev pub put_out_by : Sending → Exchange → Exchange
put_out_by Nothing x = x
put_out_by (Primary p n) x = put_own x p (own_put_out (own_place x p))
put_out_by (Reply p f n) x = x
put_out_by (Report f n) x = x

-- the last block of the message being sent is put out: a reply of ours, and a report, await nothing. It goes on being sent, and no flag is
-- raised.
abbrev pub put_out_of : Exchange → Exchange
put_out_of x = put_out_by x.sending x

-- with no flag raised
abbrev pub unflagged : Exchange → Changed
unflagged x = record { exchange = x; flags = no_flags }

-- the sending of a primary is over
unfoldable pub ended_own : Exchange → ℕ → Own → Changed
ended_own x p o = record { exchange = with_sending (put_own x p o) Nothing; flags = verdict_flag p (got_verdict (own_place x p) o) }

-- the sending of a reply is over: that raises no flag
unfoldable pub ended_reply : Exchange → ℕ → Incoming → Changed
ended_reply x p i = unflagged (with_sending (put_incoming x p i) Nothing)

-- a report is over: it has no place and no verdict
unfoldable pub ended_report : Exchange → Changed
ended_report x = unflagged (with_sending x Nothing)

abbrev pub sent_by : Sending → Exchange → Changed
sent_by Nothing x = unflagged x
sent_by (Primary p n) x = ended_own x p (own_sent (own_place x p))
sent_by (Reply p f n) x = ended_reply x p (incoming_sent (incoming_place x p))
sent_by (Report f n) x = ended_report x

-- the oldest report that waits starts in the call that ends a message, `before`
abbrev pub freeing : Sending → Changed → Changed
freeing before y = record { exchange = with_outbox y.exchange (freed_in before y.exchange); flags = y.flags }

-- the last block of the message being sent was acknowledged
abbrev pub sent_of : Exchange → Changed
sent_of x = freeing x.sending (sent_by x.sending x)

abbrev pub failed_by : Sending → Exchange → Changed
failed_by Nothing x = unflagged x
failed_by (Primary p n) x = ended_own x p (own_failed (own_place x p))
failed_by (Reply p f n) x = ended_reply x p (incoming_failed (incoming_place x p))
failed_by (Report f n) x = ended_report x

-- a block of it failed
abbrev pub failed_of : Exchange → Changed
failed_of x = freeing x.sending (failed_by x.sending x)
