-- The state of the transactions, and what changes one part of it.
use Rattle.std.specs.Prelude.{ℕ, Bool, false, cond, not, ◌&&◌, List, eqb, replicate, None, Some}
use Rattle.place.specs.Own.{fresh_own, own_has_verdict}
use Rattle.place.specs.Incoming.{fresh_incoming}
use Rattle.place.specs.declared.Own.{Own}
use Rattle.place.specs.declared.Incoming.{Incoming}
use Rattle.table.specs.Own.{own_at, own_put}
use Rattle.table.specs.Incoming.{incoming_at, incoming_put}
use Rattle.table.specs.Number.{number_of}
use Rattle.reports.specs.Reports.{no_reports}
use Rattle.exchange.specs.declared.Sending.{Sending}
use Rattle.exchange.specs.declared.Sending.TheVariants as sending
use Rattle.exchange.specs.declared.Exchange.{Exchange}

abbrev pub fresh_exchange : ℕ → Exchange
fresh_exchange last = record {
  own = replicate 4 fresh_own;
  incoming = replicate 4 fresh_incoming;
  saved = None;
  numbers = record { last = last; latest = 0 };
  sending = sending.Nothing;
  reports = no_reports;
}

abbrev pub own_place : Exchange → ℕ → Own
own_place x p = own_at x.own p

abbrev pub incoming_place : Exchange → ℕ → Incoming
incoming_place x p = incoming_at x.incoming p

-- a place got its verdict now
unfoldable pub got_verdict : Own → Own → Bool
got_verdict before after = not (own_has_verdict before) && own_has_verdict after

-- "that of the latest own transaction to get a verdict"
unfoldable pub latest_after : ℕ → Own → Own → ℕ
latest_after latest before after = cond (got_verdict before after) (number_of after) latest

-- an own place is put anew
unfoldable pub put_own : Exchange → ℕ → Own → Exchange
put_own x p o = record {
  own = own_put x.own p o;
  incoming = x.incoming;
  saved = x.saved;
  numbers = record { last = x.numbers.last; latest = latest_after x.numbers.latest (own_place x p) o };
  sending = x.sending;
  reports = x.reports;
}

-- an incoming place is put anew
unfoldable pub put_incoming : Exchange → ℕ → Incoming → Exchange
put_incoming x p i = record {
  own = x.own;
  incoming = incoming_put x.incoming p i;
  saved = x.saved;
  numbers = x.numbers;
  sending = x.sending;
  reports = x.reports;
}

-- another message is being sent, or none
unfoldable pub with_sending : Exchange → Sending → Exchange
with_sending x s = record { own = x.own; incoming = x.incoming; saved = x.saved; numbers = x.numbers; sending = s; reports = x.reports }

-- the message being sent is the primary of own place p
abbrev pub sent_from : Sending → ℕ → Bool
sent_from sending.Nothing p = false
sent_from (sending.Primary q n) p = eqb q p
sent_from (sending.Reply q f n) p = false
sent_from (sending.Report f n) p = false

-- what is being sent once a block of the reply in own place p has come: its primary no more (02, request 1: "the held block is withdrawn and
-- counts as sent")
unfoldable pub sent_behind : Sending → ℕ → Sending
sent_behind z p = cond (sent_from z p) sending.Nothing z

-- an own place is put anew by a block of its reply
unfoldable pub put_replied : Exchange → ℕ → Own → Exchange
put_replied x p o = with_sending (put_own x p o) (sent_behind x.sending p)

-- rule 2: "Otherwise the header is saved, even if the block is thrown out below."
unfoldable pub saved_now : Exchange → List ℕ → Exchange
saved_now x h = record {
  own = x.own;
  incoming = x.incoming;
  saved = Some h;
  numbers = x.numbers;
  sending = x.sending;
  reports = x.reports;
}
