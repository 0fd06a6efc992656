-- The ranges of docs/STATE.md for the transactions.
use Rattle.std.specs.Prelude.{ℕ, ◌≤◌, ◌<◌, ◌≡◌, Bool, true, ◌&&◌, List, ◌↔◌, leb}
use Rattle.wire.specs.Message.{message_limit}
use Rattle.place.specs.Range.{own_in_range, incoming_in_range, OwnFits, IncomingFits}
use Rattle.place.specs.declared.Own.{Own}
use Rattle.place.specs.declared.Incoming.{Incoming}
use Rattle.table.specs.Own.{own_at}
use Rattle.table.specs.Incoming.{incoming_at}
use Rattle.reports.specs.Reports.{reports_in_range}
use Rattle.exchange.specs.declared.Sending.{Sending}
use Rattle.exchange.specs.declared.Sending.TheVariants as sending
use Rattle.exchange.specs.declared.Exchange.{Exchange}

unfoldable pub owns_in_range : List Own → Bool
owns_in_range os = own_in_range (own_at os 0) && (own_in_range (own_at os 1) && (own_in_range (own_at os 2) && own_in_range (own_at os 3)))

unfoldable pub incomings_in_range : List Incoming → Bool
incomings_in_range is =
    incoming_in_range (incoming_at is 0) && (incoming_in_range (incoming_at is 1) && (incoming_in_range (incoming_at is 2) && incoming_in_range (incoming_at is 3)))

-- the place of the message being sent is one of four, and its data fits the send area
unfoldable pub message_in_range : ℕ → ℕ → Bool
message_in_range p n = leb p 3 && leb n message_limit

abbrev pub sending_in_range : Sending → Bool
sending_in_range sending.Nothing = true
sending_in_range (sending.Primary p n) = message_in_range p n
sending_in_range (sending.Reply p f n) = message_in_range p n
sending_in_range (sending.Report f n) = true

unfoldable pub exchange_in_range : Exchange → Bool
exchange_in_range x = owns_in_range x.own && (incomings_in_range x.incoming && (sending_in_range x.sending && reports_in_range x.reports))

-- ---- the same in numbers, field by field

-- the place and the data bytes of the message being sent
abbrev pub SendingFits : Sending → Type 0
SendingFits sending.Nothing = Unit {0}
SendingFits (sending.Primary p n) = (p ≤ 3) × (n ≤ message_limit)
SendingFits (sending.Reply p f n) = (p ≤ 3) × (n ≤ message_limit)
SendingFits (sending.Report f n) = Unit {0}

pub record ExchangeFits (x : Exchange) : Type 0 where
  pub own : (p : ℕ) → p < 4 → OwnFits (own_at x.own p)
  pub incoming : (p : ℕ) → p < 4 → IncomingFits (incoming_at x.incoming p)
  pub sending : SendingFits x.sending
  -- "Up to 8 reports wait"
  pub waiting : x.reports.count ≤ 8

-- The tests ask for these ranges, and no more.
abbrev pub SendingFitsExactly : Type 0
SendingFitsExactly = (s : Sending) → sending_in_range s ≡ true ↔ SendingFits s

abbrev pub ExchangeFitsExactly : Type 0
ExchangeFitsExactly = (x : Exchange) → exchange_in_range x ≡ true ↔ ExchangeFits x
