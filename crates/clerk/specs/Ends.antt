-- How what is being sent ends, where `own` says what becomes of the place of a primary and `incoming` of that of a reply: what the clerk's
-- function says that serves the ACK of the last block and a block that failed.
use Rattle.std.specs.Prelude.{◌≡◌}
use Rattle.place.specs.declared.Own.{Own}
use Rattle.place.specs.declared.Incoming.{Incoming}
use Rattle.exchange.specs.Exchange.{own_place, incoming_place}
use Rattle.exchange.specs.Send.{unflagged, ended_own, ended_reply, ended_report}
use Rattle.exchange.specs.declared.Sending.{Sending}
use Rattle.exchange.specs.declared.Sending.TheVariants.{Nothing, Primary, Reply, Report}
use Rattle.exchange.specs.declared.Exchange.{Exchange}
use Rattle.exchange.specs.declared.Changed.{Changed}

abbrev pub Ends : (Own → Own → Type 0) → (Incoming → Incoming → Type 0) → Sending → Exchange → Changed → Type 0
Ends own incoming Nothing x y = y ≡ unflagged x
Ends own incoming (Primary p n) x y = (o : Own) × own (own_place x p) o × (y ≡ ended_own x p o)
Ends own incoming (Reply p f n) x y = (i : Incoming) × incoming (incoming_place x p) i × (y ≡ ended_reply x p i)
Ends own incoming (Report f n) x y = y ≡ ended_report x
