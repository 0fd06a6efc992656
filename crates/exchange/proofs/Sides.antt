-- Own places and incoming ones, by side (`specs/Releases.antt`): what holds of both is said and proved once. Assumes nothing.
use Prim.Native.Nat.{ℕ}
use mathlib.Core.Path.{◌≡◌}
use mathlib.Core.Bool.{Bool, not}
use mathlib.Core.List.{List}
use lib.ListN.{get_or}
use Rattle.settings.specs.declared.terms.Terms.{Terms}
use Rattle.place.specs.Own.{fresh_own}
use Rattle.place.specs.OwnHistory as own
use Rattle.place.specs.OwnTheorems as owns
use Rattle.place.specs.Incoming.{fresh_incoming}
use Rattle.place.specs.IncomingHistory as incoming
use Rattle.place.specs.IncomingTheorems as incomings
use Rattle.place.specs.declared.Own.{Own}
use Rattle.place.specs.declared.Incoming.{Incoming}
use Rattle.exchange.specs.History.{Call}
use Rattle.exchange.specs.Releases.{Side}
use Rattle.exchange.specs.Releases as side
use Rattle.exchange.specs.Watching.{own_sees, incoming_sees}
use Rattle.exchange.specs.declared.Exchange.{Exchange}

-- ---- a place, its events and its onlooker

abbrev pub Place : Side → Type 0
Place side.own = Own
Place side.incoming = Incoming

abbrev pub Event : Side → Terms → Type 0
Event side.own c = own.Event c
Event side.incoming c = incoming.Event c

abbrev pub Seen : Side → Type 0
Seen side.own = own.Seen
Seen side.incoming = incoming.Seen

abbrev pub fresh : (z : Side) → Place z
fresh side.own = fresh_own
fresh side.incoming = fresh_incoming

abbrev pub nothing_seen : (z : Side) → Seen z
nothing_seen side.own = own.nothing_seen
nothing_seen side.incoming = incoming.nothing_seen

abbrev pub step : (z : Side) (c : Terms) → Place z → Event z c → Place z
step side.own c o e = own.step o e
step side.incoming c i e = incoming.step i e

abbrev pub sees : (z : Side) (c : Terms) → Place z → Seen z → Event z c → Seen z
sees side.own c o s e = own.sees o s e
sees side.incoming c i s e = incoming.sees i s e

abbrev pub spares : (z : Side) (c : Terms) → Event z c → Bool
spares side.own c e = owns.spares e
spares side.incoming c e = incomings.spares e

-- the place and what is seen of it are as events at a place leave them
abbrev pub Reached : (z : Side) → Terms → Place z → Seen z → Type 0
Reached side.own c o s = owns.Reached c (record { own = o; seen = s })
Reached side.incoming c i s = incomings.Reached c (record { incoming = i; seen = s })

-- ---- among the transactions

abbrev pub table : (z : Side) → Exchange → List (Place z)
table side.own x = x.own
table side.incoming x = x.incoming

abbrev pub place : (z : Side) → Exchange → ℕ → Place z
place z x p = get_or (table z x) p (fresh z)

-- what the onlooker of place p sees of a call
abbrev pub watches : (z : Side) → Terms → ℕ → Exchange → List ℕ → Seen z → Call → Seen z
watches side.own = own_sees
watches side.incoming = incoming_sees

-- ---- what happens at a place

-- nothing, or an event, which is a release exactly if t is true: it leaves this place, and this is seen of it
pub data Happens (z : Side) (c : Terms) (o : Place z) (s : Seen z) (t : Bool) : Place z → Seen z → Type 0 where
  nothing : Happens z c o s t o s
  event : (e : Event z c) → spares z c e ≡ not t → Happens z c o s t (step z c o e) (sees z c o s e)

pub by_event : {z : Side} {c : Terms} {o a : Place z} {s y : Seen z} {t : Bool} (P : Place z → Seen z → Type 0) → Happens z c o s t a y → P o s
    → ((e : Event z c) → spares z c e ≡ not t → P (step z c o e) (sees z c o s e)) → P a y
by_event P nothing same more = same
by_event P (event e i) same more = more e i
