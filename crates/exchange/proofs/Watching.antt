-- Each place, and what its onlooker at the door has seen, are as events at a place leave them. Assumes nothing.
use Prim.Native.Nat.{ℕ, ◌<◌}
use mathlib.Core.Path.{◌≡◌, refl}
use mathlib.Core.List.{List, [], ◌∷◌, ◌++◌}
use lib.ListN.{length}
use Rattle.settings.specs.declared.terms.Terms.{Terms}
use Rattle.place.specs.OwnHistory as own
use Rattle.place.specs.IncomingHistory as incoming
use Rattle.exchange.specs.Exchange.{fresh_exchange}
use Rattle.exchange.specs.History.{Call, called, Track, track, at_start}
use Rattle.exchange.specs.Releases.{Side}
use Rattle.exchange.specs.Releases as side
use Rattle.exchange.specs.Watching.{OwnWatchedOn, IncomingWatchedOn, watch, OwnWatched, IncomingWatched}
use Rattle.exchange.specs.declared.Exchange.{Exchange}
use Rattle.exchange.proofs.Repeated.{any_fresh}
use Rattle.exchange.proofs.Sides.{Place, Event, Seen, fresh, nothing_seen, step, sees, Reached, table, place, watches, by_event}
use Rattle.exchange.proofs.OneCall.{call}
use Rattle.exchange.proofs.Runs.{go_on, Sound, four_of, sound_fresh, run_any}

-- ---- no event, and one more

none_yet : (z : Side) (c : Terms) → Reached z c (fresh z) (nothing_seen z)
unfolding own.track incoming.track
none_yet side.own c = record { events = []; so = refl }
none_yet side.incoming c = record { events = []; so = refl }

then : (z : Side) (c : Terms) (o : Place z) (s : Seen z) (e : Event z c) → Reached z c o s → Reached z c (step z c o e) (sees z c o s e)
unfolding own.track incoming.track
then side.own c o s e w = record { events = w.events ++ (e ∷ []); so = go_on own.next own.track (λ t. refl) (λ t f es. refl) own.at_start _ w.events (e ∷ []) w.so }
then side.incoming c i s e w = record { events = w.events ++ (e ∷ []); so = go_on incoming.next incoming.track (λ t. refl) (λ t f es. refl) incoming.at_start _ w.events (e ∷ []) w.so }

-- ---- one call

watched_on : (z : Side) (c : Terms) (x : Exchange) (room : List ℕ) → length (table z x) ≡ 4 → (p : ℕ) → p < 4 → (s : Seen z) (j : Call)
    → Reached z c (place z x p) s → Reached z c (place z (called c x room j).exchange p) (watches z c p x room s j)
watched_on z c x room four p k s j w = by_event (Reached z c) (call c x p k z room j four s) w (λ e i. then z c (place z x p) s e w)

pub own_watched_on : OwnWatchedOn
own_watched_on = watched_on side.own

pub incoming_watched_on : IncomingWatchedOn
incoming_watched_on = watched_on side.incoming

-- ---- any calls

pub watched_all : (z : Side) (c : Terms) (p : ℕ) → p < 4 → (t : Track) (s : Seen z) (ks : List Call) → Sound t.exchange → Reached z c (place z t.exchange p) s
    → Reached z c (place z (track c t ks).exchange p) (watch c (watches z c p) t s ks)
watched_all z c p k = run_any c (watches z c p) (λ x s. Reached z c (place z x p) s) (λ x room s j g w. watched_on z c x room (four_of z x g) p k s j w)

-- before any
pub watched_start : (z : Side) (c : Terms) (p last : ℕ) → Reached z c (place z (fresh_exchange last) p) (nothing_seen z)
watched_start side.own c p last = rw any_fresh (none_yet side.own c)
watched_start side.incoming c p last = rw any_fresh (none_yet side.incoming c)

watched : (z : Side) (c : Terms) (last : ℕ) (room : List ℕ) → length room ≡ 36864 → (ks : List Call) (p : ℕ) → p < 4
    → Reached z c (place z (track c (at_start last room) ks).exchange p) (watch c (watches z c p) (at_start last room) (nothing_seen z) ks)
watched z c last room whole ks p k = watched_all z c p k (at_start last room) (nothing_seen z) ks (sound_fresh last room whole) (watched_start z c p last)

pub own_watched : OwnWatched
own_watched = watched side.own

pub incoming_watched : IncomingWatched
incoming_watched = watched side.incoming
