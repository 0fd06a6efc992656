-- The transactions inside the unit, and each of their places, can be reached by calls and events of their own. Assumes nothing.
use Prim.Native.Nat.{ℕ, ◌<◌}
use mathlib.Core.Path.{◌≡◌, refl, sym, ap, subst, ◌∙◌}
use mathlib.Core.List.{List}
use Rattle.exchange.specs.History as exchange
use Rattle.exchange.specs.Theorems.{Reached as ExchangeReached}
use Rattle.exchange.specs.Releases.{Side}
use Rattle.exchange.specs.Releases as side
use Rattle.exchange.specs.Watching.{watch}
use Rattle.exchange.proofs.AnyRoom.{track_alike}
use Rattle.exchange.proofs.Runs.{Sound, reached_more, reached_fresh, sound_reached, three_equal}
use Rattle.exchange.proofs.Another.{Numbered, numbered_reached}
use Rattle.exchange.proofs.Sides.{Seen, Reached as PlaceReached, place, watches}
use Rattle.exchange.proofs.Watching.{watched_all, watched_start}
use Rattle.link.specs.History.{Made, Track, exchange_track, terms_in, on_exchange_in, lent_room, next}
use Rattle.link.specs.Inside.{Always, InSomeRoom, ExchangeInside, Watched, PlacesInside}
use Rattle.link.specs.declared.Settings.{Settings}
use Rattle.link.proofs.inside.Line.{settings_kept}
use Rattle.link.proofs.inside.Transactions.{exchange_goes}
use Rattle.link.proofs.inside.Reached.{by_calls}

-- ---- one call

module _ (t : Track) (m : Made) where
  abbrev pub lent : List ℕ
  lent = lent_room m.room t.room

  -- what the transactions are after it
  pub goes : (exchange.track (terms_in t) (exchange_track t lent) (on_exchange_in t m)).exchange ≡ (next t m).link.exchange
  goes = (exchange_goes t.link lent m.out m.call t.joined).exchange

  pub same_terms : terms_in (next t m) ≡ terms_in t
  same_terms = ap (λ (s : Settings). s.terms) (settings_kept t.link lent m.out m.call)

  module _ (room : List ℕ) where
    -- their track after it, on any room
    unfoldable pub after : exchange.Track
    after = exchange.track (terms_in t) (exchange_track t room) (on_exchange_in t m)

    after_lent : (after.exchange ≡ (next t m).link.exchange) × (after.seen ≡ (next t m).joined)
    unfolding after
    after_lent =
        let same = track_alike (terms_in t) (exchange_track t room) (exchange_track t lent) (on_exchange_in t m) refl refl in
        (same.0 ∙ goes, same.1)

    pub reached_after : ExchangeReached (terms_in t) (exchange_track t room) → ExchangeReached (terms_in (next t m)) (exchange_track (next t m) after.room)
    unfolding after
    reached_after w =
        subst (λ c. ExchangeReached c (exchange_track (next t m) after.room)) (sym same_terms)
        (subst (ExchangeReached (terms_in t)) (λ i. record { exchange = after_lent.0 i; room = after.room; seen = after_lent.1 i })
        (reached_more (terms_in t) (exchange_track t room) w (on_exchange_in t m)))

-- ---- any calls

pub exchange_inside : ExchangeInside
exchange_inside t w =
    by_calls InSomeRoom (λ v r m g. record { room = (after v m g.room).room; reached = reached_after v m g.room g.reached }) t w
    (record { room = w.room; reached = reached_fresh w.settings.terms w.setup.last w.room w.whole })

pub sound_inside : Always (λ t. Sound t.link.exchange)
sound_inside t w = let x = exchange_inside t w in sound_reached (terms_in t) (exchange_track t x.room) x.reached

-- a report on its way has the last number given
pub numbered_inside : Always (λ t. Numbered t.link.exchange)
numbered_inside t w = let x = exchange_inside t w in numbered_reached (terms_in t) (exchange_track t x.room) x.reached

-- ---- the places

module _ (t : Track) (m : Made) (s : Sound t.link.exchange) (p : ℕ) (k : p < 4) where
  -- one on this side, of which y was seen
  place_next : (z : Side) (y : Seen z) → PlaceReached z (terms_in t) (place z t.link.exchange p) y
      → PlaceReached z (terms_in (next t m)) (place z (next t m).link.exchange p) (watch (terms_in t) (watches z (terms_in t) p) (exchange_track t (lent t m)) y (on_exchange_in t m))
  place_next z y g =
      three_equal (λ d x v. PlaceReached z d (place z x p) v) (sym (same_terms t m)) (goes t m) refl (watched_all z (terms_in t) p k (exchange_track t (lent t m)) y (on_exchange_in t m) s g)

pub places_inside : PlacesInside
places_inside t w =
    by_calls Watched
    (λ v r m g.
    let s = sound_inside v r in
    record { own = λ p k. place_next v m s p k side.own (v.own p) (g.own p k); incoming = λ p k. place_next v m s p k side.incoming (v.incoming p) (g.incoming p k) })
    t w (record { own = λ p k. watched_start side.own w.settings.terms p w.setup.last; incoming = λ p k. watched_start side.incoming w.settings.terms p w.setup.last })
