-- While the room comes back, the transactions inside, with that room, can be reached by calls of the transactions: so a user reads what
-- they have kept. Assumes nothing.
use Prim.Native.Nat.{ℕ, ◌<◌}
use mathlib.Core.Path.{◌≡◌, refl, subst, ◌∙◌}
use mathlib.Core.Bool.{Bool, true, false}
use mathlib.Core.List.{List, [], ◌∷◌}
use mathlib.Core.Logic.{◌≢◌}
use native.Mathlib.Omega.{arith}
use lib.ListN.{length}
use Rattle.room.specs.Room.{bytes_in, place_of}
use Rattle.room.specs.declared.Message.{Message}
use Rattle.room.proofs.Reading.{front_read}
use Rattle.exchange.specs.Request.{Request, lends}
use Rattle.exchange.specs.History as exchange
use Rattle.exchange.specs.Theorems.{Reached as ExchangeReached}
use Rattle.exchange.proofs.Filling.{Fills}
use Rattle.exchange.proofs.Runs.{reached_fresh}
use Rattle.link.specs.Run.{Left}
use Rattle.link.specs.Call.{gated, free_call, request_by}
use Rattle.link.specs.History.{Call, byte, tick, drained, request, called, Room, kept, other, Made, on_exchange, unless_refused, Track, exchange_track, terms_in, next, track}
use Rattle.link.specs.Inside.{ComesBack, Back, exchange_of}
use Rattle.link.specs.Verdicts.{ExchangeBack}
use Rattle.link.specs.declared.Link.{Link}
use Rattle.link.proofs.Cases.{by_gate, open_lent, unlent_room}
use Rattle.link.proofs.inside.Transactions.{exchange_goes}
use Rattle.link.proofs.inside.Reached.{start}
use Rattle.link.proofs.inside.Places.{after, reached_after}
use Rattle.link.proofs.Accepted.{by_unless}

-- a call that is lent another room is refused by 2, and a release is lent none: neither touches a byte
module _ (u : Link) (room strange o : List ℕ) (j : exchange.Joined) (n : length strange ≢ 36864) where
  abbrev Spares : List exchange.Call → Type 0
  Spares ks = (exchange.track u.settings.terms (exchange_of u room j) ks).room ≡ room

  shut_out : (ks : List exchange.Call) (l : Left) → Spares (unless_refused (gated u strange o l).answer.outcome ks)
  unfolding exchange.track
  shut_out ks l =
      by_gate (λ g. Spares (unless_refused g.answer.outcome ks)) u strange o l (λ r e. refl)
      (λ e. absurd (n (open_lent u (length strange) (length o) e)))

  request_spares : (r : Request) (l : Bool) → lends r ≡ l → Spares (unless_refused (request_by l u r strange o).answer.outcome (exchange.request r ∷ []))
  unfolding exchange.track
  request_spares r true e = shut_out (exchange.request r ∷ []) _
  request_spares r false e = by_unless Spares (free_call u r).outcome (exchange.request r ∷ []) (λ a. unlent_room u r room e) (λ a. refl)

  spares_room : (k : Call) → Spares (unless_refused (called u strange o k).answer.outcome (on_exchange u k))
  spares_room (byte b fits) = shut_out (on_exchange u (byte b fits)) _
  spares_room tick = shut_out (on_exchange u tick) _
  spares_room drained = shut_out (on_exchange u drained) _
  spares_room (request r) = request_spares r (lends r) refl

-- the room after a call is the transactions'
room_back : (t : Track) (k : Call) (r : Room) (o : List ℕ) → ComesBack r
    → (after t (record { call = k; room = r; out = o }) t.room).room ≡ (next t (record { call = k; room = r; out = o })).room
unfolding after
room_back t k kept o b = (exchange_goes t.link t.room o k t.joined).room
room_back t k (other strange) o b = spares_room t.link t.room strange o t.joined b k

abbrev Backed : Track → Type 0
Backed t = ExchangeReached (terms_in t) (exchange_track t t.room)

back_all : (t : Track) (ms : List Made) → Back ms → Backed t → Backed (track t ms)
unfolding track Back
back_all t [] b w = w
back_all t (m ∷ ms) b w =
    back_all (next t m) ms b.1
    (subst (λ room. ExchangeReached (terms_in (next t m)) (exchange_track (next t m) room)) (room_back t m.call m.room m.out b.0)
    (reached_after t m t.room w))

pub exchange_back : ExchangeBack
exchange_back t w =
    let r = w.reached in
    subst Backed r.so (back_all (start t r) r.calls w.back (reached_fresh r.settings.terms r.setup.last r.room r.whole))

-- where a message's area begins with these bytes, they are read
pub fills_read : (room : List ℕ) (m : Message) (n : ℕ) (bs : List ℕ) → length room ≡ 36864 → place_of m < 4 → Fills room m n bs
    → (bytes_in room m 0 n ≡ bs) × (n ≡ length bs)
fills_read room m n bs whole within f =
    (front_read room m n (record { whole = whole; place = within; within = omega (arith, f.few) }) ∙ f.begins.bytes, f.begins.size)
