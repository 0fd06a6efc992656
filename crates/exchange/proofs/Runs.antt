-- Any calls, one after the other, each in any room: what each keeps, they all keep. Assumes nothing.
use Prim.Native.Nat.{ℕ}
use mathlib.Core.Path.{◌≡◌, refl, sym, ap, ◌∙◌, subst}
use mathlib.Core.List.{List, [], ◌∷◌, ◌++◌}
use lib.ListN.{length}
use Rattle.settings.specs.declared.terms.Terms.{Terms}
use Rattle.exchange.specs.Exchange.{fresh_exchange}
use Rattle.exchange.specs.Rules.{Fours}
use Rattle.exchange.specs.History.{Call, called, Joined, Track, next, track, at_start}
use Rattle.exchange.specs.Releases.{Side}
use Rattle.exchange.specs.Releases as side
use Rattle.exchange.specs.Theorems.{Reached}
use Rattle.exchange.specs.Watching.{watch}
use Rattle.exchange.specs.declared.Exchange.{Exchange}
use Rattle.exchange.proofs.Sides.{table}
use Rattle.exchange.proofs.Joining.{Good}
use Rattle.exchange.proofs.Areas.{GoodTrack, one_call, fresh_good, always}
use Rattle.exchange.proofs.AnyRoom.{track_alike}

-- ---- one after the other

-- `go` takes the steps one by one: some, to u, and then others
pub go_on : {T E : Type 0} (step : T → E → T) (go : T → List E → T) → ((t : T) → go t [] ≡ t) → ((t : T) (e : E) (es : List E) → go t (e ∷ es) ≡ go (step t e) es)
    → (t u : T) (es fs : List E) → go t es ≡ u → go t (es ++ fs) ≡ go u fs
go_on step go stop on t u [] fs so = ap (λ v. go v fs) (sym (stop t) ∙ so)
go_on step go stop on t u (e ∷ es) fs so = on t e (es ++ fs) ∙ go_on step go stop on (step t e) u es fs (sym (on t e es) ∙ so)

-- ---- reached by calls

pub track_more : (c : Terms) (t u : Track) (ks js : List Call) → track c t ks ≡ u → track c t (ks ++ js) ≡ track c u js
unfolding track
track_more c = go_on (next c) (track c) (λ t. refl) (λ t k ks. refl)

-- and after some calls more
pub reached_more : (c : Terms) (t : Track) → Reached c t → (ks : List Call) → Reached c (track c t ks)
reached_more c t w ks = record {
  last = w.last;
  room = w.room;
  whole = w.whole;
  calls = w.calls ++ ks;
  so = track_more c (at_start w.last w.room) t w.calls ks w.so;
}

pub reached_fresh : (c : Terms) (last : ℕ) (room : List ℕ) → length room ≡ 36864 → Reached c (at_start last room)
unfolding track
reached_fresh c last room whole = record { last = last; room = room; whole = whole; calls = []; so = refl }

-- ---- the transactions, in some room

pub record Sound (x : Exchange) : Type 0 where
  pub room : List ℕ
  pub joined : Joined
  pub good : Good x room joined

pub four_places : (x : Exchange) → Sound x → Fours x
four_places x g = record { own = g.good.own.four; incoming = g.good.incoming.four }

pub four_of : (z : Side) (x : Exchange) → Sound x → length (table z x) ≡ 4
four_of side.own x g = g.good.own.four
four_of side.incoming x g = g.good.incoming.four

pub sound_good : (t : Track) → GoodTrack t → Sound t.exchange
sound_good t g = record { room = t.room; joined = t.seen; good = g }

pub sound_fresh : (last : ℕ) (room : List ℕ) → length room ≡ 36864 → Sound (at_start last room).exchange
sound_fresh last room whole = sound_good (at_start last room) (fresh_good last room whole)

pub sound_reached : (c : Terms) (t : Track) → Reached c t → Sound t.exchange
sound_reached c t w = sound_good t (always c t w)

-- one call more, in any room
pub sound_on : (c : Terms) (x : Exchange) (room : List ℕ) (k : Call) → Sound x → Sound (called c x room k).exchange
unfolding track
sound_on c x room k g =
    let t : Track = record { exchange = x; room = g.room; seen = g.joined } in
    let v : Track = record { exchange = x; room = room; seen = g.joined } in
    subst Sound (track_alike c t v (k ∷ []) refl refl).0 (sound_good (next c t k) (one_call c t k g.good))

-- ---- some calls

-- each of them is such a one
pub data Each (K : Call → Type 0) : List Call → Type 0 where
  none : Each K []
  one_more : {k : Call} {ks : List Call} → K k → Each K ks → Each K (k ∷ ks)

pub each_more : (K : Call → Type 0) (ks js : List Call) → Each K ks → Each K js → Each K (ks ++ js)
each_more K [] js none w = w
each_more K (k ∷ ks) js (one_more i is) w = one_more i (each_more K ks js is w)

pub anyone : (ks : List Call) → Each (λ k. Unit {0}) ks
anyone [] = none
anyone (k ∷ ks) = one_more tt (anyone ks)

-- what each keeps, of the transactions and of what is seen of them, they all keep
module _ {S : Type 0} (c : Terms) (look : Exchange → List ℕ → S → Call → S) (P : Exchange → S → Type 0) where
  module _ (K : Call → Type 0)
      (step : (x : Exchange) (room : List ℕ) (s : S) (k : Call) → K k → Sound x → P x s → P (called c x room k).exchange (look x room s k)) where
    pub run : (t : Track) (s : S) (ks : List Call) → Each K ks → Sound t.exchange → P t.exchange s → P (track c t ks).exchange (watch c look t s ks)
    unfolding track watch
    run t s [] none g w = w
    run t s (k ∷ ks) (one_more i is) g w = run (next c t k) _ ks is (sound_on c t.exchange t.room k g) (step t.exchange t.room s k i g w)

  -- whichever they are
  pub run_any : ((x : Exchange) (room : List ℕ) (s : S) (k : Call) → Sound x → P x s → P (called c x room k).exchange (look x room s k))
      → (t : Track) (s : S) (ks : List Call) → Sound t.exchange → P t.exchange s → P (track c t ks).exchange (watch c look t s ks)
  run_any step t s ks g w = run (λ k. Unit {0}) (λ x room s k i. step x room s k) t s ks (anyone ks) g w

-- of the transactions alone
pub run_alone : (c : Terms) (P : Exchange → Type 0) (K : Call → Type 0)
    → ((x : Exchange) (room : List ℕ) (k : Call) → K k → Sound x → P x → P (called c x room k).exchange)
    → (t : Track) (ks : List Call) → Each K ks → Sound t.exchange → P t.exchange → P (track c t ks).exchange
run_alone c P K step t ks is g w = run c (λ x room s k. s) (λ x (s : Unit {0}). P x) K (λ x room s k i g w. step x room k i g w) t tt ks is g w

-- of all that can be reached
pub run_reached : (c : Terms) (P : Exchange → Type 0) → ((x : Exchange) (room : List ℕ) (k : Call) → Sound x → P x → P (called c x room k).exchange)
    → ((last : ℕ) → P (fresh_exchange last)) → (t : Track) → Reached c t → P t.exchange
run_reached c P step fresh t w =
    subst (λ (v : Track). P v.exchange) w.so
    (run_alone c P (λ k. Unit {0}) (λ x room k i. step x room k) (at_start w.last w.room) w.calls (anyone w.calls) (sound_fresh w.last w.room w.whole) (fresh w.last))

-- ---- what holds of three holds of three that are equal to them

pub three_equal : {A B C : Type 0} (P : A → B → C → Type 0) {a a' : A} {b b' : B} {c c' : C} → a ≡ a' → b ≡ b' → c ≡ c' → P a b c → P a' b' c'
three_equal {A} {B} {C} P d e f = subst (λ (z : A × B × C). P z.0 z.1 z.2) (λ i. (d i, e i, f i))
