-- Two units that were just started are two ends of a link (`specs/SameMessage.antt`). Assumes nothing.
use Rattle.std.specs.Prelude.{Option, Some, None}
use Prim.Native.Nat.{ℕ, zero, suc}
use mathlib.Core.Path.{◌≡◌, refl, sym, ◌∙◌}
use mathlib.Core.Bool.{false, false≢true}
use mathlib.Core.List.{List, []}
use native.Mathlib.Omega.{arith}
use lib.ListN.{length}
use Rattle.header.specs.declared.header.Header.{Header}
use Rattle.place.specs.Incoming.{incoming_is_open}
use Rattle.exchange.specs.Exchange.{fresh_exchange, incoming_place}
use Rattle.exchange.specs.Rules.{AlikeHere}
use Rattle.link.specs.History.{track, at_start}
use Rattle.link.specs.Inside.{Reached}
use Rattle.link.specs.Refusals.{SetupFits, in_ticks}
use Rattle.link.specs.SameMessage.{StartsLinked}
use Rattle.link.specs.declared.Setup.{Setup}
use Rattle.link.proofs.refusals.Start.{ranged_as}

begun : (s : Setup) (room : List ℕ) → SetupFits s → length room ≡ 36864 → Reached (at_start (in_ticks s) s.last room)
unfolding track
begun s room fits whole = record { setup = s; settings = in_ticks s; started = ranged_as s fits; room = room; whole = whole; calls = []; so = refl }

-- no message is open in a place of a fresh unit
none_open : (last p : ℕ) → incoming_is_open (incoming_place (fresh_exchange last) p) ≡ false
none_open last zero = refl
none_open last (suc zero) = refl
none_open last (suc (suc zero)) = refl
none_open last (suc (suc (suc zero))) = refl
none_open last (suc (suc (suc (suc p)))) = refl

-- "none at a start"
no_header_saved : (h : List ℕ) → ◌≡◌ {A = Option (List ℕ)} None (Some h) → ⊥
no_header_saved h e = let z : ◌≡◌ {A = ℕ} 0 1 = cc in false≢true cc

none_alike : (last : ℕ) (h : Header) → AlikeHere (fresh_exchange last) h → ⊥
none_alike last h w = false≢true (sym (none_open last w.place) ∙ w.so.0)

pub starts_linked : StartsLinked
unfolding begun
starts_linked s t fits far_fits last far_last roles device room far whole far_whole = record {
  linked = record {
    one = begun s room fits whole;
    other = begun t far far_fits far_whole;
    last = last;
    far_last = far_last;
    roles = roles;
    device = device;
    line = refl;
    far_line = refl;
  };
  takes = λ h d. record {
    free = record { place = 0; within = omega arith; so = refl };
    no_alike = none_alike t.last h;
    new = λ w. no_header_saved _ w.same;
  };
}
