-- A call tells the transactions of the release of a place, or leaves what every other call of theirs keeps: so it stays until the release.
-- Own places and incoming ones are two sides of one thing. Assumes nothing.
use Prim.Native.Nat.{ℕ}
use mathlib.Core.Path.{◌≡◌, ap, subst}
use mathlib.Core.Bool.{true, false, false≢true}
use mathlib.Core.List.{List, [], ◌∷◌}
use mathlib.Core.Logic.{◌⊎◌, inl, inr, ⊎_elim}
use borrow.Author.Tests.{eqb-true}
use Rattle.wire.proofs.Choice.{either}
use Rattle.settings.specs.declared.terms.Terms.{Terms}
use Rattle.exchange.specs.Request.{Request, primary, reply, freeing_own, freeing_incoming}
use Rattle.exchange.specs.History as exchange
use Rattle.exchange.specs.Rules.{Fours}
use Rattle.exchange.specs.Releases.{Side, releases, frees}
use Rattle.exchange.specs.Releases as side
use Rattle.exchange.specs.declared.Exchange.{Exchange}
use Rattle.exchange.proofs.Runs.{four_places, Each, none, one_more, run_alone}
use Rattle.link.specs.History.{Made, Track, exchange_track, terms_in, on_exchange_in, next, track}
use Rattle.link.specs.Inside.{Reached}
use Rattle.link.specs.Verdicts as verdicts
use Rattle.link.specs.Verdicts.{Among, here, later, Tells, Unless, no_more}
use Rattle.link.proofs.inside.Reached.{reached_next}
use Rattle.link.proofs.inside.Places.{lent, goes, sound_inside}

-- ---- which call it is

-- the release of place p on this side
abbrev pub release_of : Side → ℕ → Request
release_of side.own p = freeing_own p
release_of side.incoming p = freeing_incoming p

request_is : (r : Request) (z : Side) (p : ℕ) → releases r z p ≡ true → r ≡ release_of z p
request_is (primary q d) z p e = absurd (false≢true e)
request_is (reply q f d) z p e = absurd (false≢true e)
request_is (freeing_own q) side.own p e = ap freeing_own (eqb-true q p e)
request_is (freeing_own q) side.incoming p e = absurd (false≢true e)
request_is (freeing_incoming q) side.own p e = absurd (false≢true e)
request_is (freeing_incoming q) side.incoming p e = ap freeing_incoming (eqb-true q p e)

call_is : (k : exchange.Call) (z : Side) (p : ℕ) → frees k z p ≡ true → k ≡ exchange.request (release_of z p)
call_is (exchange.block h d) z p e = absurd (false≢true e)
call_is exchange.tick z p e = absurd (false≢true e)
call_is exchange.put_out z p e = absurd (false≢true e)
call_is exchange.acknowledged z p e = absurd (false≢true e)
call_is exchange.failed z p e = absurd (false≢true e)
call_is (exchange.request r) z p e = ap exchange.request (request_is r z p e)

-- ---- it is told, or no call for it is

-- these calls spare the place
abbrev pub Spared : Side → ℕ → List exchange.Call → Type 0
Spared z p ks = Each (λ k. frees k z p ≡ false) ks

among_or_not : (z : Side) (p : ℕ) (ks : List exchange.Call) → Among (exchange.request (release_of z p)) ks ⊎ Spared z p ks
among_or_not z p [] = inr none
among_or_not z p (k ∷ ks) =
    let Known : Type 0 = Among (exchange.request (release_of z p)) (k ∷ ks) ⊎ Spared z p (k ∷ ks) in
    either (frees k z p) (λ t. Known) (λ e. inl (subst (λ (j : exchange.Call). Among j (k ∷ ks)) (call_is k z p e) here))
    (λ e. ⊎_elim (λ a. inl (later a)) (λ s. inr (one_more e s)) (among_or_not z p ks))

abbrev pub Releases : Side → ℕ → Track → Made → Type 0
Releases z p t m = Tells t m (exchange.request (release_of z p))

-- a call is the release, or spares the place
pub released_or_spared : (z : Side) (p : ℕ) (t : Track) (m : Made) → Releases z p t m ⊎ Spared z p (on_exchange_in t m)
released_or_spared z p t m = among_or_not z p (on_exchange_in t m)

-- ---- what stays until then

-- any call of the transactions keeps this that spares the place
abbrev pub KeptBut : Side → ℕ → (Exchange → Type 0) → Type 0
KeptBut z p P =
    (c : Terms) (x : Exchange) (room : List ℕ) (k : exchange.Call) → frees k z p ≡ false → Fours x → P x → P (exchange.called c x room k).exchange

-- so does a call of the unit that does
module _ (z : Side) (p : ℕ) (P : Exchange → Type 0) (step : KeptBut z p P) where
  pub stays_once : (t : Track) → Reached t → (m : Made) → Spared z p (on_exchange_in t m) → P t.link.exchange → P (next t m).link.exchange
  stays_once t w m s g =
      subst P (goes t m)
      (run_alone (terms_in t) P (λ k. frees k z p ≡ false) (λ x room k e sound. step (terms_in t) x room k e (four_places x sound))
      (exchange_track t (lent t m)) (on_exchange_in t m) s (sound_inside t w) g)

  -- and so do any calls without its release
  pub stays_until : (t : Track) → Reached t → (ms : List Made) → Unless (Releases z p) t ms → P t.link.exchange → P (track t ms).link.exchange
  unfolding track
  stays_until t w [] no_more g = g
  stays_until t w (m ∷ ms) (verdicts.one_more n us) g =
      stays_until (next t m) (reached_next t w m) ms us (stays_once t w m (⊎_elim (λ a. absurd (n a)) (λ s. s) (released_or_spared z p t m)) g)
