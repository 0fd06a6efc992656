-- The header that the unit saves is the one that an onlooker keeps (`specs/Saved.antt`). Assumes nothing.
use Prim.Native.Nat.{ℕ}
use mathlib.Core.Path.{◌≡◌, refl, sym, ap, ◌∙◌, subst}
use mathlib.Core.List.{List, [], ◌∷◌}
use mathlib.Core.Logic.{◌↔◌, ◌⊎◌, ⊎_elim, ◌≢◌}
use native.Mathlib.Omega.{arith}
use Rattle.settings.specs.declared.terms.Terms.{Terms}
use Rattle.exchange.specs.Judge.{judge_of}
use Rattle.exchange.specs.Rules.{noted as judged_as}
use Rattle.exchange.specs.History as exchange
use Rattle.exchange.specs.SavedHeader.{SavedSeen, none, ten, saved_by, IsSaved, Repeats}
use Rattle.exchange.specs.declared.Exchange.{Exchange}
use Rattle.exchange.proofs.SavedHeader.{by_saved, saved_on, repeats_on, none_saved}
use Rattle.exchange.proofs.Runs.{four_places}
use Rattle.link.specs.History.{Made, Track, exchange_track, terms_in, on_exchange_in, next, track}
use Rattle.link.specs.Inside.{Reached}
use Rattle.link.specs.Verdicts.{Among, here}
use Rattle.link.specs.Moves.{noted}
use Rattle.link.specs.Device as device
use Rattle.link.specs.Device.{Few}
use Rattle.link.specs.Saved.{saved_among, saved_sees, SavedGoes, saved_watch, saved_seen, RepeatsLast, SavedExactly}
use Rattle.link.proofs.inside.Reached.{start}
use Rattle.link.proofs.inside.Places.{lent, goes, sound_inside}
use Rattle.link.proofs.device.Told.{few_told}
use Rattle.link.proofs.moves.Seen.{alone}
use Rattle.link.proofs.moves.Notes.{up_noted, rose}

-- ---- how the onlooker moves

module _ (n : ℕ) (s : SavedSeen) where
  saves_one : (h : List ℕ) → n ≢ 22 → n ≢ 23 → saved_by n s h ≡ ten h
  saves_one h a b = by_saved (λ z. z ≡ ten h) n s h (λ i. absurd (⊎_elim a b i)) (λ i. refl)

  stays_one : (h : List ℕ) → (n ≡ 22) ⊎ (n ≡ 23) → saved_by n s h ≡ s
  stays_one h i = by_saved (λ z. z ≡ s) n s h (λ j. refl) (λ j. absurd (j i))

  stays_few : (ks : List exchange.Call) → Few ks → ((h d : List ℕ) → Among (exchange.block h d) ks → (n ≡ 22) ⊎ (n ≡ 23)) → saved_among n s ks ≡ s
  unfolding saved_among
  stays_few _ device.none i = refl
  stays_few _ (device.one (exchange.block h d)) i = stays_one h (i h d here)
  stays_few _ (device.one exchange.tick) i = refl
  stays_few _ (device.one exchange.put_out) i = refl
  stays_few _ (device.one exchange.acknowledged) i = refl
  stays_few _ (device.one exchange.failed) i = refl
  stays_few _ (device.one (exchange.request r)) i = refl
  stays_few _ device.lost_on_tick_lem i = refl

pub saved_goes : SavedGoes
unfolding saved_among
saved_goes t m s = record {
  saves = λ h d up a b. ap (saved_among (noted t m) s) (alone t m (exchange.block h d) refl up) ∙ saves_one (noted t m) s h a b;
  stays = stays_few (noted t m) s (on_exchange_in t m) (few_told t m);
}

-- ---- one call

module _ (t : Track) (s : SavedSeen) (w : IsSaved t.link.exchange.saved s) (m : Made) where
  abbrev c : Terms
  c = terms_in t

  abbrev x : Exchange
  x = t.link.exchange

  abbrev after : List exchange.Call → Exchange
  after ks = (exchange.track c (exchange_track t (lent t m)) ks).exchange

  few_saved : (ks : List exchange.Call) → Few ks → ((h d : List ℕ) → Among (exchange.block h d) ks → noted t m ≡ judged_as (judge_of c x h d (lent t m)))
      → IsSaved (after ks).saved (saved_among (noted t m) s ks)
  unfolding exchange.track saved_among
  few_saved _ device.none n = w
  few_saved _ (device.one (exchange.block h d)) n =
      subst (λ k. IsSaved (after (exchange.block h d ∷ [])).saved (saved_by k s h)) (sym (n h d here)) (saved_on c x (lent t m) s (exchange.block h d) w)
  few_saved _ (device.one exchange.tick) n = saved_on c x (lent t m) s exchange.tick w
  few_saved _ (device.one exchange.put_out) n = saved_on c x (lent t m) s exchange.put_out w
  few_saved _ (device.one exchange.acknowledged) n = saved_on c x (lent t m) s exchange.acknowledged w
  few_saved _ (device.one exchange.failed) n = saved_on c x (lent t m) s exchange.failed w
  few_saved _ (device.one (exchange.request r)) n = saved_on c x (lent t m) s (exchange.request r) w
  few_saved _ device.lost_on_tick_lem n = saved_on c (after (exchange.failed ∷ [])) (lent t m) s exchange.tick (saved_on c x (lent t m) s exchange.failed w)

  step : IsSaved (next t m).link.exchange.saved (saved_sees t s m)
  step = subst (λ (y : Exchange). IsSaved y.saved (saved_sees t s m)) (goes t m) (few_saved (on_exchange_in t m) (few_told t m) (up_noted t m))

-- ---- any calls

calls_saved : (t : Track) (s : SavedSeen) (ms : List Made) → IsSaved t.link.exchange.saved s → IsSaved (track t ms).link.exchange.saved (saved_watch t s ms)
unfolding track saved_watch
calls_saved t s [] w = w
calls_saved t s (m ∷ ms) w = calls_saved (next t m) (saved_sees t s m) ms (step t s w m)

saved_inside : (t : Track) (r : Reached t) → IsSaved t.link.exchange.saved (saved_seen t r)
saved_inside t r =
    subst (λ (v : Track). IsSaved v.link.exchange.saved (saved_seen t r)) r.so (calls_saved (start t r) none r.calls (none_saved r.setup.last))

-- ---- rule 2

module _ (t : Track) (r : Reached t) (m : Made) where
  abbrev s : SavedSeen
  s = saved_seen t r

  abbrev judged : List ℕ → List ℕ → ℕ
  judged h d = judged_as (judge_of (terms_in t) t.link.exchange h d (lent t m))

  repeats : (h d : List ℕ) → (judged h d ≡ 23) ↔ Repeats (terms_in t) s h
  repeats h d = let x = t.link.exchange in repeats_on (terms_in t) x (four_places x (sound_inside t r)) s (saved_inside t r) h d (lent t m)

  noted_23 : noted t m ≡ 23 → RepeatsLast t m s
  noted_23 e =
      let z = rose t m (omega arith) (omega arith) in
      record { header = z.0; rest = z.1; up = z.2; repeats = (repeats z.0 z.1).0 (sym (up_noted t m z.0 z.1 z.2) ∙ e) }

  so_noted : RepeatsLast t m s → noted t m ≡ 23
  so_noted z = up_noted t m z.header z.rest z.up ∙ (repeats z.header z.rest).1 z.repeats

pub saved_exactly : SavedExactly
saved_exactly t r = record { saved = saved_inside t r; duplicate = λ m. (noted_23 t r m, so_noted t r m) }
