-- What holds after any events at a fresh own place. Assumes nothing.
use mathlib.Core.Path.{refl, subst}
use mathlib.Core.List.{List, [], ◌∷◌}
use Rattle.settings.specs.declared.terms.Terms.{Terms}
use Rattle.place.specs.OwnHistory.{Event, Track, next, track, at_start}
use Rattle.place.specs.OwnTheorems.{Reached}
use Rattle.place.proofs.OwnInvariant.{Good, step}

-- any events leave what holds
all_events : (c : Terms) (t : Track) (es : List (Event c)) → Good c t → Good c (track t es)
unfolding track
all_events c t [] g = g
all_events c t (e ∷ es) g = all_events c (next t e) es (step c t.own.header t.own.stage t.seen e g)

pub always : (c : Terms) (t : Track) → Reached c t → Good c t
always c t w = subst (Good c) w.so (all_events c at_start w.events refl)
