-- What holds of a unit at its start, and after one call more, holds of all that can be reached; so the line inside is one that can be
-- reached. Assumes nothing.
use Rattle.std.specs.Prelude.{Option}
use mathlib.Core.Path.{◌≡◌, refl, sym, ap, subst, ◌∙◌}
use mathlib.Core.List.{List, [], ◌∷◌, ◌++◌}
use lib.ListN.{replicate}
use Rattle.settings.specs.declared.limits.Limits.{Limits}
use Rattle.line.specs.History as line
use Rattle.line.specs.Theorems.{Reached as LineReached}
use Rattle.exchange.proofs.Runs.{go_on}
use Rattle.link.specs.History.{Made, Track, line_track, limits_in, on_line_in, lent_room, next, track, at_start}
use Rattle.link.specs.State.{start_by}
use Rattle.link.specs.Inside.{Reached, CallsReach, SettingsStay, LineInside}
use Rattle.link.specs.declared.Settings.{Settings}
use Rattle.link.proofs.inside.Line.{line_goes, settings_kept}

-- ---- any calls

-- some calls more
unfoldable pub reached_more : (t : Track) → Reached t → (ms : List Made) → Reached (track t ms)
unfolding track
reached_more t w ms = record {
  setup = w.setup;
  settings = w.settings;
  started = w.started;
  room = w.room;
  whole = w.whole;
  calls = w.calls ++ ms;
  so = go_on next track (λ v. refl) (λ v l ks. refl) (at_start w.settings w.setup.last w.room) t w.calls ms w.so;
}

-- one call more
pub reached_next : (t : Track) → Reached t → (m : Made) → Reached (next t m)
unfolding track
reached_next t w m = reached_more t w (m ∷ [])

-- the start
abbrev pub start : (t : Track) → Reached t → Track
start t w = at_start w.settings w.setup.last w.room

pub reached_start : (t : Track) (w : Reached t) → Reached (start t w)
unfolding track
reached_start t w = record { setup = w.setup; settings = w.settings; started = w.started; room = w.room; whole = w.whole; calls = []; so = refl }

pub calls_reach : CallsReach
unfolding track
calls_reach = record {
  start = λ s z e room w. (
    record { setup = s; settings = z; started = e; room = room; whole = w; calls = []; so = refl },
    sym (ap (λ (k : Option Settings). (start_by k s.last).link) e),
  );
  call = λ t w m. (reached_next t w m, refl);
}

module _ (P : Track → Type 0) (step : (t : Track) → Reached t → (m : Made) → P t → P (next t m)) where
  all_calls : (t : Track) → Reached t → (ms : List Made) → P t → P (track t ms)
  unfolding track
  all_calls t w [] g = g
  all_calls t w (m ∷ ms) g = all_calls (next t m) (reached_next t w m) ms (step t w m g)

  pub by_calls : (t : Track) (w : Reached t) → P (start t w) → P t
  by_calls t w g = subst P w.so (all_calls (start t w) (reached_start t w) w.calls g)

-- ---- the settings

pub settings_stay : SettingsStay
settings_stay t w =
    by_calls (λ v. v.link.settings ≡ w.settings) (λ v r m e. settings_kept v.link (lent_room m.room v.room) m.out m.call ∙ e) t w refl

-- ---- the line

-- a line after some calls more
reached_line : (c : Limits) (t : line.Track) → LineReached c t → (ks : List line.Call) → LineReached c (line.track c t ks)
unfolding line.track
reached_line c t w ks = record {
  received = w.received;
  room = w.room;
  calls = w.calls ++ ks;
  so = go_on (line.next c) (line.track c) (λ v. refl) (λ v k js. refl) (line.at_start w.received) t w.calls ks w.so;
}

fresh_line : (c : Limits) → LineReached c (line.at_start (replicate 256 0))
unfolding line.track
fresh_line c = record { received = replicate 256 0; room = refl; calls = []; so = refl }

-- the line's track after a call
next_line : (t : Track) (m : Made) → line.track (limits_in t) (line_track t) (on_line_in t m) ≡ line_track (next t m)
next_line t m =
    let w = line_goes t.link (lent_room m.room t.room) m.out m.call t.seen in
    λ i. record { line = w.line i; received = w.received i; seen = (next t m).seen }

pub line_inside : LineInside
line_inside t w =
    by_calls (λ v. LineReached (limits_in v) (line_track v))
    (λ v r m g.
    let same : limits_in (next v m) ≡ limits_in v = ap (λ (s : Settings). s.limits) (settings_kept v.link (lent_room m.room v.room) m.out m.call) in
    subst (λ c. LineReached c (line_track (next v m))) (sym same)
    (subst (LineReached (limits_in v)) (next_line v m) (reached_line (limits_in v) (line_track v) g (on_line_in v m))))
    t w (fresh_line w.settings.limits)
