-- The numbers of a unit that was reached are in their ranges: refusal 3 is never given. Assumes nothing.
use Rattle.std.specs.Prelude.{Result, Ok, Err}
use Prim.Native.Nat.{ℕ, ◌≤◌}
use mathlib.Core.Path.{◌≡◌, refl, sym, ap, subst, ◌∙◌}
use mathlib.Core.Bool.{Bool, true, false, false≢true}
use mathlib.Core.List.{List}
use native.Mathlib.Omega.{arith}
use lib.ListN.{length}
use Rattle.cut.specs.Blocks.{most_blocks}
use Rattle.wire.proofs.Choice.{chosen}
use Rattle.settings.proofs.Panels.{in_between}
use Rattle.settings.proofs.Taking.{fits}
use Rattle.line.specs.Range.{line_in_range}
use Rattle.line.specs.Theorems.{Reached as LineReached}
use Rattle.line.proofs.Ranges.{reached_in_range as line_reached_in_range}
use Rattle.exchange.specs.Range.{exchange_in_range}
use Rattle.exchange.specs.Request.{Request, lends}
use Rattle.exchange.proofs.Inside.{exchange_reached_in_range}
use Rattle.link.specs.Setup.{panel_of, settings_in_range}
use Rattle.link.specs.State.{link_in_range, output_short, room_fits, gate_of}
use Rattle.link.specs.Run.{Left, byte_step}
use Rattle.link.specs.Call.{gated, free_call, request_by}
use Rattle.link.specs.History.{Call, byte, tick, drained, request, called, Track, line_track, exchange_track, terms_in}
use Rattle.link.specs.Inside.{Reached, ReachedInRange, NeverThree}
use Rattle.link.specs.Refusals.{in_ticks}
use Rattle.link.specs.declared.Settings.{Settings}
use Rattle.link.specs.declared.Refusal.{Refusal}
use Rattle.link.specs.declared.Refusal.TheVariants as refusal
use Rattle.link.specs.declared.Outcome.{Outcome}
use Rattle.link.specs.declared.Outcome.TheVariants as outcome
use Rattle.link.specs.declared.Answer.{Answer}
use Rattle.link.specs.declared.Link.{Link}
use Rattle.link.proofs.Cases.{by_gate, by_byte, by_answer, behind_by}
use Rattle.link.proofs.inside.Reached.{settings_stay, line_inside}
use Rattle.link.proofs.inside.Places.{exchange_inside}
use Rattle.link.proofs.inside.Agrees.{agrees}
use Rattle.link.proofs.refusals.Start.{StartedAs, started_as, settings_sound, line_part}

-- ---- the ranges

module _ (t : Track) (w : Reached t) where
  set : StartedAs w.setup w.settings
  set = started_as w.setup w.settings w.started

  -- the settings are those of the start
  settings_are : t.link.settings ≡ in_ticks w.setup
  settings_are = settings_stay t w ∙ set.in_ticks_lem

  settings_ranged : settings_in_range t.link.settings ≡ true
  settings_ranged = ap settings_in_range settings_are ∙ settings_sound w.setup set.fits

  line_ranged : line_in_range t.link.line ≡ true
  line_ranged =
      line_reached_in_range (panel_of w.setup) (line_part w.setup set.fits) (line_track t)
      (subst (λ (s : Settings). LineReached s.limits (line_track t)) settings_are (line_inside t w))

  exchange_ranged : exchange_in_range t.link.exchange ≡ true
  exchange_ranged =
      let r = exchange_inside t w in
      let T3 : (terms_in t).t3.0 ≤ 1200 = subst (λ (s : Settings). s.terms.t3.0 ≤ 1200) (sym settings_are) (omega (arith, set.fits.t3_most)) in
      let T4 : (terms_in t).t4.0 ≤ 1200 = subst (λ (s : Settings). s.terms.t4.0 ≤ 1200) (sym settings_are) (omega (arith, set.fits.t4_most)) in
      exchange_reached_in_range (terms_in t) T3 T4 (exchange_track t r.room) r.reached

pub link_reached_in_range : ReachedInRange
unfolding link_in_range
link_reached_in_range t w =
    let g = agrees t w in
    simp ((in_between 1 t.link.block most_blocks).1 (g.first, g.most), settings_ranged t w, line_ranged t w, exchange_ranged t w)

-- ---- refusal 3

abbrev Other : Refusal → Type 0
Other refusal.OutputShort = Unit {0}
Other refusal.RoomSize = Unit {0}
Other refusal.State = ⊥
Other refusal.Setting = Unit {0}
Other (refusal.Request r) = Unit {0}

-- it is not that one
abbrev NotThree : Outcome → Type 0
NotThree outcome.Done = Unit {0}
NotThree (outcome.Taken p) = Unit {0}
NotThree (outcome.Refused r) = Other r

abbrev Lets : Result Unit Refusal → Type 0
Lets (Ok tt) = Unit {0}
Lets (Err r) = Other r

module _ (u : Link) (ranged : link_in_range u ≡ true) where
  not_three : {A : Type 0} → link_in_range u ≡ false → A
  not_three e = absurd (false≢true (sym e ∙ ranged))

  gate_lets : (room o : ℕ) → Lets (gate_of u room o)
  unfolding gate_of
  gate_lets room o =
      chosen Lets (output_short o) _ _ (λ e. tt)
      (λ e. chosen Lets (room_fits room) _ _ (λ f. chosen Lets (link_in_range u) _ _ (λ g. tt) (λ g. not_three g)) (λ f. tt))

  shut_other : (room o : List ℕ) (r : Refusal) → gate_of u (length room) (length o) ≡ Err r → Other r
  shut_other room o r e = subst Lets e (gate_lets (length room) (length o))

  module _ (room o : List ℕ) where
    abbrev Leaves : Left → Type 0
    Leaves l = NotThree l.answer.outcome

    gated_other : (l : Left) → Leaves l → Leaves (gated u room o l)
    gated_other l w = by_gate Leaves u room o l (shut_other room o) (λ e. w)

    -- past 1, 2 and 3 a request is refused by 5 to 11, or taken
    behind_other : (r : Request) (t : Bool) → lends r ≡ t → Leaves (behind_by t u r room o)
    behind_other r = by_answer u r room o Leaves (λ n e. tt) (λ p e l. tt) (λ p e l. tt)

    request_other : (r : Request) (t : Bool) → lends r ≡ t → Leaves (request_by t u r room o)
    unfolding free_call
    request_other r true l = gated_other _ (behind_other r true l)
    request_other r false l = chosen (λ (a : Answer). NotThree a.outcome) (link_in_range u) _ _ (λ e. behind_other r false l) not_three

    called_other : (k : Call) → Leaves (called u room o k)
    called_other (byte b fits) = gated_other _ (by_byte (λ p l. Leaves l) u (byte_step u b) room o (λ e. tt) (λ c e. tt) (λ e. tt))
    called_other tick = gated_other _ tt
    called_other drained = gated_other _ tt
    called_other (request r) = request_other r (lends r) refl

pub never_three : NeverThree
never_three t w room o k e = subst NotThree e (called_other t.link (link_reached_in_range t w) room o k)
