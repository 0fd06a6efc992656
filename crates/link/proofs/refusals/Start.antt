-- A start is refused exactly if a setting is out of its range, and what it hands back then is of no use (`specs/Refusals.antt`).
-- Assumes nothing.
use Rattle.std.specs.Prelude.{Option, Some, None}
use Prim.Native.Nat.{ℕ, zero, suc}
use mathlib.Core.Path.{◌≡◌, refl, sym, ap, subst}
use mathlib.Core.Bool.{Bool, true, false, cond, false≢true}
use mathlib.Core.Logic.{◌↔◌}
use native.Mathlib.Omega.{arith}
use lib.Dec.{ltb}
use lib.ListN.{get_or, replicate}
use borrow.Author.Tests.{ltb-true}
use Rattle.wire.proofs.Choice.{chosen, judged}
use Rattle.settings.specs.Limits.{panel_in_range, limits_of, taken_of}
use Rattle.settings.specs.Terms.{message_panel_in_range, terms_of, agreed_of}
use Rattle.settings.specs.Theorems.{Fits as PanelFits, FitsTerms}
use Rattle.settings.proofs.Taking.{fits, taken_in_range}
use Rattle.settings.proofs.Agreeing.{fits_terms, terms_in_range_lem}
use Rattle.place.specs.Own.{fresh_own}
use Rattle.place.specs.Incoming.{fresh_incoming}
use Rattle.exchange.specs.Reading.{own_reading, incoming_reading}
use Rattle.exchange.specs.declared.Exchange.{Exchange}
use Rattle.exchange.proofs.Tests.{fails}
use Rattle.link.specs.Answer.{outcome_number}
use Rattle.link.specs.Setup.{panel_of, messages_of, agreed_by, taken_by, ranged_of, no_settings, settings_in_range}
use Rattle.link.specs.State.{fresh_link, refused_as, link_in_range, start_by, start_of}
use Rattle.link.specs.Refusals.{Fits, SetupFits, StartRuled, start_4, start_0, in_ticks, Started, NotStarted, StartExactly}
use Rattle.link.specs.declared.Setup.{Setup}
use Rattle.link.specs.declared.Settings.{Settings}
use Rattle.link.specs.declared.Answer.{Answer}
use Rattle.link.specs.declared.Refusal.TheVariants as refusal
use Rattle.link.specs.declared.Outcome.TheVariants as outcome
use Rattle.link.proofs.refusals.Ranges.{link_fits}
use Rattle.link.proofs.refusals.Rows.{by_rows}

-- ---- the settings in 01's ranges are those of the line and those of the transactions

together : (s : Setup) → PanelFits (panel_of s) → FitsTerms (messages_of s) → SetupFits s
together s l t = record {
  t1_least = l.t1_least;
  t1_most = l.t1_most;
  t2_least = l.t2_least;
  t2_most = l.t2_most;
  t3_least = t.t3_least;
  t3_most = t.t3_most;
  t4_least = t.t4_least;
  t4_most = t.t4_most;
  rty_most = l.rty_most;
  device_most = t.device_most;
  check_most = t.check_most;
}

pub line_part : (s : Setup) → SetupFits s → PanelFits (panel_of s)
line_part s f = record { t1_least = f.t1_least; t1_most = f.t1_most; t2_least = f.t2_least; t2_most = f.t2_most; rty_most = f.rty_most }

terms_part : (s : Setup) → SetupFits s → FitsTerms (messages_of s)
terms_part s f = record {
  t3_least = f.t3_least;
  t3_most = f.t3_most;
  t4_least = f.t4_least;
  t4_most = f.t4_most;
  device_most = f.device_most;
  check_most = f.check_most;
}

-- ---- the start

by_ranged : (s : Setup) (P : Option Settings → Type 0) → (SetupFits s → P (Some (in_ticks s))) → ((SetupFits s → ⊥) → P None) → P (ranged_of s)
unfolding ranged_of taken_of agreed_of
by_ranged s P accept refuse =
    chosen P (ltb 31 s.rty) _ _ (λ e. refuse (λ f. absurd (omega (arith, f.rty_most, ltb-true 31 s.rty e))))
    (λ e.
    judged (panel_in_range (panel_of s)) (fits (panel_of s)) (λ t. P (taken_by (cond t (Some (limits_of (panel_of s))) None) s))
    (λ l.
    judged (message_panel_in_range (messages_of s)) (fits_terms (messages_of s))
    (λ t. P (agreed_by (cond t (Some (terms_of (messages_of s))) None) (limits_of (panel_of s))))
    (λ t. accept (together s l t)) (λ n. refuse (λ f. n (terms_part s f))))
    (λ n. refuse (λ f. n (line_part s f))))

-- one that is not refused goes by these settings, and they are in their ranges
pub record StartedAs (s : Setup) (z : Settings) : Type 0 where
  pub fits : SetupFits s
  pub in_ticks_lem : z ≡ in_ticks s

abbrev kept : Option Settings → Settings
kept (Some z) = z
kept None = no_settings

abbrev is_kept : Option Settings → Bool
is_kept (Some z) = true
is_kept None = false

pub started_as : (s : Setup) (z : Settings) → ranged_of s ≡ Some z → StartedAs s z
started_as s z =
    by_ranged s (λ k. k ≡ Some z → StartedAs s z) (λ f e. record { fits = f; in_ticks_lem = sym (ap kept e) }) (λ n e. absurd (false≢true (ap is_kept e)))

pub ranged_as : (s : Setup) → SetupFits s → ranged_of s ≡ Some (in_ticks s)
ranged_as s fits = by_ranged s (λ k. k ≡ Some (in_ticks s)) (λ f. refl) (λ n. absurd (n fits))

pub settings_sound : (s : Setup) → SetupFits s → settings_in_range (in_ticks s) ≡ true
unfolding settings_in_range
settings_sound s f = simp ((taken_in_range (panel_of s)).in_range (line_part s f), (terms_in_range_lem (messages_of s)).in_range (terms_part s f))

-- what a start answers
by_start :
    (s : Setup) (P : Answer → Type 0) → (SetupFits s → P (start_by (Some (in_ticks s)) s.last)) → ((SetupFits s → ⊥) → P (start_by None s.last))
    → P (start_of s)
by_start s P = by_ranged s (λ k. P (start_by k s.last))

-- no setting of a refused start is in its range
no_unit : Fits (fresh_link no_settings 0) → ⊥
no_unit f = absurd (omega (arith, f.settings.t1_least))

not_started : NotStarted (refused_as (fresh_link no_settings 0) refusal.Setting)
not_started = record {
  refused = refl;
  no_unit = fails (link_in_range (fresh_link no_settings 0)) (Fits (fresh_link no_settings 0)) (link_fits (fresh_link no_settings 0)) no_unit;
  three = λ room o k long right.
      by_rows (fresh_link no_settings 0) room o k (λ l. l.answer.outcome ≡ outcome.Refused refusal.State) (record {
        row_1 = λ s. absurd (long s);
        row_2 = λ m w. absurd (right w);
        row_3 = λ m w f. refl;
        rest = λ p. absurd (no_unit p.fits);
      });
}

-- where four places are free none is read, and above 3 there is none
alike : {A : Type 0} (n p : ℕ) (a : A) → get_or (replicate n a) p a ≡ a
alike zero p a = refl
alike (suc n) zero a = refl
alike (suc n) (suc p) a = alike n p a

no_own_place : (x : Exchange) (p : ℕ) → x.own ≡ replicate 4 fresh_own → own_reading x p ≡ None
unfolding own_reading
no_own_place x p e = rw (e, alike 4 p fresh_own) refl

no_incoming_place : (x : Exchange) (p : ℕ) → x.incoming ≡ replicate 4 fresh_incoming → incoming_reading x p ≡ None
unfolding incoming_reading
no_incoming_place x p e = rw (e, alike 4 p fresh_incoming) refl

-- where the settings fit, 0 is the only number, and where not, 4
only_0 : (s : Setup) → SetupFits s → {n : ℕ} → StartRuled s n → ◌≡◌ {A = ℕ} 0 n
only_0 s f (start_4 m) = absurd (m f)
only_0 s f (start_0 g) = refl

only_4 : (s : Setup) → (SetupFits s → ⊥) → {n : ℕ} → StartRuled s n → ◌≡◌ {A = ℕ} 4 n
only_4 s m (start_4 a) = refl
only_4 s m (start_0 f) = absurd (m f)

pub start_exactly : StartExactly
start_exactly = record {
  number = λ s n.
      by_start s (λ a. (outcome_number a.outcome ≡ n) ↔ StartRuled s n)
      (λ f. (λ e. subst (StartRuled s) e (start_0 f), only_0 s f))
      (λ m. (λ e. subst (StartRuled s) e (start_4 m), only_4 s m));
  accepted = λ s f.
      by_start s (Started s)
      (λ g.
      record {
        link = refl;
        settings = refl;
        line = refl;
        exchange = refl;
        block = refl;
        no_own = λ p. no_own_place _ p refl;
        no_incoming = λ p. no_incoming_place _ p refl;
        none_saved = refl;
        none_sent = refl;
        last = refl;
        latest = refl;
        idle = refl;
        none_held = refl;
        done = refl;
        count = refl;
        note = refl;
        flags = refl;
      })
      (λ m. absurd (m f));
  refused = λ s m. by_start s NotStarted (λ f. absurd (m f)) (λ n. not_started);
}
