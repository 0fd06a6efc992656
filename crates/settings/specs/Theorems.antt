-- What is proved of the definitions of this crate, over all inputs. Each proof is in `proofs/`.
use Rattle.std.specs.Prelude.{ℕ, suc, zero, ◌*◌, ◌≤◌, ◌≡◌, true, ◌↔◌, eqb, Option, Some, None}
use Rattle.settings.specs.Panel.{tenths_ticks, fifths_ticks, seconds_ticks, tenths_in_range, fifths_in_range, seconds_in_range}
use Rattle.settings.specs.Timer.{ticked}
use Rattle.settings.specs.Limits.{limits_of, taken_of, taken_number, limits_in_range}
use Rattle.settings.specs.Terms.{terms_of, agreed_of, agreed_number, terms_in_range}
use Rattle.settings.specs.declared.panel.Tenths.{Tenths}
use Rattle.settings.specs.declared.panel.Fifths.{Fifths}
use Rattle.settings.specs.declared.panel.Seconds.{Seconds}
use Rattle.settings.specs.declared.panel.Ticks.{Ticks}
use Rattle.settings.specs.declared.limits.Panel.{Panel}
use Rattle.settings.specs.declared.limits.Limits.{Limits}
use Rattle.settings.specs.declared.terms.MessagePanel.{MessagePanel}
use Rattle.settings.specs.declared.terms.Terms.{Terms}

-- 01's table of settings: steps of 0.1 s, 0.2 s and 1 s in ticks of 0.1 s, and the ranges
pub record PanelTable : Type 0 where
  pub t1_steps : (p : Tenths) → (tenths_ticks p).0 ≡ p.0
  pub t2_steps : (p : Fifths) → (tenths_ticks (record { 0 = p.0 })).0 * 2 ≡ (fifths_ticks p).0
  pub t3_steps : (p : Seconds) → (tenths_ticks (record { 0 = p.0 })).0 * 10 ≡ (seconds_ticks p).0
  pub t1_range : (p : Tenths) → tenths_in_range p ≡ true ↔ ((1 ≤ p.0) × (p.0 ≤ 100))
  pub t2_range : (p : Fifths) → fifths_in_range p ≡ true ↔ ((1 ≤ p.0) × (p.0 ≤ 125))
  pub t3_range : (p : Seconds) → seconds_in_range p ≡ true ↔ ((1 ≤ p.0) × (p.0 ≤ 120))
  -- "T2 at panel 50 is 100 ticks, T3 at panel 45 is 450"
  pub t2_at_50 : (fifths_ticks (record { 0 = 50 })).0 ≡ 100
  pub t3_at_45 : (seconds_ticks (record { 0 = 45 })).0 ≡ 450

-- a timer that was started, after n ticks
abbrev pub again : Ticks → Option ℕ → Option ℕ
again limit None = None
again limit (Some timer) = ticked limit timer

unfoldable pub after_ticks : Ticks → ℕ → Option ℕ
after_ticks limit zero = Some 0
after_ticks limit (suc n) = again limit (after_ticks limit n)

-- "A timer starts at 0, each later tick adds 1, and it runs out on the tick that makes it exceed its limit"
abbrev pub TimerRunsOut : Type 0
TimerRunsOut =
    ((limit : Ticks) (n : ℕ) → n ≤ limit.0 → after_ticks limit n ≡ Some n)
    × ((limit : Ticks) → after_ticks limit (suc limit.0) ≡ None)
    -- one that was set beyond its limit, which none comes to that was started, runs out on the next
    × ((limit : Ticks) (timer : ℕ) → limit.0 ≤ timer → ticked limit timer ≡ None)

-- the ranges of 01's table for the line's settings
pub record Fits (p : Panel) : Type 0 where
  pub t1_least : 1 ≤ p.t1.0
  pub t1_most : p.t1.0 ≤ 100
  pub t2_least : 1 ≤ p.t2.0
  pub t2_most : p.t2.0 ≤ 125
  pub rty_most : p.rty ≤ 31

-- "The unit counts ticks of 0.1 s": steps of T1 are 0.1 s, of T2 0.2 s
abbrev pub limits_in_ticks : Panel → Limits
limits_in_ticks p = record { t1 = record { 0 = p.t1.0 }; t2 = record { 0 = p.t2.0 * 2 }; rty = p.rty; master = p.master }

-- refusal 4, "setting out of range", is given exactly when one is; else the settings are taken, in ticks, and in the ranges of
-- docs/STATE.md
pub record SettingsTaken (p : Panel) : Type 0 where
  pub taken : Fits p → taken_of p ≡ Some (limits_in_ticks p)
  pub four : taken_number (taken_of p) ≡ 4 ↔ (Fits p → ⊥)
  pub in_range : Fits p → limits_in_range (limits_of p) ≡ true

abbrev pub TakenInRange : Type 0
TakenInRange = (p : Panel) → SettingsTaken p

-- the ranges of 01's table for the settings of the transactions
pub record FitsTerms (p : MessagePanel) : Type 0 where
  pub t3_least : 1 ≤ p.t3.0
  pub t3_most : p.t3.0 ≤ 120
  pub t4_least : 1 ≤ p.t4.0
  pub t4_most : p.t4.0 ≤ 120
  pub device_most : p.device ≤ 32767
  pub check_most : p.duplicates ≤ 1

-- steps of T3 and T4 are 1 s; "duplicate check on/off 0, 1"
abbrev pub terms_in_ticks : MessagePanel → Terms
terms_in_ticks p = record {
  t3 = record { 0 = p.t3.0 * 10 };
  t4 = record { 0 = p.t4.0 * 10 };
  device = p.device;
  duplicates = eqb p.duplicates 1;
  host = p.host;
}

-- refusal 4 again: given exactly when one of these is out of range; else they are taken, in ticks, and in the ranges of
-- docs/STATE.md
pub record TermsTaken (p : MessagePanel) : Type 0 where
  pub taken : FitsTerms p → agreed_of p ≡ Some (terms_in_ticks p)
  pub four : agreed_number (agreed_of p) ≡ 4 ↔ (FitsTerms p → ⊥)
  pub in_range : FitsTerms p → terms_in_range (terms_of p) ≡ true
  -- "duplicate check on/off 0, 1"
  pub check : ((terms_of p).duplicates ≡ true) ↔ (p.duplicates ≡ 1)

abbrev pub TermsInRange : Type 0
TermsInRange = (p : MessagePanel) → TermsTaken p
