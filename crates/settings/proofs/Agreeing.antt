-- The settings of the transactions are taken exactly if each is in its range. Assumes nothing.
use Rattle.std.specs.Prelude.{Option, Some, None}
use mathlib.Core.Path.{◌≡◌, refl}
use mathlib.Core.Bool.{true, cond, ◌&&◌}
use mathlib.Core.Logic.{◌↔◌}
use native.Mathlib.Omega.{arith}
use lib.Dec.{leb}
use borrow.Author.Tests.{le-leb, leb-true, eq-eqb, eqb-true}
use Rattle.wire.proofs.Choice.{judged, both, three}
use Rattle.settings.specs.Panel.{between, seconds_in_range}
use Rattle.settings.specs.Terms.{message_panel_in_range, terms_of, agreed_of, agreed_number, terms_in_range}
use Rattle.settings.specs.Theorems.{FitsTerms, TermsInRange, terms_in_ticks}
use Rattle.settings.proofs.Panels.{in_between}
use Rattle.settings.proofs.Taking.{zero_four}
use Rattle.settings.specs.declared.terms.MessagePanel.{MessagePanel}
use Rattle.settings.specs.declared.terms.Terms.{Terms}

pub fits_terms : (p : MessagePanel) → message_panel_in_range p ≡ true ↔ FitsTerms p
unfolding message_panel_in_range
fits_terms p =
    let all = both (seconds_in_range p.t3 && seconds_in_range p.t4 && leb p.device 32767) (leb p.duplicates 1) in
    let w = three (seconds_in_range p.t3) (seconds_in_range p.t4) (leb p.device 32767) in
    let a = in_between 1 p.t3.0 120 in
    let b = in_between 1 p.t4.0 120 in (
      λ e.
          let f = w.0 (all.0 e).0 in
          record {
            t3_least = (a.0 f.0).0;
            t3_most = (a.0 f.0).1;
            t4_least = (b.0 f.1).0;
            t4_most = (b.0 f.1).1;
            device_most = leb-true p.device 32767 f.2;
            check_most = leb-true p.duplicates 1 (all.0 e).1;
          },
      λ f.
          all.1 (
            w.1 (a.1 (f.t3_least, f.t3_most), b.1 (f.t4_least, f.t4_most), le-leb p.device 32767 f.device_most),
            le-leb p.duplicates 1 f.check_most,
          ),
    )

-- what holds of the settings that are taken, and of those that are not
by_terms : (p : MessagePanel) (P : Option Terms → Type 0) → (FitsTerms p → P (Some (terms_of p))) → ((FitsTerms p → ⊥) → P None) → P (agreed_of p)
unfolding agreed_of
by_terms p P f n = judged (message_panel_in_range p) (fits_terms p) (λ t. P (cond t (Some (terms_of p)) None)) f n

in_range : (p : MessagePanel) → FitsTerms p → terms_in_range (terms_of p) ≡ true
unfolding terms_in_range between
in_range p f =
    simp (le-leb 10 (terms_of p).t3.0 (omega (arith, f.t3_least)), le-leb (terms_of p).t3.0 1200 (omega (arith, f.t3_most)), le-leb 10 (terms_of p).t4.0 (omega (arith, f.t4_least)), le-leb (terms_of p).t4.0 1200 (omega (arith, f.t4_most)), le-leb p.device 32767 f.device_most)

pub terms_in_range_lem : TermsInRange
terms_in_range_lem p =
    record {
      taken = λ f. by_terms p (λ t. t ≡ Some (terms_in_ticks p)) (λ _. refl) (λ n. absurd (n f));
      four = by_terms p (λ t. agreed_number t ≡ 4 ↔ (FitsTerms p → ⊥)) (λ f. (λ e. absurd (zero_four e), λ n. absurd (n f))) (λ n. (λ e. n, λ _. refl));
      in_range = in_range p;
      check = (eqb-true p.duplicates 1, eq-eqb p.duplicates 1);
    }
