-- `find` meets its contract: what `position` finds is the first such byte.
use Rattle.std.proofs.Common.{rules, ◌≡◌, ◌≢◌, ℕ, refl, sym, None, Some}
use borrow.Author.Tests.{tests}
use Rattle.std.proofs.lemmas.Iterator.{YieldsList-from_slice, IsFirst-from_position, index_from_first}
use Rattle.text.specs.Find.{index_of}
use Rattle.parse.proofs.Finding.{index_here, index_past}
use Rattle.parse.proofs.fields.find.Goals as goal

pub returns-in-Some : goal.returns-in-Some
unfolding index_of
returns-in-Some c =
    sym (index_from_first (index_of c.args.byte) (λ (x : ℕ). x ≡ c.args.byte) (λ (x : ℕ). x ≢ c.args.byte) refl
    (index_here c.args.byte) (index_past c.args.byte) c.args.text.now (Some c.in-Some.at)
    (IsFirst-from_position _ _ _ (λ (x : ℕ). x ≡ c.args.byte) (λ (x : ℕ). x ≢ c.args.byte) c.in-Some.ensures.ran (YieldsList-from_slice c.args.text.now cc) (λ x q k. search (rules, tests)) (λ x q k. search (rules, tests))))

pub returns-in-None : goal.returns-in-None
unfolding index_of
returns-in-None c =
    sym (index_from_first (index_of c.args.byte) (λ (x : ℕ). x ≡ c.args.byte) (λ (x : ℕ). x ≢ c.args.byte) refl
    (index_here c.args.byte) (index_past c.args.byte) c.args.text.now None
    (IsFirst-from_position _ _ _ (λ (x : ℕ). x ≡ c.args.byte) (λ (x : ℕ). x ≢ c.args.byte) c.in-None.ensures.ran (YieldsList-from_slice c.args.text.now cc) (λ x q k. search (rules, tests)) (λ x q k. search (rules, tests))))
