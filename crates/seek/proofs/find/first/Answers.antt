-- `find::first` meets its contract: `position` walks as the definition does.
use Rattle.std.proofs.Common.{Bool, ◌∙◌, rules}
use Rattle.std.proofs.lemmas.Iterator.{YieldsList-from_slice}
use Rattle.std.proofs.lemmas.Iterator.Search.{position_from_yields_List}
use Rattle.std.proofs.lemmas.Iterator.Adapters.{position_from-zero}
use Rattle.table.specs.Find.{first_of}
use Rattle.seek.proofs.Positions.{same}
use Rattle.seek.proofs.find.first.Goals as goal

pub returns : goal.returns
unfolding first_of
returns c =
    position_from_yields_List (λ (b : Bool). b) _ _ _ c.position.ensures.ran (YieldsList-from_slice c.args.marks (search rules)) (λ x b q t. search rules)
    ∙ position_from-zero (λ (b : Bool). b) c.args.marks
    ∙ same 0 c.args.marks
