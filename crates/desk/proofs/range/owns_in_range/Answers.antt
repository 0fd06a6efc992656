-- `range::owns_in_range` meets its contract: all four, by their place.
use Rattle.std.proofs.Common.{◌≡◌, length, ◌∙◌, rules}
use Rattle.std.proofs.lemmas.Iterator.{YieldsList-from_slice}
use Rattle.std.proofs.lemmas.Iterator.Search.{all_from_yields_List}
use Rattle.place.specs.Own.{fresh_own}
use Rattle.place.specs.Range.{own_in_range}
use Rattle.exchange.specs.Range.{owns_in_range}
use Rattle.table.proofs.Fours.{unmapped}
use Rattle.desk.proofs.All.{all_four}
use Rattle.desk.proofs.range.owns_in_range.Goals as goal

pub returns : goal.returns
unfolding owns_in_range
returns c =
    let l = c.args.own in
    let four : length l ≡ 4 = search (rules, unmapped) in
    all_from_yields_List own_in_range _ _ _ c.all.ensures.ran (YieldsList-from_slice l (search rules)) (λ x b q t. search rules) ∙ all_four own_in_range fresh_own l four
