-- `are_digits` meets its contract: what `all` finds of every byte.
use Rattle.std.proofs.Common.{ℕ, is_some, ◌∙◌, rules}
use Rattle.std.proofs.lemmas.Iterator.{YieldsList-from_slice}
use Rattle.std.proofs.lemmas.Iterator.Search.{all_from_yields_List}
use Rattle.text.specs.Hex.{digit_of}
use Rattle.text.proofs.Scanning.{all_digits}
use Rattle.parse.proofs.hex.are_digits.Goals as goal

pub returns : goal.returns
returns c =
    all_from_yields_List (λ (b : ℕ). is_some (digit_of b)) _ _ _ c.all.ensures.ran (YieldsList-from_slice c.args.text.now cc) (λ x b q t. search rules)
    ∙ all_digits c.args.text.now
