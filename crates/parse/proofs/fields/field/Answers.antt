-- `field` meets its contract.
use mathlib.Core.Path.{ap, ◌∙◌}
use lib.ListN.{take}
use Prim.Native.Nat.{ℕ}
use native.Mathlib.Nat.{sub-zero}
use native.Mathlib.Omega.{arith}
use Rattle.text.specs.Field.{space, field_of}
use Rattle.parse.proofs.Finding.{index_most}
use Rattle.parse.proofs.fields.field.Goals as goal

pub returns : goal.returns
unfolding field_of
returns c = ap (λ (k : ℕ). take k (c.args.text.now)) (sub-zero _ ∙ c.find-end.ensures)

pub slice_bounds-result-end : goal.slice_bounds-result-end
slice_bounds-result-end c = omega (arith, c.find-end.ensures, index_most space c.args.text.now)
