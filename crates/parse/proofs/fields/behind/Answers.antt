-- `behind` meets its contract.
use mathlib.Core.Path.{◌≡◌, sym, ap, ◌∙◌}
use native.Mathlib.Omega.{arith}
use lib.ListN.{length, drop, length-drop}
use lib.Seq.{take_all}
use Prim.Native.Nat.{ℕ, ◌+◌, ◌-◌}
use Rattle.text.specs.Find.{index_of}
use Rattle.text.specs.Field.{space, behind_of}
use Rattle.text.proofs.Scanning.{nothing_behind}
use Rattle.parse.proofs.fields.behind.Goals as goal

pub returns-then-end-text : goal.returns-then-end-text
unfolding behind_of
returns-then-end-text c =
    let text = c.args.text.now in
    let at : c.find-end.result ≡ index_of space text = c.find-end.ensures in
    take_all (length text - (c.find-end.result + 1)) (drop (c.find-end.result + 1) text) (omega (arith, length-drop (c.find-end.result + 1) text))
    ∙ ap (λ (k : ℕ). drop (k + 1) text) at

pub returns-else-end-text : goal.returns-else-end-text
unfolding behind_of
returns-else-end-text c =
    let text = c.args.text.now in
    let at : c.find-end.result ≡ index_of space text = c.find-end.ensures in
    sym (nothing_behind text (index_of space text + 1) (omega (arith, at, c.if-end-text.false)))
