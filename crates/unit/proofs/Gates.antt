-- What is known once a call is past refusals 1 to 3. Assumes nothing.
use Rattle.std.specs.Prelude.{Result, Ok, Err}
use Prim.Native.Nat.{ℕ, ◌≤◌}
use mathlib.Core.Path.{◌≡◌, sym, ◌∙◌}
use mathlib.Core.Bool.{true, ◌&&◌}
use lib.Dec.{ltb, eqb, leb}
use borrow.Author.Tests.{ltb-false, eqb-true, leb-true}
use Rattle.cut.specs.Blocks.{most_blocks}
use Rattle.wire.proofs.Choice.{chosen, both}
use Rattle.settings.specs.Panel.{between}
use Rattle.link.specs.State.{output_short, room_fits, link_in_range, gate_of}
use Rattle.link.specs.declared.Link.{Link}
use Rattle.link.specs.declared.Refusal.{Refusal}

pub record Past (u : Link) (room out : ℕ) : Type 0 where
  pub output : 257 ≤ out
  pub whole : room ≡ 36864
  pub fits : link_in_range u ≡ true
  pub block : u.block ≤ most_blocks

abbrev IsOpen : Result Unit Refusal → Type 0
IsOpen (Ok _) = Unit {0}
IsOpen (Err r) = ⊥

is_open : {g : Result Unit Refusal} → g ≡ Ok tt → IsOpen g
is_open e = rw e tt

past_gate : (u : Link) (room out : ℕ) → IsOpen (gate_of u room out) → Past u room out
unfolding gate_of output_short room_fits link_in_range between
past_gate u room out =
    chosen (λ (g : Result Unit Refusal). IsOpen g → Past u room out) (ltb out 257) _ _ (λ t z. absurd z)
    (λ f. chosen (λ (g : Result Unit Refusal). IsOpen g → Past u room out) (eqb room 36864) _ _
    (λ t. chosen (λ (g : Result Unit Refusal). IsOpen g → Past u room out) (link_in_range u) _ _
    (λ in' z. record {
      output = ltb-false out 257 f;
      whole = eqb-true room 36864 t;
      fits = in';
      block = leb-true u.block most_blocks ((both (leb 1 u.block) (leb u.block most_blocks)).0 ((both (leb 1 u.block && leb u.block most_blocks) _).0 in').0).1;
    })
    (λ no z. absurd z)) (λ no z. absurd z))

pub past : (u : Link) (room out : ℕ) {g : Result Unit Refusal} → g ≡ gate_of u room out → g ≡ Ok tt → Past u room out
past u room out e q = past_gate u room out (is_open (sym e ∙ q))
