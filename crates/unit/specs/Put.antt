-- One code put into the output at an index: what the functions that put codes say of it.
use Rattle.std.specs.Prelude.{ℕ, List, set}
use Rattle.line.specs.declared.step.Out.{Out}
use Rattle.line.specs.declared.step.Out.TheVariants as out

abbrev pub put_at : List ℕ → ℕ → Out → List ℕ
put_at bs i out.Nothing = bs
put_at bs i (out.Code c) = set bs i c
put_at bs i out.Block = bs
