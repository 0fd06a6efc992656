-- `put::put_codes` meets its contract.
use native.Mathlib.Omega.{arith}
use Rattle.unit.proofs.Codes.{code_short, codes_length, codes_put, put_length}
use mathlib.Core.Path.{◌∙◌}
use Rattle.unit.proofs.put.put_codes.Goals as goal

pub put_code-more-requires : goal.put_code-more-requires
put_code-more-requires c = let e = c.put_code-count.ensures in (omega (arith, e.0, code_short c.args.first), rw (e.1, put_length c.args.out.now 0 c.args.first) c.requires)

pub overflow_add-result : goal.overflow_add-result
overflow_add-result c = omega (arith, c.put_code-count.ensures.0, c.put_code-more.ensures.0, code_short c.args.first, code_short c.args.second)

pub returns : goal.returns
returns c = let e = c.put_code-count.ensures in let f = c.put_code-more.ensures in (omega (arith, e.0, f.0, codes_length c.args.first c.args.second), rw (e.1, e.0) at f.1 ∙ codes_put c.args.out.now c.args.first c.args.second c.requires)
