-- `told::judged` meets its contract.
use mathlib.Core.Path.{◌≡◌}
use native.Mathlib.Omega.{arith}
use lib.ListN.{length}
use Rattle.unit.proofs.Courses.{judges}
use borrow.Author.Rules.{rules}
use Rattle.unit.proofs.told.judged.Goals as goal

pub data_in-requires : goal.data_in-requires
data_in-requires c = let full : length c.args.link.received ≡ 256 = search rules in omega arith

pub returns : goal.returns
returns c = judges (rw (c.header_in.ensures, c.data_in.ensures) at c.judge-judged.ensures)
