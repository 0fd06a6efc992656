-- `pair` meets its contract.
use Rattle.std.proofs.Common.{rules}
use Rattle.text.specs.Hex.{byte_of}
use Rattle.text.proofs.Scanning.{value_most}
use Rattle.parse.proofs.hex.pair.Goals as goal

pub overflow_mul-result : goal.overflow_mul-result
overflow_mul-result c = search (rules, value_most c.args.first, c.digit.ensures, c.unwrap_or.ensures)

pub overflow_add-result : goal.overflow_add-result
overflow_add-result c = search (rules, value_most c.args.first, value_most c.args.second, c.digit.ensures, c.digit-2.ensures, c.unwrap_or.ensures, c.unwrap_or-2.ensures)

pub returns : goal.returns
unfolding byte_of
returns c = search (rules, c.digit.ensures, c.digit-2.ensures, c.unwrap_or.ensures, c.unwrap_or-2.ensures)
