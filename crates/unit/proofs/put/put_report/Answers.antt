-- `put::put_report` meets its contract.
use Rattle.std.proofs.Common.{◌≡◌, length, rules}
use Rattle.unit.proofs.Codes.{report_body_lem}
use Rattle.unit.proofs.put.put_report.Goals as goal

pub returns : goal.returns
returns c =
    let ten : length c.args.shown ≡ 10 = search rules in
    rw (c.report_header.ensures, report_body_lem c.args.shown ten c.put.ensures c.put-2.ensures) at c.put_block.ensures
