-- `courier::settles` meets its contract.
use Rattle.unit.proofs.courier.settles.Goals as goal

pub returns : goal.returns
returns c =
    let line = c.settle-end.ensures in
    (rw (c.put_codes-count.ensures.0, line) at c.answers.ensures, rw line at c.put_codes-count.ensures.1)
