-- `incoming::tick_incoming` meets its contract: each place is ticked.
use Rattle.std.proofs.Common.{◌≡◌, length, rules}
use Rattle.place.specs.Incoming.{fresh_incoming, incoming_tick}
use Rattle.table.proofs.Fours.{unmapped, map_four}
use Rattle.seek.proofs.incoming.tick_incoming.Goals as goal

pub returns : goal.returns
returns c =
    let l = c.args.incoming in
    let four : length l ≡ 4 = search (rules, unmapped) in
    rw (c.tick.ensures, c.tick-2.ensures, c.tick-3.ensures, c.tick-4.ensures) (map_four (incoming_tick c.args.terms) fresh_incoming l four)
