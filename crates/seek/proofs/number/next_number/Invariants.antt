use Rattle.std.proofs.Common.{◌≡◌, ◌-◌, ◌≤◌, ◌∷◌, map, drop}
use Rattle.table.proofs.Numbers.{wait, Goes}
use Rattle.table.specs.Number.{held_number, among}
use Rattle.seek.proofs.number.next_number.Given as goal

-- the walk at place i: n is among the rest exactly if it is among all
abbrev pub invariant-loop-i : goal.invariant-loop-i
invariant-loop-i l = (l.i ≤ 4) × (among l.n (drop l.i (map held_number l.own)) ≡ among l.n (map held_number l.own))

abbrev pub decreases-loop-i : goal.decreases-loop-i
decreases-loop-i l = 4 - l.i

-- the search at n: the first after n is the first after `last`
abbrev pub invariant-search : goal.invariant-search
invariant-search l = Goes l.last l.latest (map held_number l.own) l.n

abbrev pub decreases-search : goal.decreases-search
decreases-search l = wait 6 (l.latest ∷ map held_number l.own) l.n
