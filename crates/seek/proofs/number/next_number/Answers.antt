-- `number::next_number` meets its contract: the search goes on from a candidate that is passed over, and the walk over the
-- places finds whether one of them has it.
use Rattle.std.proofs.Common.{◌≡◌, ℕ, ◌<◌, true, List, ◌∷◌, map, length, get_or, sym, refl, ap, ◌∙◌, arith, rules, eq-eqb}
use lib.ListN.{length-map, get_or-map}
use Rattle.place.specs.declared.Own.{Own}
use Rattle.table.proofs.Numbers.{wait, found, Goes, goes_on_lem, hit, miss, left}
use Rattle.table.specs.Number.{following, held_number, among, next_number}
use Rattle.seek.proofs.number.next_number.Goals as goal

module _ (last latest : ℕ) (own : List Own) (four : length own ≡ 4) where
  -- the numbers of the places, and with them all that is passed over
  abbrev nums : List ℕ
  nums = map held_number own

  abbrev passed : List ℕ
  passed = latest ∷ nums

  four_nums : length nums ≡ 4
  four_nums = length-map own held_number ∙ four

  -- where the candidate is passed over, the search goes on from it and is nearer its end
  on_from : (n m : ℕ) → Goes last latest nums n → m ≡ following n → among m passed ≡ true → Goes last latest nums m × (wait 6 passed m < wait 6 passed n)
  on_from n m g e h = goes_on_lem _ _ nums _ _ four_nums g e h

  -- it is the latest
  is_latest : (m : ℕ) → m ≡ latest → among m passed ≡ true
  unfolding among
  is_latest m e = rw (eq-eqb latest m (sym e))

  -- the number of the place looked at is what was read
  its_number : (i k : ℕ) (z : Own) → k ≡ held_number (get_or own i z) → held_number z ≡ 0 → get_or nums i 0 ≡ k
  its_number i k z e free = ap (get_or nums i) (sym free) ∙ get_or-map held_number own i z ∙ sym e

pub search-smaller-then-n-latest : goal.search-smaller-then-n-latest
search-smaller-then-n-latest c =
    let four : length c.args.own ≡ 4 = search rules in
    (on_from c.args.last c.args.latest c.args.own four _ _ c.search.invariant c.following-n.ensures (is_latest c.args.last c.args.latest c.args.own four _ c.if-n-latest.true)).1

pub search-preserved-then-n-latest : goal.search-preserved-then-n-latest
search-preserved-then-n-latest c =
    let four : length c.args.own ≡ 4 = search rules in
    (on_from c.args.last c.args.latest c.args.own four _ _ c.search.invariant c.following-n.ensures (is_latest c.args.last c.args.latest c.args.own four _ c.if-n-latest.true)).0

pub search-smaller : goal.search-smaller
unfolding held_number
search-smaller c =
    let four : length c.args.own ≡ 4 = search rules in
    let four_n = four_nums c.args.last c.args.latest c.args.own four in
    (on_from c.args.last c.args.latest c.args.own four _ _ c.search.invariant c.following-n.ensures
    (hit _ _ (map held_number c.args.own) c.loop-i.i (omega arith) c.loop-i.invariant.1 (its_number c.args.last c.args.latest c.args.own four c.loop-i.i _ _ c.held_number.ensures refl ∙ c.if-held_number-n.true))).1

pub search-preserved : goal.search-preserved
unfolding held_number
search-preserved c =
    let four : length c.args.own ≡ 4 = search rules in
    let four_n = four_nums c.args.last c.args.latest c.args.own four in
    (on_from c.args.last c.args.latest c.args.own four _ _ c.search.invariant c.following-n.ensures
    (hit _ _ (map held_number c.args.own) c.loop-i.i (omega arith) c.loop-i.invariant.1 (its_number c.args.last c.args.latest c.args.own four c.loop-i.i _ _ c.held_number.ensures refl ∙ c.if-held_number-n.true))).0

pub loop-i-preserved : goal.loop-i-preserved
unfolding held_number
loop-i-preserved c =
    let four : length c.args.own ≡ 4 = search rules in
    let four_n = four_nums c.args.last c.args.latest c.args.own four in (
      search rules,
      miss _ (map held_number c.args.own) c.loop-i.i (omega arith) c.loop-i.invariant.1
          (λ q. c.if-held_number-n.false (sym (its_number c.args.last c.args.latest c.args.own four c.loop-i.i _ _ c.held_number.ensures refl) ∙ q)),
    )

pub returns : goal.returns
unfolding next_number
returns c =
    let four : length c.args.own ≡ 4 = search rules in
    let four_n = four_nums c.args.last c.args.latest c.args.own four in
    let none = left _ _ (map held_number c.args.own) c.loop-i.i (omega arith) c.loop-i.invariant.1 c.if-n-latest.false in
    found (c.args.latest ∷ map held_number c.args.own) c.search.n c.following-n.result c.following-n.ensures none ∙ c.search.invariant.1
