-- `call::tick` meets its contract.
use Rattle.std.proofs.Common.{◌≡◌, true, length, sym, ◌∙◌, rules}
use Rattle.link.specs.State.{with_heard}
use Rattle.unit.proofs.Gates.{past}
use Rattle.unit.proofs.Courses.{by_parts, opens, shuts, step_on, short_tick}
use Rattle.unit.proofs.call.tick.Goals as goal

pub settles-requires : goal.settles-requires
settles-requires c = (past c.args.link _ _ (c.admits.ensures ∙ by_parts c.args.link _ _) c.in_default.is).output

-- the short way
pub returns-then-is_still : goal.returns-then-is_still
returns-then-is_still c =
    let own_four : length c.args.link.exchange.own ≡ 4 = search rules in
    let incoming_four : length c.args.link.exchange.incoming ≡ 4 = search rules in
    opens c.args.link c.args.room.now c.args.out.now _ (c.admits.ensures ∙ by_parts c.args.link _ _) c.in_default.is
    (step_on true c.args.link c.args.room.now c.args.out.now c.tick-step.ensures
    (short_tick (with_heard c.args.link c.tick-step.result.line _) c.args.room.now c.args.out.now c.tick-step.result.out c.settles.ensures c.no_flags.ensures
    c.tick-step.result.told c.tick-step.result.remark (sym c.is_quiet.ensures ∙ c.if-is_quiet.true) own_four incoming_four (sym c.is_still.ensures ∙ c.if-is_still.true)))

pub onward-requires : goal.onward-requires
onward-requires c = let p = past c.args.link _ _ (c.admits.ensures ∙ by_parts c.args.link _ _) c.in_default.is in (p.output, p.block)

pub returns : goal.returns
returns c =
    opens c.args.link c.args.room.now c.args.out.now _ (c.admits.ensures ∙ by_parts c.args.link _ _) c.in_default.is
    (step_on true c.args.link c.args.room.now c.args.out.now c.tick-step.ensures c.onward.ensures)

pub returns-in-Err : goal.returns-in-Err
returns-in-Err c = shuts c.args.link c.args.room.now c.args.out.now _ _ (c.admits.ensures ∙ by_parts c.args.link _ _) c.in-Err.is c.refused.ensures
