-- `call::byte` meets its contract.
use Rattle.std.proofs.Common.{sym, ◌∙◌}
use Rattle.link.specs.State.{with_heard}
use Rattle.unit.proofs.Gates.{past}
use Rattle.unit.proofs.Courses.{by_parts, opens, shuts, byte_on, short_byte}
use Rattle.unit.proofs.call.byte.Goals as goal

pub settles-requires : goal.settles-requires
settles-requires c = (past c.args.link _ _ (c.admits.ensures ∙ by_parts c.args.link _ _) c.in_default.is).output

-- the short way
pub returns-then-is_quiet : goal.returns-then-is_quiet
returns-then-is_quiet c =
    opens c.args.link c.args.room.now c.args.out.now _ (c.admits.ensures ∙ by_parts c.args.link _ _) c.in_default.is
    (byte_on c.args.link c.args.b c.args.room.now c.args.out.now c.byte-step.ensures
    (short_byte (with_heard c.args.link c.byte-step.result.line _) c.args.room.now c.args.out.now c.byte-step.result.out c.settles.ensures c.no_flags.ensures
    c.byte-step.result.told c.byte-step.result.remark (sym c.is_quiet.ensures ∙ c.if-is_quiet.true)))

pub unless_block-requires : goal.unless_block-requires
unless_block-requires c = let p = past c.args.link _ _ (c.admits.ensures ∙ by_parts c.args.link _ _) c.in_default.is in (p.output, p.block)

pub returns : goal.returns
returns c =
    opens c.args.link c.args.room.now c.args.out.now _ (c.admits.ensures ∙ by_parts c.args.link _ _) c.in_default.is
    (byte_on c.args.link c.args.b c.args.room.now c.args.out.now c.byte-step.ensures c.unless_block.ensures)

pub returns-in-Err : goal.returns-in-Err
returns-in-Err c = shuts c.args.link c.args.room.now c.args.out.now _ _ (c.admits.ensures ∙ by_parts c.args.link _ _) c.in-Err.is c.refused.ensures
