-- `step::unless_block` meets its contract.
use Rattle.std.proofs.Common.{ℕ, false, List}
use Rattle.line.specs.declared.step.Out.{Out}
use Rattle.line.specs.declared.step.Told.{Told}
use Rattle.line.specs.declared.step.Remark.{Remark}
use Rattle.link.specs.declared.Link.{Link}
use Rattle.link.specs.Run.{Left, hearing, block_out, onward}
use Rattle.unit.proofs.Courses.{on_no_block, on_block}
use Rattle.unit.proofs.step.unless_block.Goals as goal

-- the two ways that the call can go
abbrev block : Told → Remark → Link → List ℕ → List ℕ → Left
block told remark link room out = block_out link (hearing told remark link room) room out

abbrev goes : Out → Told → Remark → Link → List ℕ → List ℕ → Left
goes put told remark link room out = onward put false told link (hearing told remark link room) out

pub returns-in-Nothing : goal.returns-in-Nothing
returns-in-Nothing c =
    on_no_block c.args.step.out (block c.args.step.told c.args.step.remark c.args.link c.args.room.now c.args.out.now)
    (goes c.args.step.out c.args.step.told c.args.step.remark c.args.link c.args.room.now c.args.out.now) c.in-Nothing.is c.onward.ensures

pub returns-in-Block : goal.returns-in-Block
returns-in-Block c =
    on_block c.args.step.out (block c.args.step.told c.args.step.remark c.args.link c.args.room.now c.args.out.now)
    (goes c.args.step.out c.args.step.told c.args.step.remark c.args.link c.args.room.now c.args.out.now) c.in-Block.is c.block_out.ensures
