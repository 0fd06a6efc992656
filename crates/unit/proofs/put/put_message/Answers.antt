-- `put::put_message` meets its contract.
use mathlib.Core.Path.{refl}
use Rattle.unit.proofs.Codes.{no_code, part_fits, cut_from}
use Rattle.unit.proofs.put.put_message.Goals as goal

pub put_block-requires : goal.put_block-requires
put_block-requires c = (rw c.bytes_of.ensures (part_fits _ _ _ _ _ _ _ _ c.cut_block.ensures c.in-Some.is), c.requires)

pub put_report-requires : goal.put_report-requires
put_report-requires c = c.requires

pub returns-in-Nothing : goal.returns-in-Nothing
returns-in-Nothing c = simp c.in-Nothing.is (refl, no_code _)

pub returns-in-Some : goal.returns-in-Some
returns-in-Some c = let a = c.args in rw (cut_from a.device a.shown a.message _ _ a.k a.room.now c.in-Message.is (rw (c.from.ensures, c.from-in-Message.ensures) at c.cut_block.ensures)) (simp c.in-Some.is (rw c.bytes_of.ensures at c.put_block.ensures))

pub returns-in-None : goal.returns-in-None
returns-in-None c = let a = c.args in rw (cut_from a.device a.shown a.message _ _ a.k a.room.now c.in-Message.is (rw (c.from.ensures, c.from-in-Message.ensures) at c.cut_block.ensures)) (simp c.in-None.is (refl, no_code _))

pub returns-in-Report : goal.returns-in-Report
returns-in-Report c = simp c.in-Report.is c.put_report.ensures
