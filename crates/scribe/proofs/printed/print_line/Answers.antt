-- `printed::print_line` meets its contract.
use Rattle.scribe.proofs.printed.print_line.Goals as goal

pub returns-in-Answer : goal.returns-in-Answer
returns-in-Answer c = simp c.in-Answer.is c.print_answer.ensures

pub returns-in-Verdict : goal.returns-in-Verdict
returns-in-Verdict c = simp c.in-Verdict.is c.print_verdict.ensures

pub returns-in-Dropped : goal.returns-in-Dropped
returns-in-Dropped c = simp c.in-Dropped.is c.print_dropped.ensures

pub returns-in-Unreadable : goal.returns-in-Unreadable
returns-in-Unreadable c = simp c.in-Unreadable.is c.print_unreadable.ensures
