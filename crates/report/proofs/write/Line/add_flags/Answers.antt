use Rattle.report.proofs.Parts.{laws}
use Rattle.report.proofs.write.Line.add_flags.Goals as goal

pub returns-in-true-true : goal.returns-in-true-true
returns-in-true-true c = search laws

pub returns-in-true-false : goal.returns-in-true-false
returns-in-true-false c = search laws

pub returns-in-false-default : goal.returns-in-false-default
returns-in-false-default c = search laws
