use Rattle.report.proofs.Numbers.{laws}
use Rattle.report.proofs.write.Line.add_number.Goals as goal

pub returns : goal.returns
returns c = search laws
