use Rattle.report.proofs.Steps.{laws}
use Rattle.report.proofs.write.Line.add_taken.Goals as goal

pub returns : goal.returns
returns c = search laws
