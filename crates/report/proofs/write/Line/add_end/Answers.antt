use Rattle.report.proofs.Steps.{laws}
use Rattle.report.proofs.write.Line.add_end.Goals as goal

pub returns : goal.returns
returns c = search laws
