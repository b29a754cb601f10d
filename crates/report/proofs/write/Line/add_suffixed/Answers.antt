use Rattle.report.proofs.Parts.{laws}
use Rattle.report.proofs.write.Line.add_suffixed.Goals as goal

pub returns : goal.returns
returns c = search laws
