use Rattle.report.proofs.Parts.{laws}
use Rattle.report.proofs.write.Line.add_place.Goals as goal

pub returns : goal.returns
returns c = search laws
