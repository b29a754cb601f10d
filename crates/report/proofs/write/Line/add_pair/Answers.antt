use Rattle.report.proofs.Lines.{parts}
use Rattle.report.proofs.write.Line.add_pair.Goals as goal

pub returns : goal.returns
returns c = search parts
