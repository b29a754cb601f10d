use Rattle.report.proofs.Lines.{lines}
use Rattle.report.proofs.write.Line.add_total.Goals as goal

pub returns : goal.returns
returns c = search lines
