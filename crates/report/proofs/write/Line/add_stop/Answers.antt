use Rattle.report.proofs.Lines.{lines}
use Rattle.report.proofs.write.Line.add_stop.Goals as goal

pub returns : goal.returns
returns c = search lines
