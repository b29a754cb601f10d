use Rattle.report.proofs.Lines.{parts}
use Rattle.report.proofs.write.Line.add_form.Goals as goal

pub returns-then-query : goal.returns-then-query
returns-then-query c = search parts

pub returns-else-query : goal.returns-else-query
returns-else-query c = search parts
