use Rattle.enclosed.proofs.Expressions.{laws}
use Rattle.enclosed.proofs.read_expression_data.Goals as goal

pub returns-then-s-end : goal.returns-then-s-end
returns-then-s-end c = search laws

pub returns-then-s-end-ne41 : goal.returns-then-s-end-ne41
returns-then-s-end-ne41 c = search laws

pub returns : goal.returns
returns c = search laws
