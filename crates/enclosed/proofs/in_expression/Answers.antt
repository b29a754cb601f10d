use Rattle.enclosed.proofs.Expressions.{laws}
use Rattle.enclosed.proofs.in_expression.Goals as goal

pub returns-then-b-le58 : goal.returns-then-b-le58
returns-then-b-le58 c = search laws

pub returns-then-b-eq34 : goal.returns-then-b-eq34
returns-then-b-eq34 c = search laws

pub returns-then-b-eq39 : goal.returns-then-b-eq39
returns-then-b-eq39 c = search laws

pub returns-then-b-eq59 : goal.returns-then-b-eq59
returns-then-b-eq59 c = search laws

pub returns-then-b-eq40 : goal.returns-then-b-eq40
returns-then-b-eq40 c = search laws

pub returns-then-b-eq41 : goal.returns-then-b-eq41
returns-then-b-eq41 c = search laws

pub returns : goal.returns
returns c = search laws
