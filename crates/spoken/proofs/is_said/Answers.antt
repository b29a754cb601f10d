use Rattle.spoken.proofs.Bytes.{said_laws}
use Rattle.spoken.proofs.is_said.Goals as goal

pub returns-then-not-is_small : goal.returns-then-not-is_small
returns-then-not-is_small c = search said_laws

pub returns-then-c-d : goal.returns-then-c-d
returns-then-c-d c = search said_laws

pub overflow_sub-result : goal.overflow_sub-result
overflow_sub-result c = search said_laws

pub returns-then-small : goal.returns-then-small
returns-then-small c = search said_laws

pub returns-then-not-is_capital : goal.returns-then-not-is_capital
returns-then-not-is_capital c = search said_laws

pub returns-then-c-d-2 : goal.returns-then-c-d-2
returns-then-c-d-2 c = search said_laws

pub overflow_add-result : goal.overflow_add-result
overflow_add-result c = search said_laws

pub returns : goal.returns
returns c = search said_laws
