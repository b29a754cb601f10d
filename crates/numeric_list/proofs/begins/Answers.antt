use Rattle.numeric_list.proofs.List.{laws}
use Rattle.numeric_list.proofs.begins.Goals as goal

pub returns-then-is_digit : goal.returns-then-is_digit
returns-then-is_digit c = search laws

pub returns-then-b-eq45 : goal.returns-then-b-eq45
returns-then-b-eq45 c = search laws

pub returns-then-b-eq43 : goal.returns-then-b-eq43
returns-then-b-eq43 c = search laws

pub returns : goal.returns
returns c = search laws
