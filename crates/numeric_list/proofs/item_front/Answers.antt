use Rattle.numeric_list.proofs.List.{laws}
use Rattle.numeric_list.proofs.item_front.Goals as goal

pub returns-then-state : goal.returns-then-state
returns-then-state c = search laws

pub returns-then-b-eq44 : goal.returns-then-b-eq44
returns-then-b-eq44 c = search laws

pub returns-then-not-begins : goal.returns-then-not-begins
returns-then-not-begins c = search laws

pub returns : goal.returns
returns c = search laws
