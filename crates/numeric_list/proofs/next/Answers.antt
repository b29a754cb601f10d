use Rattle.numeric_list.proofs.List.{laws}
use Rattle.numeric_list.proofs.next.Goals as goal

pub returns-then-s-at : goal.returns-then-s-at
returns-then-s-at c = search laws

pub returns-in-Some : goal.returns-in-Some
returns-in-Some c = search laws

pub returns-in-None : goal.returns-in-None
returns-in-None c = search laws
