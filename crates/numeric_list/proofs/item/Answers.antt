use Rattle.numeric_list.proofs.List.{laws}
use Rattle.numeric_list.proofs.item.Goals as goal

pub returns-then-s-next : goal.returns-then-s-next
returns-then-s-next c = search laws

pub returns-then-s-next-ne58 : goal.returns-then-s-next-ne58
returns-then-s-next-ne58 c = search laws

pub returns-else-s-next-ne58 : goal.returns-else-s-next-ne58
returns-else-s-next-ne58 c = search laws

pub returns-in-Err : goal.returns-in-Err
returns-in-Err c = search laws
