use Rattle.branch.proofs.Blocks.{next_laws}
use Rattle.branch.proofs.next_child.Goals as goal

pub returns-then-k-nodes : goal.returns-then-k-nodes
returns-then-k-nodes c = search next_laws

pub returns : goal.returns
returns c = search next_laws
