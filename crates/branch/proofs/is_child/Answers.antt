use Rattle.branch.proofs.Blocks.{child_laws}
use Rattle.branch.proofs.is_child.Goals as goal

pub returns-then-nodes-b : goal.returns-then-nodes-b
returns-then-nodes-b c = search child_laws

pub returns-then-not-is_branch : goal.returns-then-not-is_branch
returns-then-not-is_branch c = search child_laws

pub returns-then-k-block : goal.returns-then-k-block
returns-then-k-block c = search child_laws

pub returns : goal.returns
returns c = search child_laws
