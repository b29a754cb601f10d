use Rattle.branch.proofs.Blocks.{children_laws}
use Rattle.branch.proofs.children.Goals as goal

pub returns-then-nodes-b : goal.returns-then-nodes-b
returns-then-nodes-b c = search children_laws

pub returns-then-not-is_branch : goal.returns-then-not-is_branch
returns-then-not-is_branch c = search children_laws

pub returns-then-block-b : goal.returns-then-block-b
returns-then-block-b c = search children_laws

pub returns-then-nodes-block : goal.returns-then-nodes-block
returns-then-nodes-block c = search children_laws

pub returns : goal.returns
returns c = search children_laws
