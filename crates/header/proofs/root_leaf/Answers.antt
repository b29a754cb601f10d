use Rattle.header.proofs.Settled.{root_laws}
use Rattle.header.proofs.root_leaf.Goals as goal

pub returns-then-is_branch : goal.returns-then-is_branch
returns-then-is_branch c = search root_laws

pub returns : goal.returns
returns c = search root_laws
