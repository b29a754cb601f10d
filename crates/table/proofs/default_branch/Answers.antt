use Rattle.table.proofs.Defaults.{inner_laws}
use Rattle.table.proofs.default_branch.Goals as goal

pub offset_bounds-nodes-d : goal.offset_bounds-nodes-d
offset_bounds-nodes-d c = search inner_laws

pub bounds-nodes-d : goal.bounds-nodes-d
bounds-nodes-d c = search inner_laws

pub returns-then-not-is_branch : goal.returns-then-not-is_branch
returns-then-not-is_branch c = search inner_laws

pub returns-in-None : goal.returns-in-None
returns-in-None c = search inner_laws

pub returns-else-not-is_branch : goal.returns-else-not-is_branch
returns-else-not-is_branch c = search inner_laws
