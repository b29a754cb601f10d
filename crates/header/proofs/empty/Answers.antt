use Rattle.header.proofs.Settled.{empty_laws}
use Rattle.header.proofs.empty.Goals as goal

pub returns-then-leaf-nodes : goal.returns-then-leaf-nodes
returns-then-leaf-nodes c = search empty_laws

pub offset_bounds-nodes-leaf : goal.offset_bounds-nodes-leaf
offset_bounds-nodes-leaf c = search empty_laws

pub bounds-nodes-leaf : goal.bounds-nodes-leaf
bounds-nodes-leaf c = search empty_laws

pub returns : goal.returns
returns c = search empty_laws
