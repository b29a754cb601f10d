use Rattle.branch.proofs.Picks.{default_laws}
use Rattle.branch.proofs.default_in.Goals as goal

pub offset_bounds-nodes-d : goal.offset_bounds-nodes-d
offset_bounds-nodes-d c = search default_laws

pub bounds-nodes-d : goal.bounds-nodes-d
bounds-nodes-d c = search default_laws

pub returns-then-is_default : goal.returns-then-is_default
returns-then-is_default c = search default_laws

pub loop-d-smaller : goal.loop-d-smaller
loop-d-smaller c = search default_laws

pub loop-d-preserved : goal.loop-d-preserved
loop-d-preserved c = search default_laws

pub returns : goal.returns
returns c = search default_laws
