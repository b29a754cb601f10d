use Rattle.spoken.proofs.Nodes.{node_laws}
use Rattle.spoken.proofs.node_spelled.Goals as goal

pub returns-then-initial-first : goal.returns-then-initial-first
returns-then-initial-first c = search node_laws

pub returns-then-name-eq0 : goal.returns-then-name-eq0
returns-then-name-eq0 c = search node_laws
