use Rattle.spoken.proofs.Nodes.{block_laws}
use Rattle.spoken.proofs.spelled_in.Goals as goal

pub offset_bounds-nodes-k : goal.offset_bounds-nodes-k
offset_bounds-nodes-k c = search block_laws

pub bounds-nodes-k : goal.bounds-nodes-k
bounds-nodes-k c = search block_laws

pub returns-in-Some : goal.returns-in-Some
returns-in-Some c = search block_laws

pub loop-k-smaller : goal.loop-k-smaller
loop-k-smaller c = search block_laws

pub loop-k-preserved : goal.loop-k-preserved
loop-k-preserved c = search block_laws

pub returns : goal.returns
returns c = search block_laws
