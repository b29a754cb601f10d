use Rattle.table.proofs.Shared.{sisters_laws}
use Rattle.table.proofs.children_share.Goals as goal

pub block_shares-requires : goal.block_shares-requires
block_shares-requires c = search sisters_laws

pub returns-then-block_shares : goal.returns-then-block_shares
returns-then-block_shares c = search sisters_laws

pub loop-k-smaller : goal.loop-k-smaller
loop-k-smaller c = search sisters_laws

pub loop-k-preserved : goal.loop-k-preserved
loop-k-preserved c = search sisters_laws

pub returns : goal.returns
returns c = search sisters_laws
