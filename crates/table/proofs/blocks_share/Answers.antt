use Rattle.table.proofs.Shared.{strangers_laws}
use Rattle.table.proofs.blocks_share.Goals as goal

pub block_shares-requires : goal.block_shares-requires
block_shares-requires c = search strangers_laws

pub returns-then-block_shares : goal.returns-then-block_shares
returns-then-block_shares c = search strangers_laws

pub loop-k-smaller : goal.loop-k-smaller
loop-k-smaller c = search strangers_laws

pub loop-k-preserved : goal.loop-k-preserved
loop-k-preserved c = search strangers_laws

pub returns : goal.returns
returns c = search strangers_laws
