use Rattle.table.proofs.Shared.{down_laws, near_laws}
use Rattle.table.proofs.+near_shares.Goals as goal

pub blocks_share-requires : goal.blocks_share-requires
blocks_share-requires t c = search near_laws

pub returns-then-blocks_share : goal.returns-then-blocks_share
returns-then-blocks_share t c = search near_laws

pub default_branch-requires : goal.default_branch-requires
default_branch-requires t c = search near_laws

pub near_shares-requires : goal.near_shares-requires
near_shares-requires t c = (search down_laws, search down_laws)

pub returns-in-None : goal.returns-in-None
returns-in-None t c = search near_laws

pub returns-in-Some : goal.returns-in-Some
returns-in-Some t c = search near_laws
