use Rattle.table.proofs.Shared.{at_laws}
use Rattle.table.proofs.shares_at.Goals as goal

pub children_share-requires : goal.children_share-requires
children_share-requires c = search at_laws

pub returns-then-children_share : goal.returns-then-children_share
returns-then-children_share c = search at_laws

pub default_branch-requires : goal.default_branch-requires
default_branch-requires c = search at_laws

pub near_shares-requires : goal.near_shares-requires
near_shares-requires c = search at_laws

pub returns-in-None : goal.returns-in-None
returns-in-None c = search at_laws

pub returns-in-Some : goal.returns-in-Some
returns-in-Some c = search at_laws
