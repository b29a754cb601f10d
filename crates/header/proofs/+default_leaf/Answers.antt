use Rattle.header.proofs.Settled.{settle_laws}
use Rattle.header.proofs.+default_leaf.Goals as goal

pub returns-then-not-is_branch : goal.returns-then-not-is_branch
returns-then-not-is_branch t c = search settle_laws

pub default_leaf-requires : goal.default_leaf-requires
default_leaf-requires t c = search settle_laws

pub returns-in-None : goal.returns-in-None
returns-in-None t c = search settle_laws

pub returns-else-not-is_branch : goal.returns-else-not-is_branch
returns-else-not-is_branch t c = search settle_laws
