use Rattle.header.proofs.Fronts.{read_laws}
use Rattle.header.proofs.read.Goals as goal

pub returns-then-not-is_branch : goal.returns-then-not-is_branch
returns-then-not-is_branch c = search read_laws

pub other-requires : goal.other-requires
other-requires c = search read_laws

pub returns-in_default : goal.returns-in_default
returns-in_default c = search read_laws

pub lead-leaf-requires : goal.lead-leaf-requires
lead-leaf-requires c = search read_laws

pub returns-then-leaf-nodes : goal.returns-then-leaf-nodes
returns-then-leaf-nodes c = search read_laws

pub returns : goal.returns
returns c = search read_laws
