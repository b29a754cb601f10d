use Rattle.branch.proofs.Blocks.{branch_laws}
use Rattle.branch.proofs.is_branch.Goals as goal

pub returns : goal.returns
returns c = search branch_laws
