use Rattle.branch.proofs.Blocks.{block_laws}
use Rattle.branch.proofs.block_of.Goals as goal

pub overflow_add-result : goal.overflow_add-result
overflow_add-result c = search block_laws

pub returns : goal.returns
returns c = search block_laws
