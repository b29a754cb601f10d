use Rattle.numeric_list.proofs.List.{laws}
use Rattle.numeric_list.proofs.taken.Goals as goal

pub returns : goal.returns
returns c = search laws
