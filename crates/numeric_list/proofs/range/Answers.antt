use Rattle.numeric_list.proofs.List.{laws}
use Rattle.numeric_list.proofs.range.Goals as goal

pub returns-in-Ok : goal.returns-in-Ok
returns-in-Ok c = search laws

pub returns-in-Err : goal.returns-in-Err
returns-in-Err c = search laws
