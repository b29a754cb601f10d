use Rattle.integer.proofs.Signs.{laws}
use Rattle.integer.proofs.positive.Goals as goal

pub returns-in-Ok : goal.returns-in-Ok
returns-in-Ok c = search laws

pub returns-in-Err : goal.returns-in-Err
returns-in-Err c = search laws
