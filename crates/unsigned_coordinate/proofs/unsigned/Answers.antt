use Rattle.unsigned_coordinate.proofs.Laws.{laws}
use Rattle.unsigned_coordinate.proofs.unsigned.Goals as goal

pub returns-in-Ok : goal.returns-in-Ok
returns-in-Ok c = search (laws, c.in-Ok.ensures)

pub returns-in-Err : goal.returns-in-Err
returns-in-Err c = search (laws, c.in-Err.ensures)
