use Rattle.coordinate.proofs.Coordinates.{ones}
use Rattle.coordinate.proofs.read_coordinate.Goals as goal

pub returns-then-has_bang : goal.returns-then-has_bang
returns-then-has_bang c = search ones

pub returns-else-has_bang : goal.returns-else-has_bang
returns-else-has_bang c = search ones

pub returns-in-Err : goal.returns-in-Err
returns-in-Err c = search ones
