use Rattle.coordinate.proofs.Coordinates.{ones}
use Rattle.coordinate.proofs.no_coordinate.Goals as goal

pub returns-then-has_bang : goal.returns-then-has_bang
returns-then-has_bang c = search ones

pub returns : goal.returns
returns c = search ones
