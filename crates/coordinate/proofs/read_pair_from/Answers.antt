use Rattle.coordinate.proofs.Coordinates.{laws}
use Rattle.coordinate.proofs.read_pair_from.Goals as goal

pub returns-in_err-first : goal.returns-in_err-first
returns-in_err-first c = search laws

pub returns-in_err-second : goal.returns-in_err-second
returns-in_err-second c = search laws

pub returns : goal.returns
returns c = search laws
