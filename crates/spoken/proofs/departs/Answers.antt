use Rattle.spoken.proofs.Bytes.{departs_laws}
use Rattle.spoken.proofs.departs.Goals as goal

pub returns-then-name-at : goal.returns-then-name-at
returns-then-name-at c = search departs_laws

pub returns : goal.returns
returns c = search departs_laws
