use Rattle.name.proofs.Names.{laws}
use Rattle.name.proofs.is_name.Goals as goal

pub returns-then-stands : goal.returns-then-stands
returns-then-stands c = search laws

pub returns : goal.returns
returns c = search laws
