use Rattle.header.proofs.Endings.{ending_laws}
use Rattle.header.proofs.ending.Goals as goal

pub returns-then-s-at : goal.returns-then-s-at
returns-then-s-at c = search ending_laws

pub returns-in-32 : goal.returns-in-32
returns-in-32 c = search ending_laws

pub returns-in-59 : goal.returns-in-59
returns-in-59 c = search ending_laws
