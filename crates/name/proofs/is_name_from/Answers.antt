use Rattle.name.proofs.Laws.{name_laws}
use Rattle.name.proofs.is_name_from.Goals as goal

pub returns-then-capitals-at : goal.returns-then-capitals-at
returns-then-capitals-at c = search name_laws

pub returns-then-stands : goal.returns-then-stands
returns-then-stands c = search name_laws

pub returns : goal.returns
returns c = search name_laws
