use Rattle.unit.proofs.Units.{behind_laws}
use Rattle.unit.proofs.data_after.Goals as goal

pub returns-in-Separator : goal.returns-in-Separator
returns-in-Separator c = search behind_laws

pub returns-in-Unit : goal.returns-in-Unit
returns-in-Unit c = search behind_laws
