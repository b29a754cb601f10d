use Rattle.header.proofs.Fronts.{other_laws}
use Rattle.header.proofs.other.Goals as goal

pub returns-in-Refused : goal.returns-in-Refused
returns-in-Refused c = search other_laws

pub returns-in-Stop : goal.returns-in-Stop
returns-in-Stop c = search other_laws

pub returns-in-Query : goal.returns-in-Query
returns-in-Query c = search other_laws

pub returns-in-Word : goal.returns-in-Word
returns-in-Word c = search other_laws

pub returns-in-Colon : goal.returns-in-Colon
returns-in-Colon c = search other_laws
