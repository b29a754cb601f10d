use Rattle.unit.proofs.Units.{unit_laws}
use Rattle.unit.proofs.read.Goals as goal

pub returns-in_err-header : goal.returns-in_err-header
returns-in_err-header c = search unit_laws

pub returns-in_err-data : goal.returns-in_err-data
returns-in_err-data c = search unit_laws

pub returns : goal.returns
returns c = search unit_laws
