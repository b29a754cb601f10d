use Rattle.coordinate.proofs.Coordinates.{reads}
use Rattle.coordinate.proofs.read_last.Goals as goal

pub returns-in_err-value : goal.returns-in_err-value
returns-in_err-value c = search reads

pub returns-then-end-spec : goal.returns-then-end-spec
returns-then-end-spec c = search reads

pub returns : goal.returns
returns c = search reads
