use Rattle.coordinate.proofs.Coordinates.{reads}
use Rattle.coordinate.proofs.read_joined.Goals as goal

pub returns-in_err-value : goal.returns-in_err-value
returns-in_err-value c = search reads

pub overflow_add-result : goal.overflow_add-result
overflow_add-result c = search reads

pub returns-then-stands : goal.returns-then-stands
returns-then-stands c = search reads

pub returns : goal.returns
returns c = search reads
