use Rattle.request.proofs.Fields.{laws}
use Rattle.request.proofs.field.Goals as goal

pub returns : goal.returns
returns c = search laws
