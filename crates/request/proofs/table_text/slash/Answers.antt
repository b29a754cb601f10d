use Rattle.request.proofs.Finds.{laws}
use Rattle.request.proofs.table_text.slash.Goals as goal

pub returns : goal.returns
returns c = search laws
