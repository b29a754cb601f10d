use Rattle.request.proofs.Pairs.{laws}
use Rattle.request.proofs.is_dash.Goals as goal

pub returns : goal.returns
returns c = search laws
