use Rattle.ahead.proofs.Tokens.{laws}
use Rattle.ahead.proofs.look.Goals as goal

pub returns : goal.returns
returns c = search laws
