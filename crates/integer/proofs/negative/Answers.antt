use Rattle.integer.proofs.Signs.{laws}
use Rattle.integer.proofs.negative.Goals as goal

pub returns-in_err-value : goal.returns-in_err-value
returns-in_err-value c = search laws

pub returns : goal.returns
returns c = search laws
