use Rattle.util.proofs.Runs.{laws}
use Rattle.util.proofs.skip_sign.Goals as goal

pub returns-then-s-at : goal.returns-then-s-at
returns-then-s-at c = search laws

pub returns-then-is_sign : goal.returns-then-is_sign
returns-then-is_sign c = search laws

pub returns : goal.returns
returns c = search laws
