use Rattle.kind.proofs.Laws.{laws}
use Rattle.kind.proofs.is_sign.Goals as goal

pub returns-then-b-eq43 : goal.returns-then-b-eq43
returns-then-b-eq43 c = search laws

pub returns : goal.returns
returns c = search laws
