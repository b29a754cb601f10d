use Rattle.request.proofs.Pairs.{laws}
use Rattle.request.proofs.are_pairs.Goals as goal

pub returns-then-hex-eq0 : goal.returns-then-hex-eq0
returns-then-hex-eq0 c = search laws

pub returns-else-hex-eq0 : goal.returns-else-hex-eq0
returns-else-hex-eq0 c = search laws
