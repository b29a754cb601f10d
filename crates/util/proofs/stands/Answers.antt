use Rattle.util.proofs.Runs.{laws}
use Rattle.util.proofs.stands.Goals as goal

pub returns-then-at-s : goal.returns-then-at-s
returns-then-at-s c = search laws

pub returns-else-at-s : goal.returns-else-at-s
returns-else-at-s c = search laws
