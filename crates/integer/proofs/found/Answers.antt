use Rattle.integer.proofs.Laws.{step}
use Rattle.integer.proofs.found.Goals as goal

pub returns-then-end-at : goal.returns-then-end-at
returns-then-end-at c = search step

pub returns : goal.returns
returns c = search step
