use Rattle.token.proofs.Laws.{laws}
use Rattle.token.proofs.part.Goals as goal

pub returns-then-s-end : goal.returns-then-s-end
returns-then-s-end c = search laws

pub returns-then-end-start : goal.returns-then-end-start
returns-then-end-start c = search laws

pub returns : goal.returns
returns c = search laws
