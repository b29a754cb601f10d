use Rattle.item.proofs.Words.{laws}
use Rattle.item.proofs.star_end.Goals as goal

pub returns-then-s-at : goal.returns-then-s-at
returns-then-s-at c = search laws

pub returns-then-s-at-eq42 : goal.returns-then-s-at-eq42
returns-then-s-at-eq42 c = search laws

pub returns : goal.returns
returns c = search laws
