use Rattle.item.proofs.Words.{follows}
use Rattle.item.proofs.ends_data.Goals as goal

pub returns-then-s-at : goal.returns-then-s-at
returns-then-s-at c = search follows

pub returns-then-s-at-eq44 : goal.returns-then-s-at-eq44
returns-then-s-at-eq44 c = search follows

pub returns : goal.returns
returns c = search follows
