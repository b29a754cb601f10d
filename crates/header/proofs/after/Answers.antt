use Rattle.header.proofs.Places.{after_laws}
use Rattle.header.proofs.after.Goals as goal

pub returns-then-s-at : goal.returns-then-s-at
returns-then-s-at c = search after_laws

pub returns-then-s-at-2 : goal.returns-then-s-at-2
returns-then-s-at-2 c = search after_laws

pub returns : goal.returns
returns c = search after_laws
