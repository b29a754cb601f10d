use Rattle.header.proofs.Places.{goes_on_laws}
use Rattle.header.proofs.goes_on.Goals as goal

pub returns-then-s-at : goal.returns-then-s-at
returns-then-s-at c = search goes_on_laws

pub returns-then-s-at-ne58 : goal.returns-then-s-at-ne58
returns-then-s-at-ne58 c = search goes_on_laws

pub returns : goal.returns
returns c = search goes_on_laws
