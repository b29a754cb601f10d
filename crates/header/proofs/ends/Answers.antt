use Rattle.header.proofs.Places.{ends_laws}
use Rattle.header.proofs.ends.Goals as goal

pub returns-then-s-at : goal.returns-then-s-at
returns-then-s-at c = search ends_laws

pub returns-then-s-at-eq32 : goal.returns-then-s-at-eq32
returns-then-s-at-eq32 c = search ends_laws

pub returns : goal.returns
returns c = search ends_laws
