use Rattle.header.proofs.Places.{front_laws}
use Rattle.header.proofs.front_at.Goals as goal

pub returns-then-has_letter : goal.returns-then-has_letter
returns-then-has_letter c = search front_laws

pub returns-then-goes_on : goal.returns-then-goes_on
returns-then-goes_on c = search front_laws

pub returns-then-stands : goal.returns-then-stands
returns-then-stands c = search front_laws

pub returns : goal.returns
returns c = search front_laws
