use Rattle.vinderaz.proofs.Tree.{walk_laws}
use Rattle.vinderaz.proofs.vinderaz_walk.Goals as goal

pub returns-then-units-eq0 : goal.returns-then-units-eq0
returns-then-units-eq0 c = search walk_laws

pub returns : goal.returns
returns c = search walk_laws
