use Rattle.header.proofs.Places.{keep_laws}
use Rattle.header.proofs.keep.Goals as goal

pub returns-then-star : goal.returns-then-star
returns-then-star c = search keep_laws

pub returns : goal.returns
returns c = search keep_laws
