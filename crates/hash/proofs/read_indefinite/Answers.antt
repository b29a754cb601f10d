use Rattle.hash.proofs.Blocks.{laws}
use Rattle.hash.proofs.read_indefinite.Goals as goal

pub returns-then-s-at : goal.returns-then-s-at
returns-then-s-at c = search laws

pub returns-then-s-end-ne10 : goal.returns-then-s-end-ne10
returns-then-s-end-ne10 c = search laws

pub returns : goal.returns
returns c = search laws
