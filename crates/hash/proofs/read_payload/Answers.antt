use Rattle.hash.proofs.Blocks.{laws}
use Rattle.hash.proofs.read_payload.Goals as goal

pub returns-then-s-start : goal.returns-then-s-start
returns-then-s-start c = search laws

pub returns-then-s-start-2 : goal.returns-then-s-start-2
returns-then-s-start-2 c = search laws

pub returns : goal.returns
returns c = search laws
