use Rattle.hash.proofs.Definite.{laws}
use Rattle.hash.proofs.read_definite.Goals as goal

pub returns-then-s-at : goal.returns-then-s-at
returns-then-s-at c = search laws

pub returns-then-s-at-2 : goal.returns-then-s-at-2
returns-then-s-at-2 c = search laws

pub returns-then-end-start : goal.returns-then-end-start
returns-then-end-start c = search laws

pub returns-else-end-start : goal.returns-else-end-start
returns-else-end-start c = search laws

pub returns-in-Err : goal.returns-in-Err
returns-in-Err c = search laws
