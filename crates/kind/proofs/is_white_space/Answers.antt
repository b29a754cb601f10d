use Rattle.kind.proofs.Laws.{laws}
use Rattle.kind.proofs.is_white_space.Goals as goal

pub returns-then-b-gt32 : goal.returns-then-b-gt32
returns-then-b-gt32 c = search laws

pub returns-then-b-eq32 : goal.returns-then-b-eq32
returns-then-b-eq32 c = search laws

pub returns-then-b-lt9 : goal.returns-then-b-lt9
returns-then-b-lt9 c = search laws

pub returns-then-b-gt13 : goal.returns-then-b-gt13
returns-then-b-gt13 c = search laws

pub returns : goal.returns
returns c = search laws
