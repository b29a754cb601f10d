use Rattle.integer.proofs.Laws.{laws}
use Rattle.integer.proofs.read_unsigned.Goals as goal

pub returns-then-base-digit : goal.returns-then-base-digit
returns-then-base-digit c = search laws

pub returns-in_default : goal.returns-in_default
returns-in_default c = search laws

pub loop-end-preserved : goal.loop-end-preserved
loop-end-preserved c = search laws

pub returns : goal.returns
returns c = search laws
