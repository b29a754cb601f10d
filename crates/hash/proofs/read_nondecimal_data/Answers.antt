use Rattle.hash.proofs.Nondecimals.{laws}
use Rattle.hash.proofs.read_nondecimal_data.Goals as goal

pub returns-in-Ok : goal.returns-in-Ok
returns-in-Ok c = search laws

pub returns-in-Err-TooLarge : goal.returns-in-Err-TooLarge
returns-in-Err-TooLarge c = search laws

pub returns-then-s-at : goal.returns-then-s-at
returns-then-s-at c = search laws

pub returns-else-s-at : goal.returns-else-s-at
returns-else-s-at c = search laws
