use Rattle.integer.proofs.Signs.{laws}
use Rattle.integer.proofs.read_signed.Goals as goal

pub returns-in_err-value : goal.returns-in_err-value
returns-in_err-value c = search laws

pub returns-then-stands : goal.returns-then-stands
returns-then-stands c = search laws

pub returns-else-stands : goal.returns-else-stands
returns-else-stands c = search laws
