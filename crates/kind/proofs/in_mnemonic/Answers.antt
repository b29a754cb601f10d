use Rattle.kind.proofs.Laws.{laws}
use Rattle.kind.proofs.in_mnemonic.Goals as goal

pub returns-then-is_letter : goal.returns-then-is_letter
returns-then-is_letter c = search laws

pub returns-then-is_digit : goal.returns-then-is_digit
returns-then-is_digit c = search laws

pub returns : goal.returns
returns c = search laws
