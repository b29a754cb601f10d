use Rattle.kind.proofs.Laws.{laws}
use Rattle.kind.proofs.is_letter.Goals as goal

pub returns-then-is_capital : goal.returns-then-is_capital
returns-then-is_capital c = search laws

pub returns-else-is_capital : goal.returns-else-is_capital
returns-else-is_capital c = search laws
