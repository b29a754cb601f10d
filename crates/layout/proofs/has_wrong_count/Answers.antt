use Rattle.layout.proofs.Fields.{count_laws}
use Rattle.layout.proofs.has_wrong_count.Goals as goal

pub returns-then-is_empty : goal.returns-then-is_empty
returns-then-is_empty c = search count_laws

pub returns-else-is_empty : goal.returns-else-is_empty
returns-else-is_empty c = search count_laws
