use Rattle.unit_words.proofs.Laws.{header_laws}
use Rattle.unit_words.proofs.put_resolved.Goals as goal

pub returns-in-Err : goal.returns-in-Err
returns-in-Err c = search header_laws

pub returns-then-is_empty : goal.returns-then-is_empty
returns-then-is_empty c = search header_laws

pub returns : goal.returns
returns c = search header_laws
