use Rattle.unit_words.proofs.Laws.{message_laws}
use Rattle.unit_words.proofs.put_walked.Goals as goal

pub returns-then-is_empty : goal.returns-then-is_empty
returns-then-is_empty c = search message_laws

pub returns-in-Ok : goal.returns-in-Ok
returns-in-Ok c = search message_laws

pub returns-in-Err : goal.returns-in-Err
returns-in-Err c = search message_laws
