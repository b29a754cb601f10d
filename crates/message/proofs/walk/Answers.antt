use Rattle.message.proofs.Entries.{checked_laws}
use Rattle.message.proofs.walk.Goals as goal

pub returns-in-Err : goal.returns-in-Err
returns-in-Err c = search checked_laws

pub returns : goal.returns
returns c = search checked_laws
