use Rattle.words.proofs.Steps.{open_laws}
use Rattle.words.proofs.put_opened.Goals as goal

pub returns-in-Some : goal.returns-in-Some
returns-in-Some c = search open_laws

pub returns-in-None : goal.returns-in-None
returns-in-None c = search open_laws
