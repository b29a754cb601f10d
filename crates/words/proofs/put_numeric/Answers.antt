use Rattle.words.proofs.Steps.{numeric_laws}
use Rattle.words.proofs.put_numeric.Goals as goal

pub returns : goal.returns
returns c = search numeric_laws
