use Rattle.words.proofs.Steps.{token_laws}
use Rattle.words.proofs.put_token.Goals as goal

pub returns : goal.returns
returns c = search token_laws
