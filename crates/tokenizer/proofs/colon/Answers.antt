use Rattle.tokenizer.proofs.Steps.{separators}
use Rattle.tokenizer.proofs.colon.Goals as goal

pub returns : goal.returns
returns c = search separators
