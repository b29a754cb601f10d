use Rattle.tokenizer.proofs.Steps.{separators}
use Rattle.tokenizer.proofs.comma.Goals as goal

pub returns : goal.returns
returns c = search separators
