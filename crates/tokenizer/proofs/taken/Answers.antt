use Rattle.tokenizer.proofs.Steps.{parts}
use Rattle.tokenizer.proofs.taken.Goals as goal

pub returns : goal.returns
returns c = search parts
