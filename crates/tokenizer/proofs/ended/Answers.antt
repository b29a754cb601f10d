use Rattle.tokenizer.proofs.Steps.{parts}
use Rattle.tokenizer.proofs.ended.Goals as goal

pub returns : goal.returns
returns c = search parts
