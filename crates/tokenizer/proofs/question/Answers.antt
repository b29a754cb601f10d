use Rattle.tokenizer.proofs.Steps.{separators}
use Rattle.tokenizer.proofs.question.Goals as goal

pub returns : goal.returns
returns c = search separators
