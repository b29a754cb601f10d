use Rattle.tokenizer.proofs.Steps.{arms}
use Rattle.tokenizer.proofs.string.Goals as goal

pub returns-then-state : goal.returns-then-state
returns-then-state c = search arms

pub returns : goal.returns
returns c = search arms
