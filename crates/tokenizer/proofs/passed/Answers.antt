use Rattle.tokenizer.proofs.Steps.{parts}
use Rattle.tokenizer.proofs.passed.Goals as goal

pub returns-in-Ok : goal.returns-in-Ok
returns-in-Ok c = search parts

pub returns-in-Err : goal.returns-in-Err
returns-in-Err c = search parts
