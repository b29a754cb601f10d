use Rattle.tokenizer.proofs.Steps.{separators}
use Rattle.tokenizer.proofs.newline.Goals as goal

pub returns-in-Ok : goal.returns-in-Ok
returns-in-Ok c = search separators

pub returns-in-Err : goal.returns-in-Err
returns-in-Err c = search separators
