use Rattle.integer.proofs.Laws.{step}
use Rattle.integer.proofs.with_digit.Goals as goal

pub returns-then-limit-value : goal.returns-then-limit-value
returns-then-limit-value c = search step

pub returns-then-value-base : goal.returns-then-value-base
returns-then-value-base c = search step

pub returns : goal.returns
returns c = search step
