use Rattle.decimal.proofs.Decimals.{numbers}
use Rattle.decimal.proofs.begins_exponent.Goals as goal

pub returns-then-b-eq69 : goal.returns-then-b-eq69
returns-then-b-eq69 c = search numbers

pub returns : goal.returns
returns c = search numbers
