use Rattle.decimal.proofs.Decimals.{numbers}
use Rattle.decimal.proofs.read_numeric_data.Goals as goal

pub returns-in_err-end : goal.returns-in_err-end
returns-in_err-end c = search numbers

pub returns : goal.returns
returns c = search numbers
