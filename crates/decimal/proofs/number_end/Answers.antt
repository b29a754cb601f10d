use Rattle.decimal.proofs.Decimals.{numbers}
use Rattle.decimal.proofs.number_end.Goals as goal

pub returns-in_err-mantissa_end : goal.returns-in_err-mantissa_end
returns-in_err-mantissa_end c = search numbers

pub returns : goal.returns
returns c = search (numbers, c.in_ok-mantissa_end.was)
