use Rattle.decimal.proofs.Decimals.{numbers}
use Rattle.decimal.proofs.mantissa_end.Goals as goal

pub returns-then-whole-point : goal.returns-then-whole-point
returns-then-whole-point c = search numbers

pub overflow_sub-end : goal.overflow_sub-end
overflow_sub-end c = search numbers

pub returns-then-end-point-gt1 : goal.returns-then-end-point-gt1
returns-then-end-point-gt1 c = search numbers

pub returns : goal.returns
returns c = search numbers
