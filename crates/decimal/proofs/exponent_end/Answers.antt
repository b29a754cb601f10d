use Rattle.decimal.proofs.Decimals.{numbers}
use Rattle.decimal.proofs.exponent_end.Goals as goal

pub returns-then-s-at : goal.returns-then-s-at
returns-then-s-at c = search numbers

pub returns-then-not-begins_exponent : goal.returns-then-not-begins_exponent
returns-then-not-begins_exponent c = search numbers

pub returns-then-end-digits : goal.returns-then-end-digits
returns-then-end-digits c = search numbers

pub returns : goal.returns
returns c = search numbers
