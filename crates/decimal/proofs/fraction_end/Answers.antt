use Rattle.decimal.proofs.Decimals.{numbers}
use Rattle.decimal.proofs.fraction_end.Goals as goal

pub returns-then-s-at : goal.returns-then-s-at
returns-then-s-at c = search numbers

pub returns-then-s-at-ne46 : goal.returns-then-s-at-ne46
returns-then-s-at-ne46 c = search numbers

pub returns : goal.returns
returns c = search numbers
