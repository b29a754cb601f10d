use Rattle.decimal.proofs.Decimals.{suffixes}
use Rattle.decimal.proofs.begins_suffix.Goals as goal

pub returns-then-s-at : goal.returns-then-s-at
returns-then-s-at c = search suffixes

pub returns-then-s-at-eq47 : goal.returns-then-s-at-eq47
returns-then-s-at-eq47 c = search suffixes

pub returns : goal.returns
returns c = search suffixes
