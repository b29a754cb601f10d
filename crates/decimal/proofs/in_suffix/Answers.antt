use Rattle.decimal.proofs.Decimals.{suffixes}
use Rattle.decimal.proofs.in_suffix.Goals as goal

pub returns-then-is_letter : goal.returns-then-is_letter
returns-then-is_letter c = search suffixes

pub returns-then-is_digit : goal.returns-then-is_digit
returns-then-is_digit c = search suffixes

pub returns-then-b-eq45 : goal.returns-then-b-eq45
returns-then-b-eq45 c = search suffixes

pub returns-then-b-eq47 : goal.returns-then-b-eq47
returns-then-b-eq47 c = search suffixes

pub returns : goal.returns
returns c = search suffixes
