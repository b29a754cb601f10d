use Rattle.integer.proofs.Digits.{laws}
use Rattle.integer.proofs.digit_value.Goals as goal

pub returns-then-b-lt48 : goal.returns-then-b-lt48
returns-then-b-lt48 c = search laws

pub returns-then-b-le57 : goal.returns-then-b-le57
returns-then-b-le57 c = search laws

pub returns-then-b-lt65 : goal.returns-then-b-lt65
returns-then-b-lt65 c = search laws

pub returns-then-b-le70 : goal.returns-then-b-le70
returns-then-b-le70 c = search laws

pub returns-then-b-lt97 : goal.returns-then-b-lt97
returns-then-b-lt97 c = search laws

pub returns-then-b-le102 : goal.returns-then-b-le102
returns-then-b-le102 c = search laws

pub returns-else-b-le102 : goal.returns-else-b-le102
returns-else-b-le102 c = search laws
