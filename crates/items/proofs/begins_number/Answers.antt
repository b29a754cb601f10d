use Rattle.items.proofs.Forms.{begins}
use Rattle.items.proofs.begins_number.Goals as goal

pub returns-then-is_digit : goal.returns-then-is_digit
returns-then-is_digit c = search begins

pub returns-then-is_sign : goal.returns-then-is_sign
returns-then-is_sign c = search begins

pub returns : goal.returns
returns c = search begins
