use Rattle.request.proofs.Numbers.{laws}
use Rattle.request.proofs.table_text.whole_number.Goals as goal

pub returns-in_err-value : goal.returns-in_err-value
returns-in_err-value c = search (laws, c.in_err-value.was)

pub returns-then-end-s : goal.returns-then-end-s
returns-then-end-s c = search (laws, c.in_ok-value.was)

pub returns : goal.returns
returns c = search (laws, c.in_ok-value.was)
