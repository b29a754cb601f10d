use Rattle.request.proofs.Numbers.{laws}
use Rattle.request.proofs.table_text.read_number.Goals as goal

pub returns-in_err-get : goal.returns-in_err-get
returns-in_err-get c = search (laws, c.in_err-get.ensures.lookup)

pub returns : goal.returns
returns c = search (laws, c.in_ok-get.ensures.lookup)
