use Rattle.std.proofs.Common.{Some, arith}
use Rattle.answer.proofs.Laws.{ends}
use Rattle.answer.proofs.fields.Fields.table.Goals as goal

pub returns : goal.returns
returns c = (omega arith, (ends _ _ _ _ _ _ (Some c.in_ok-end.end) c.in_ok-end.ensures).1)
