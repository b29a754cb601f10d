use Rattle.util.proofs.Before.{Before}
use Rattle.table.proofs.Theorem.{Clear}
use Rattle.table.proofs.has_shared_spelling.Given as goal

abbrev pub invariant-loop-b : goal.invariant-loop-b
invariant-loop-b l = Before (Clear l.nodes l.names) 0 l.b
