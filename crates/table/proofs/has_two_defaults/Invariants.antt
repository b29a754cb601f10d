use Rattle.table.proofs.Defaults.{Single}
use Rattle.table.proofs.has_two_defaults.Given as goal

abbrev pub invariant-loop-b : goal.invariant-loop-b
invariant-loop-b l = Single l.nodes l.b
