use Prim.Native.Nat.{◌-◌}
use Rattle.layout.proofs.NodeNames.{Named}
use Rattle.layout.proofs.has_wrong_name.Given as goal

abbrev pub invariant-loop-k : goal.invariant-loop-k
invariant-loop-k l = Named l.nodes l.names l.k
