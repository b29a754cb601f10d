use Prim.Native.Nat.{◌-◌}
use Rattle.spoken.proofs.Nodes.{Passed}
use Rattle.spoken.proofs.spelled_in.Given as goal

abbrev pub invariant-loop-k : goal.invariant-loop-k
invariant-loop-k l = Passed l.nodes l.names l.s l.at l.from l.k

abbrev pub decreases-loop-k : goal.decreases-loop-k
decreases-loop-k l = l.end - l.k
