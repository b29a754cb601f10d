use Prim.Native.Nat.{◌-◌}
use Rattle.table.proofs.Shared.{Sisters}
use Rattle.table.proofs.children_share.Given as goal

abbrev pub invariant-loop-k : goal.invariant-loop-k
invariant-loop-k l = Sisters l.nodes l.names l.first l.end l.k

abbrev pub decreases-loop-k : goal.decreases-loop-k
decreases-loop-k l = l.end - l.k
