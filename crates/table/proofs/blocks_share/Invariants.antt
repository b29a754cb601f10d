use Prim.Native.Nat.{◌-◌}
use Rattle.table.proofs.Shared.{Strangers}
use Rattle.table.proofs.blocks_share.Given as goal

abbrev pub invariant-loop-k : goal.invariant-loop-k
invariant-loop-k l = Strangers l.nodes l.names l.first l.end l.from l.k

abbrev pub decreases-loop-k : goal.decreases-loop-k
decreases-loop-k l = l.to - l.k
