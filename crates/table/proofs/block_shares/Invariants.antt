use Prim.Native.Nat.{◌-◌}
use Rattle.table.proofs.Shared.{Apart}
use Rattle.table.proofs.block_shares.Given as goal

abbrev pub invariant-loop-k : goal.invariant-loop-k
invariant-loop-k l = Apart l.nodes l.names l.name l.first l.k

abbrev pub decreases-loop-k : goal.decreases-loop-k
decreases-loop-k l = l.end - l.k
