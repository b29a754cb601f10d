use Prim.Native.Nat.{◌-◌}
use Rattle.layout.proofs.Blocks.{Follows}
use Rattle.layout.proofs.has_wrong_blocks.Given as goal

abbrev pub invariant-loop-k : goal.invariant-loop-k
invariant-loop-k l = Follows l.nodes l.k l.behind
