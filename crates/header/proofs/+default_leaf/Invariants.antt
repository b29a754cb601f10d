use Prim.Native.Nat.{◌-◌}
use lib.ListN.{length}
use Rattle.header.proofs.+default_leaf.Given as goal

abbrev pub decreases-default_leaf : goal.decreases-default_leaf
decreases-default_leaf l = length l.nodes.now.now - l.b
