use Prim.Native.Nat.{◌-◌}
use lib.ListN.{length}
use Rattle.header.proofs.+down.Given as goal

abbrev pub decreases-down : goal.decreases-down
decreases-down l = length l.nodes.now.now - l.b
