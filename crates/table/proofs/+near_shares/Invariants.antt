use Prim.Native.Nat.{◌-◌}
use lib.ListN.{length}
use Rattle.table.proofs.+near_shares.Given as goal

abbrev pub decreases-near_shares : goal.decreases-near_shares
decreases-near_shares l = length l.nodes.now - l.b
