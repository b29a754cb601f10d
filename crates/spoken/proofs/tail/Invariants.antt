use Prim.Native.Nat.{◌-◌}
use lib.ListN.{length}
use Rattle.spoken.specs.Internal.{Counted}
use Rattle.spoken.proofs.tail.Given as goal

abbrev pub invariant-loop-i : goal.invariant-loop-i
invariant-loop-i l = Counted l.name l.s l.at l.from l.i l.next

abbrev pub decreases-loop-i : goal.decreases-loop-i
decreases-loop-i l = length l.name - l.i
