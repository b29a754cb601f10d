use Prim.Native.Nat.{◌-◌}
use Rattle.branch.specs.Children.{unsaid_in}
use Rattle.branch.proofs.Picks.{Passed}
use Rattle.branch.proofs.default_in.Given as goal

abbrev pub invariant-loop-d : goal.invariant-loop-d
invariant-loop-d l = Passed (unsaid_in l.nodes) l.from l.d

abbrev pub decreases-loop-d : goal.decreases-loop-d
decreases-loop-d l = l.end - l.d
