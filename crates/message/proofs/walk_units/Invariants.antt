use Prim.Native.Nat.{◌-◌}
use mathlib.Core.Path.{◌≡◌}
use lib.ListN.{length}
use Rattle.message.proofs.Walks.{SoFar}
use Rattle.message.proofs.walk_units.Given as goal

abbrev pub invariant-loop-place : goal.invariant-loop-place
invariant-loop-place l = SoFar l.nodes l.names l.s l.start l.initial.slots l.units l.kept l.place l.slots × (length l.slots ≡ length l.initial.slots)

abbrev pub decreases-loop-place : goal.decreases-loop-place
decreases-loop-place l = length l.initial.slots - l.units
