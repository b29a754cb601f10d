use Prim.Native.Nat.{◌-◌, ◌≤◌}
use mathlib.Core.Path.{◌≡◌}
use Rattle.item.specs.Near.{run_end_among}
use Rattle.item.proofs.near_run_end.Given as goal

abbrev pub invariant-loop-end : goal.invariant-loop-end
invariant-loop-end g l = (l.at ≤ l.end)
    × (run_end_among 13 g.C.Class.class l.s l.at ≡ run_end_among (13 - (l.end - l.at)) g.C.Class.class l.s l.end)
