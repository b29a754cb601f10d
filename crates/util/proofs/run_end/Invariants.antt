use Rattle.std.proofs.Common.{◌≡◌}
use Rattle.util.specs.Run.{run_end}
use Rattle.util.proofs.run_end.Given as goal

abbrev pub invariant-loop-i : goal.invariant-loop-i
invariant-loop-i g l = run_end g.C.Class.class l.s l.at ≡ run_end g.C.Class.class l.s l.i
