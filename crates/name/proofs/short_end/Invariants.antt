use Prim.Native.Nat.{◌-◌}
use mathlib.Core.Path.{◌≡◌}
use Rattle.util.specs.Run.{run, run_end}
use Rattle.mnemonic.specs.Mnemonic.{not_small}
use Rattle.name.proofs.short_end.Given as goal

abbrev pub invariant-loop-i : goal.invariant-loop-i
invariant-loop-i l = run not_small l.s ≡ run_end not_small l.s l.i
