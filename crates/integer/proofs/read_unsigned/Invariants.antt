use Prim.Native.Nat.{◌^◌, ◌<◌}
use mathlib.Core.Path.{◌≡◌}
use lib.ListN.{drop}
use Rattle.util.specs.Run.{run_end}
use Rattle.integer.specs.Digit.{is_digit_of}
use Rattle.integer.proofs.{Values.onward}
use Rattle.integer.proofs.read_unsigned.Given as goal

abbrev pub invariant-loop-end : goal.invariant-loop-end
invariant-loop-end l = (l.value < 2 ^ 64)
    × (run_end (is_digit_of l.base) l.s l.at ≡ run_end (is_digit_of l.base) l.s l.end)
    × (onward l.base 0 (drop l.at l.s) ≡ onward l.base l.value (drop l.end l.s))
