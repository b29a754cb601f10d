use Prim.Native.Nat.{suc, ◌+◌, ◌-◌, ◌≤◌}
use mathlib.Core.Path.{◌≡◌}
use lib.ListN.{drop}
use Rattle.util.specs.Run.{run_end}
use Rattle.channel_spec.specs.Spec.{in_spec, bangs}
use Rattle.channel_spec.proofs.Specs.{front}
use Rattle.channel_spec.proofs.read_channel_spec.Given as goal

abbrev pub invariant-loop-end : goal.invariant-loop-end
invariant-loop-end l = (run_end in_spec l.s l.at ≡ run_end in_spec l.s l.end)
    × (l.dimension + bangs (front (drop l.end l.s)) ≡ suc (bangs (front (drop l.at l.s))))
    × (l.dimension ≤ l.end + 1)
