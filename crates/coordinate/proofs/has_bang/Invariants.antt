use mathlib.Core.Path.{◌≡◌}
use lib.ListN.{drop}
use Rattle.channel_spec.specs.Spec.{bangs}
use Rattle.coordinate.proofs.has_bang.Given as goal

abbrev pub invariant-loop-i : goal.invariant-loop-i
invariant-loop-i l = bangs (drop l.at l.spec) ≡ bangs (drop l.i l.spec)
