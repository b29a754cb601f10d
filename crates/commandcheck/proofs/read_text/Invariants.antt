use Rattle.std.proofs.Common.{◌-◌, ◌≤◌, length}
use Rattle.commandcheck.proofs.read_text.Given as goal

abbrev pub invariant-loop-held : goal.invariant-loop-held
invariant-loop-held l = l.held ≤ length l.text

abbrev pub decreases-loop-held : goal.decreases-loop-held
decreases-loop-held l = length l.text - l.held
