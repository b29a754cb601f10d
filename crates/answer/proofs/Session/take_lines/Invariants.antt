use Rattle.std.proofs.Common.{◌≤◌, length}
use Rattle.answer.proofs.Session.take_lines.Given as goal

abbrev pub decreases-loop-end : goal.decreases-loop-end
decreases-loop-end l = length l.rest

abbrev pub invariant-loop-end : goal.invariant-loop-end
invariant-loop-end l = length l.rest ≤ length l.initial.rest
