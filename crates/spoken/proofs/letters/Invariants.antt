use Rattle.spoken.proofs.Fronts.{Gone}
use Rattle.spoken.proofs.letters.Given as goal

abbrev pub invariant-loop-i : goal.invariant-loop-i
invariant-loop-i l = Gone l.small l.name l.s l.at l.from l.i
