use Rattle.std.proofs.Common.{◌≡◌, drop}
use Rattle.mnemonic.specs.Mnemonic.{pairs}
use Rattle.mnemonic.proofs.are_pairs.Given as goal

abbrev pub invariant-loop-i : goal.invariant-loop-i
invariant-loop-i g l = pairs g.R.Relation.relation l.x l.y ≡ pairs g.R.Relation.relation (drop l.i l.x) (drop l.i l.y)
