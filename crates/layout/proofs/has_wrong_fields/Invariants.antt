use Prim.Native.Nat.{◌-◌}
use Rattle.layout.proofs.Fields.{Fitting}
use Rattle.layout.proofs.has_wrong_fields.Given as goal

abbrev pub invariant-loop-word : goal.invariant-loop-word
invariant-loop-word l = Fitting l.nodes l.word-index
