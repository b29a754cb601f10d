use Rattle.std.proofs.Common.{arith, refl}
use Rattle.report.proofs.Adds.{copied'}
use Rattle.report.proofs.write.Line.add.Goals as goal

pub returns : goal.returns
returns c = ((copied' _ _ _ _ _ (omega arith) (omega arith) c.copy_from_slice.ensures.after, refl), refl)
