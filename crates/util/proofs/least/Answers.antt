use Rattle.util.proofs.Runs.{least_laws}
use Rattle.util.proofs.least.Goals as goal

pub returns : goal.returns
returns c = search least_laws
