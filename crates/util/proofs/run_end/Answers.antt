use Rattle.util.proofs.Runs.{laws}
use Rattle.util.proofs.run_end.Goals as goal

pub returns-then-not-has : goal.returns-then-not-has
returns-then-not-has g c = search laws

pub loop-i-preserved : goal.loop-i-preserved
loop-i-preserved g c = search laws

pub returns : goal.returns
returns g c = search laws
