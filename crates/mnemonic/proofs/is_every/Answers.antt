use Rattle.util.proofs.Every.{laws}
use Rattle.mnemonic.proofs.is_every.Goals as goal

pub returns-then-not-has : goal.returns-then-not-has
returns-then-not-has g c = search laws

pub loop-b-preserved : goal.loop-b-preserved
loop-b-preserved g c = search laws

pub returns : goal.returns
returns g c = search laws
