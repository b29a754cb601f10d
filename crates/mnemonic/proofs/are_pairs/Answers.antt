use Rattle.mnemonic.proofs.Pairs.{laws}
use Rattle.mnemonic.proofs.are_pairs.Goals as goal

pub returns-then-x-y : goal.returns-then-x-y
returns-then-x-y g c = search laws

pub returns-then-not-holds : goal.returns-then-not-holds
returns-then-not-holds g c = search laws

pub loop-i-preserved : goal.loop-i-preserved
loop-i-preserved g c = search laws

pub returns : goal.returns
returns g c = search laws
