use Rattle.mnemonic.proofs.Split.{laws}
use Rattle.mnemonic.proofs.mnemonic_split_index.Goals as goal

pub loop-i-init : goal.loop-i-init
loop-i-init c = search laws

pub returns-then-not-is_digit : goal.returns-then-not-is_digit
returns-then-not-is_digit c = search laws

pub loop-i-preserved : goal.loop-i-preserved
loop-i-preserved c = search laws

pub returns : goal.returns
returns c = search laws
