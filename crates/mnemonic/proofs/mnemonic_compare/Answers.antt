use Rattle.mnemonic.proofs.Compare.{laws}
use Rattle.mnemonic.proofs.mnemonic_compare.Goals as goal

pub returns-then-mnemonic-n : goal.returns-then-mnemonic-n
returns-then-mnemonic-n c = search laws

pub returns-then-not-are_pairs : goal.returns-then-not-are_pairs
returns-then-not-are_pairs c = search laws

pub returns-then-mnemonic-n-2 : goal.returns-then-mnemonic-n-2
returns-then-mnemonic-n-2 c = search laws

pub returns-then-not-is_every : goal.returns-then-not-is_every
returns-then-not-is_every c = search laws

pub returns : goal.returns
returns c = search laws
