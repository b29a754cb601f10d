use Rattle.mnemonic.proofs.Match.{begin_laws}
use Rattle.mnemonic.proofs.begins_otherwise.Goals as goal

pub returns-then-is_empty : goal.returns-then-is_empty
returns-then-is_empty c = search begin_laws

pub returns-then-is_empty-2 : goal.returns-then-is_empty-2
returns-then-is_empty-2 c = search begin_laws

pub returns : goal.returns
returns c = search begin_laws
