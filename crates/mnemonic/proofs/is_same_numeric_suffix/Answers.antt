use Rattle.mnemonic.proofs.Match.{suffix_laws}
use Rattle.mnemonic.proofs.is_same_numeric_suffix.Goals as goal

pub returns-then-is_empty-2 : goal.returns-then-is_empty-2
returns-then-is_empty-2 c = search suffix_laws

pub returns-then-is_empty : goal.returns-then-is_empty
returns-then-is_empty c = search suffix_laws

pub returns-then-is_empty-3 : goal.returns-then-is_empty-3
returns-then-is_empty-3 c = search suffix_laws

pub returns : goal.returns
returns c = search suffix_laws
