use Rattle.spoken.proofs.Mnemonics.{matched_laws}
use Rattle.spoken.proofs.matched.Goals as goal

pub returns-then-next-at : goal.returns-then-next-at
returns-then-next-at c = search matched_laws

pub slice_bounds-mnemonic_match-end : goal.slice_bounds-mnemonic_match-end
slice_bounds-mnemonic_match-end c = search matched_laws

pub returns-then-mnemonic_match : goal.returns-then-mnemonic_match
returns-then-mnemonic_match c = search matched_laws

pub returns-in-Err : goal.returns-in-Err
returns-in-Err c = search matched_laws

pub returns-else-mnemonic_match : goal.returns-else-mnemonic_match
returns-else-mnemonic_match c = search matched_laws
