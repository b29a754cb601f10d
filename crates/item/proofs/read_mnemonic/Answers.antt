use Rattle.item.proofs.Words.{laws}
use Rattle.item.proofs.read_mnemonic.Goals as goal

pub overflow_sub-end : goal.overflow_sub-end
overflow_sub-end c = search laws

pub returns-then-end-at-gt-LONGEST_MNEMONIC : goal.returns-then-end-at-gt-LONGEST_MNEMONIC
returns-then-end-at-gt-LONGEST_MNEMONIC c = search laws

pub returns : goal.returns
returns c = search laws
