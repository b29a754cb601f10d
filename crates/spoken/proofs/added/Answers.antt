use Rattle.spoken.proofs.Bytes.{added_laws}
use Rattle.spoken.proofs.added.Goals as goal

pub returns-then-s-place-ne49 : goal.returns-then-s-place-ne49
returns-then-s-place-ne49 c = search added_laws

pub returns-then-goes_on_at : goal.returns-then-goes_on_at
returns-then-goes_on_at c = search added_laws

pub returns-then-place-at-ge-LONGEST_MNEMONIC : goal.returns-then-place-at-ge-LONGEST_MNEMONIC
returns-then-place-at-ge-LONGEST_MNEMONIC c = search added_laws

pub returns : goal.returns
returns c = search added_laws
