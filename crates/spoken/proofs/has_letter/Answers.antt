use Rattle.spoken.proofs.Bytes.{letter_laws}
use Rattle.spoken.proofs.has_letter.Goals as goal

pub returns-then-s-at : goal.returns-then-s-at
returns-then-s-at c = search letter_laws

pub returns : goal.returns
returns c = search letter_laws
