use Rattle.spoken.proofs.Fronts.{letters_laws}
use Rattle.spoken.proofs.letters.Goals as goal

pub bounds-name-i : goal.bounds-name-i
bounds-name-i c = search letters_laws

pub overflow_add-at : goal.overflow_add-at
overflow_add-at c = search letters_laws

pub bounds-s-at : goal.bounds-s-at
bounds-s-at c = search letters_laws

pub returns-then-not-is_said : goal.returns-then-not-is_said
returns-then-not-is_said c = search letters_laws

pub loop-i-preserved : goal.loop-i-preserved
loop-i-preserved c = search letters_laws

pub returns : goal.returns
returns c = search letters_laws
