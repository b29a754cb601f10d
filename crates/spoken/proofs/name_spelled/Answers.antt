use Rattle.spoken.proofs.Names.{reached_short', reached_long', name_laws}
use Rattle.spoken.proofs.name_spelled.Goals as goal
use Rattle.spoken.proofs.name_spelled.Goals.{then-has_letter+else-has_letter-2, else-has_letter}

pub letters-p-requires : goal.letters-p-requires
letters-p-requires c = search name_laws

pub overflow_add-place : goal.overflow_add-place
overflow_add-place c = search name_laws

pub letters-q-requires : goal.letters-q-requires
letters-q-requires c = search name_laws

pub overflow_add-place-then-has_letter : goal.overflow_add-place-then-has_letter
overflow_add-place-then-has_letter c = search name_laws

pub bounds-s-place : goal.bounds-s-place
bounds-s-place c = search name_laws

pub returns-then-departs : goal.returns-then-departs
returns-then-departs c = search name_laws

pub tail-requires : goal.tail-requires
tail-requires c =
    elim c.if-has_letter.branch [ then-has_letter+else-has_letter-2 w ↦ search (reached_long', w) | else-has_letter w ↦ search (reached_short', w) ]
