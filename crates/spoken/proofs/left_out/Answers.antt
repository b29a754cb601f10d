use Rattle.spoken.proofs.Tails.{left_out_laws}
use Rattle.spoken.proofs.left_out.Goals as goal

pub returns-then-from-i : goal.returns-then-from-i
returns-then-from-i c = search left_out_laws

pub returns-then-goes_on_at : goal.returns-then-goes_on_at
returns-then-goes_on_at c = search left_out_laws

pub returns-then-name-i : goal.returns-then-name-i
returns-then-name-i c = search left_out_laws

pub returns-then-name-i-eq49 : goal.returns-then-name-i-eq49
returns-then-name-i-eq49 c = search left_out_laws

pub returns : goal.returns
returns c = search left_out_laws
