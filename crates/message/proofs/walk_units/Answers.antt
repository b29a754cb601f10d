use Rattle.message.proofs.Walks.{walk_laws}
use Rattle.message.proofs.walk_units.Goals as goal

pub loop-place-init : goal.loop-place-init
loop-place-init c = search walk_laws

pub returns-then-s-place : goal.returns-then-s-place
returns-then-s-place c = search walk_laws

pub returns-then-sees_end : goal.returns-then-sees_end
returns-then-sees_end c = search walk_laws

pub returns-in-Err : goal.returns-in-Err
returns-in-Err c = search walk_laws

pub returns-then-slots-units : goal.returns-then-slots-units
returns-then-slots-units c = search walk_laws

pub loop-place-preserved : goal.loop-place-preserved
loop-place-preserved c = search walk_laws
