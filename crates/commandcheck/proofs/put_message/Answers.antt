use Rattle.std.proofs.Common.{arith}
use Rattle.commandcheck.proofs.Laws.{all_in_slots', some_in_slots'}
use Rattle.commandcheck.proofs.put_message.Goals as goal

pub shared_ref_as_front-put_units : goal.shared_ref_as_front-put_units
shared_ref_as_front-put_units c = omega (arith, all_in_slots' _ _ _ _ _ _ _ c.walk-walked.ensures _ c.in-Ok.is)

pub shared_ref_as_front-put_units-in-Err : goal.shared_ref_as_front-put_units-in-Err
shared_ref_as_front-put_units-in-Err c = omega (arith, some_in_slots' _ _ _ _ _ _ _ c.walk-walked.ensures _ c.in-Err.is)
