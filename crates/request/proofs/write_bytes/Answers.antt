use Rattle.request.proofs.Pairs.{laws}
use Rattle.request.proofs.write_bytes.Goals as goal

pub overflow_mul-slot : goal.overflow_mul-slot
overflow_mul-slot c = search laws

pub overflow_add-slot : goal.overflow_add-slot
overflow_add-slot c = search laws

pub loop-i-preserved : goal.loop-i-preserved
loop-i-preserved c = search laws

pub returns : goal.returns
returns c = search laws
