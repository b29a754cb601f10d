use Rattle.channel_spec.proofs.Specs.{laws}
use Rattle.channel_spec.proofs.read_channel_spec.Goals as goal

pub returns-then-not-in_spec : goal.returns-then-not-in_spec
returns-then-not-in_spec c = search laws

pub overflow_add-dimension : goal.overflow_add-dimension
overflow_add-dimension c = search laws

pub loop-end-preserved : goal.loop-end-preserved
loop-end-preserved c = search laws

pub returns : goal.returns
returns c = search laws
