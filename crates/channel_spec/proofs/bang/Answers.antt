use Rattle.channel_spec.proofs.Specs.{laws}
use Rattle.channel_spec.proofs.bang.Goals as goal

pub returns-then-b-eq33 : goal.returns-then-b-eq33
returns-then-b-eq33 c = search laws

pub returns-else-b-eq33 : goal.returns-else-b-eq33
returns-else-b-eq33 c = search laws
