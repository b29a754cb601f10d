use Rattle.channel_spec.proofs.Specs.{walks}
use Rattle.channel_spec.proofs.refused.Goals as goal

pub returns : goal.returns
returns c = search walks
