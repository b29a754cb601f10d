use Rattle.channel_list.proofs.Steps.{parts}
use Rattle.channel_list.proofs.refused.Goals as goal

pub returns : goal.returns
returns c = search parts
