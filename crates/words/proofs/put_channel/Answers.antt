use Rattle.words.proofs.Steps.{channel_laws}
use Rattle.words.proofs.put_channel.Goals as goal

pub returns : goal.returns
returns c = search channel_laws
