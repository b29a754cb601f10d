use Rattle.channel_list.proofs.Steps.{ranges}
use Rattle.channel_list.proofs.specs.Goals as goal

pub returns-then-s-next : goal.returns-then-s-next
returns-then-s-next c = search ranges

pub returns-then-s-next-ne58 : goal.returns-then-s-next-ne58
returns-then-s-next-ne58 c = search ranges

pub returns : goal.returns
returns c = search ranges
