use Rattle.channel_list.proofs.Steps.{ranges}
use Rattle.channel_list.proofs.range.Goals as goal

pub returns-then-end-next : goal.returns-then-end-next
returns-then-end-next c = search ranges

pub returns-then-begin-end : goal.returns-then-begin-end
returns-then-begin-end c = search ranges

pub returns : goal.returns
returns c = search ranges
