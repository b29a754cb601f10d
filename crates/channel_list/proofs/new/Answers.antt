use Rattle.channel_list.proofs.Steps.{parts}
use Rattle.channel_list.proofs.new.Goals as goal

pub returns-then-not-stands : goal.returns-then-not-stands
returns-then-not-stands c = search parts

pub returns : goal.returns
returns c = search parts
