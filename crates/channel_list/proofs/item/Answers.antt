use Rattle.channel_list.proofs.Steps.{arms}
use Rattle.channel_list.proofs.item.Goals as goal

pub returns-then-begins_spec : goal.returns-then-begins_spec
returns-then-begins_spec c = search arms

pub returns-in-34 : goal.returns-in-34
returns-in-34 c = search arms

pub returns-in_default : goal.returns-in_default
returns-in_default c = search arms
