use Rattle.channel_list.proofs.Steps.{parts}
use Rattle.channel_list.proofs.begins_spec.Goals as goal

pub returns-then-is_digit : goal.returns-then-is_digit
returns-then-is_digit c = search parts

pub returns : goal.returns
returns c = search parts
