use Rattle.channel_list.proofs.Steps.{steps}
use Rattle.channel_list.proofs.next.Goals as goal

pub returns-then-s-at : goal.returns-then-s-at
returns-then-s-at c = search steps

pub item-requires : goal.item-requires
item-requires c = search steps

pub returns-in-Item : goal.returns-in-Item
returns-in-Item c = search steps

pub returns-in-End : goal.returns-in-End
returns-in-End c = search steps

pub returns-in-Refused : goal.returns-in-Refused
returns-in-Refused c = search steps
