use Rattle.channel_list.proofs.Steps.{fronts}
use Rattle.channel_list.proofs.item_front.Goals as goal

pub returns-then-s-at-ne44 : goal.returns-then-s-at-ne44
returns-then-s-at-ne44 c = search fronts

pub returns-then-state : goal.returns-then-state
returns-then-state c = search fronts

pub returns-then-s-at : goal.returns-then-s-at
returns-then-s-at c = search fronts

pub returns : goal.returns
returns c = search fronts
