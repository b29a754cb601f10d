use Rattle.items.proofs.Forms.{bares}
use Rattle.items.proofs.no_item.Goals as goal

pub returns-in-End : goal.returns-in-End
returns-in-End c = search bares

pub returns-in-Refused : goal.returns-in-Refused
returns-in-Refused c = search bares

pub returns-in-Token : goal.returns-in-Token
returns-in-Token c = search bares
