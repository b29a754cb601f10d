use Rattle.name.proofs.Laws.{short_laws}
use Rattle.name.proofs.short_end.Goals as goal

pub loop-i-init : goal.loop-i-init
loop-i-init c = search short_laws

pub returns-then-is_small : goal.returns-then-is_small
returns-then-is_small c = search short_laws

pub loop-i-preserved : goal.loop-i-preserved
loop-i-preserved c = search short_laws

pub returns : goal.returns
returns c = search short_laws
