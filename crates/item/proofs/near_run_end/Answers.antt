use Rattle.item.proofs.Words.{among}
use Rattle.item.proofs.near_run_end.Goals as goal

pub bounds-s-end : goal.bounds-s-end
bounds-s-end g c = search among

pub returns-then-not-has : goal.returns-then-not-has
returns-then-not-has g c = search among

pub loop-end-preserved : goal.loop-end-preserved
loop-end-preserved g c = search among

pub returns : goal.returns
returns g c = search among
