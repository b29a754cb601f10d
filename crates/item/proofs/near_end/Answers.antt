use Rattle.item.proofs.Words.{limits}
use Rattle.item.proofs.near_end.Goals as goal

pub returns-then-s-at : goal.returns-then-s-at
returns-then-s-at c = search limits

pub returns-then-s-at-lt-NEAR : goal.returns-then-s-at-lt-NEAR
returns-then-s-at-lt-NEAR c = search limits

pub returns : goal.returns
returns c = search limits
