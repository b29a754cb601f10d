use Rattle.item.proofs.Words.{follows}
use Rattle.item.proofs.skip_ws_to_separator.Goals as goal

pub returns-then-ends_data : goal.returns-then-ends_data
returns-then-ends_data c = search follows

pub returns : goal.returns
returns c = search follows
