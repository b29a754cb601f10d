use Rattle.separator.proofs.Separators.{colons}
use Rattle.separator.proofs.follows_colon.Goals as goal

pub returns-then-s-at : goal.returns-then-s-at
returns-then-s-at c = search colons

pub returns : goal.returns
returns c = search colons
