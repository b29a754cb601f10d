use Rattle.separator.proofs.Separators.{queries}
use Rattle.separator.proofs.follows_query.Goals as goal

pub returns-then-s-at : goal.returns-then-s-at
returns-then-s-at c = search queries

pub returns-then-s-at-eq59 : goal.returns-then-s-at-eq59
returns-then-s-at-eq59 c = search queries

pub returns : goal.returns
returns c = search queries
