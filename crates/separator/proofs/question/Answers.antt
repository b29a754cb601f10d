use Rattle.separator.proofs.Separators.{queries}
use Rattle.separator.proofs.question.Goals as goal

pub returns-then-not-follows_query : goal.returns-then-not-follows_query
returns-then-not-follows_query c = search queries

pub returns-then-not-in_header : goal.returns-then-not-in_header
returns-then-not-in_header c = search queries

pub returns : goal.returns
returns c = search queries
