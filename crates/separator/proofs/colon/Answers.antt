use Rattle.separator.proofs.Separators.{colons}
use Rattle.separator.proofs.colon.Goals as goal

pub returns-then-not-follows_colon : goal.returns-then-not-follows_colon
returns-then-not-follows_colon c = search colons

pub returns-then-not-in_header : goal.returns-then-not-in_header
returns-then-not-in_header c = search colons

pub returns-then-in_common : goal.returns-then-in_common
returns-then-in_common c = search colons

pub returns : goal.returns
returns c = search colons
