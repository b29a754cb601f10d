use Rattle.separator.proofs.Separators.{commas}
use Rattle.separator.proofs.comma.Goals as goal

pub returns-then-in_header : goal.returns-then-in_header
returns-then-in_header c = search commas

pub returns-then-stands : goal.returns-then-stands
returns-then-stands c = search commas

pub returns-then-stands-2 : goal.returns-then-stands-2
returns-then-stands-2 c = search commas

pub returns : goal.returns
returns c = search commas
