use Rattle.message.proofs.Entries.{accepted_laws}
use Rattle.message.proofs.walk_accepted.Goals as goal

pub returns-then-not-is_branch : goal.returns-then-not-is_branch
returns-then-not-is_branch c = search accepted_laws

pub returns-then-s-gt-LONGEST_MESSAGE : goal.returns-then-s-gt-LONGEST_MESSAGE
returns-then-s-gt-LONGEST_MESSAGE c = search accepted_laws

pub returns : goal.returns
returns c = search accepted_laws
