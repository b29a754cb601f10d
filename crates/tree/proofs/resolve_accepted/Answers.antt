use Rattle.tree.proofs.Entries.{accepted_laws}
use Rattle.tree.proofs.resolve_accepted.Goals as goal

pub returns-then-not-is_branch : goal.returns-then-not-is_branch
returns-then-not-is_branch c = search accepted_laws

pub returns-then-s-gt-LONGEST_MESSAGE : goal.returns-then-s-gt-LONGEST_MESSAGE
returns-then-s-gt-LONGEST_MESSAGE c = search accepted_laws

pub returns-in_err-header : goal.returns-in_err-header
returns-in_err-header c = search (accepted_laws, c.in_err-header.was)

pub returns : goal.returns
returns c = search (accepted_laws, c.in_ok-header.was)
