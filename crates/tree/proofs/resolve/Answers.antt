use Rattle.tree.proofs.Entries.{alone_laws}
use Rattle.tree.proofs.resolve.Goals as goal

pub returns-in_err-check : goal.returns-in_err-check
returns-in_err-check c = search (alone_laws, c.in_err-check.was)

pub returns : goal.returns
returns c = search (alone_laws, c.in_ok-check.was)
