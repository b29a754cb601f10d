use borrow.Author.Rules.{rules}
use Rattle.node.specs.Word.{first_child}
use Rattle.node.proofs.first_child as f

returns : f.Tie.Need-returns
unfolding first_child
returns c = search rules

pub first_child_spec : {M : Type 1} → f.Statement.statement M
first_child_spec = f.Tie.close (f.Tie.spec returns)
