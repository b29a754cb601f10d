use borrow.Author.Rules.{rules}
use Rattle.node.specs.Word.{is_branch}
use Rattle.node.proofs.is_branch as f

returns : f.Tie.Need-returns
unfolding is_branch
returns c = search rules

pub is_branch_spec : {M : Type 1} → f.Statement.statement M
is_branch_spec = f.Tie.close (f.Tie.spec returns)
