use borrow.Author.Rules.{rules}
use Rattle.node.specs.Word.{child_count}
use Rattle.node.proofs.child_count as f

returns : f.Tie.Need-returns
unfolding child_count
returns c = search rules

pub child_count_spec : {M : Type 1} → f.Statement.statement M
child_count_spec = f.Tie.close (f.Tie.spec returns)
