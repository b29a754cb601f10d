use borrow.Author.Rules.{rules}
use Rattle.node.specs.Word.{name_start}
use Rattle.node.proofs.name_start as f

returns : f.Tie.Need-returns
unfolding name_start
returns c = search rules

pub name_start_spec : {M : Type 1} → f.Statement.statement M
name_start_spec = f.Tie.close (f.Tie.spec returns)
