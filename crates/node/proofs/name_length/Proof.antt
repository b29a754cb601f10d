use borrow.Author.Rules.{rules}
use Rattle.node.specs.Word.{name_length}
use Rattle.node.proofs.name_length as f

returns : f.Tie.Need-returns
unfolding name_length
returns c = search rules

pub name_length_spec : {M : Type 1} → f.Statement.statement M
name_length_spec = f.Tie.close (f.Tie.spec returns)
