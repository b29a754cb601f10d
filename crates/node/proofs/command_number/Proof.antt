use borrow.Author.Rules.{rules}
use Rattle.node.specs.Word.{command_number}
use Rattle.node.proofs.command_number as f

returns : f.Tie.Need-returns
unfolding command_number
returns c = search rules

pub command_number_spec : {M : Type 1} → f.Statement.statement M
command_number_spec = f.Tie.close (f.Tie.spec (λ c. search rules) returns)
