use borrow.Author.Rules.{rules}
use Rattle.node.specs.Word.{is_default}
use Rattle.node.proofs.is_default as f

returns : f.Tie.Need-returns
unfolding is_default
returns c = search rules

pub is_default_spec : {M : Type 1} → f.Statement.statement M
is_default_spec = f.Tie.close (f.Tie.spec returns)
