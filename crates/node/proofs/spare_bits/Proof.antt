use borrow.Author.Rules.{rules}
use Rattle.node.specs.Word.{spare_bits}
use Rattle.node.proofs.spare_bits as f

returns : f.Tie.Need-returns
unfolding spare_bits
returns c = search rules

pub spare_bits_spec : {M : Type 1} → f.Statement.statement M
spare_bits_spec = f.Tie.close (f.Tie.spec returns)
