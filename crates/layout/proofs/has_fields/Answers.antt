use Rattle.layout.proofs.Fields.{word_laws}
use Rattle.layout.proofs.has_fields.Goals as goal

pub returns-then-spare_bits-ne0 : goal.returns-then-spare_bits-ne0
returns-then-spare_bits-ne0 c = search word_laws

pub returns-then-is_branch : goal.returns-then-is_branch
returns-then-is_branch c = search word_laws

pub returns : goal.returns
returns c = search word_laws
