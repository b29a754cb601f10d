use Rattle.layout.proofs.Fields.{root_laws}
use Rattle.layout.proofs.is_root.Goals as goal

pub returns-then-not-is_branch : goal.returns-then-not-is_branch
returns-then-not-is_branch c = search root_laws

pub returns-then-is_default : goal.returns-then-is_default
returns-then-is_default c = search root_laws

pub returns-then-name_length-ne0 : goal.returns-then-name_length-ne0
returns-then-name_length-ne0 c = search root_laws

pub returns : goal.returns
returns c = search root_laws
