use Rattle.layout.proofs.NodeNames.{name_laws}
use Rattle.layout.proofs.has_bad_name.Goals as goal

pub returns-then-length-eq0 : goal.returns-then-length-eq0
returns-then-length-eq0 c = search name_laws

pub returns-then-length-gt-LONGEST_NAME : goal.returns-then-length-gt-LONGEST_NAME
returns-then-length-gt-LONGEST_NAME c = search name_laws

pub overflow_add-name_start : goal.overflow_add-name_start
overflow_add-name_start c = search name_laws

pub returns-then-names-name_start : goal.returns-then-names-name_start
returns-then-names-name_start c = search name_laws

pub returns-then-not-is_name : goal.returns-then-not-is_name
returns-then-not-is_name c = search name_laws

pub returns-then-not-stands : goal.returns-then-not-stands
returns-then-not-stands c = search name_laws

pub returns-then-is_branch : goal.returns-then-is_branch
returns-then-is_branch c = search name_laws

pub returns-then-is_default : goal.returns-then-is_default
returns-then-is_default c = search name_laws

pub returns : goal.returns
returns c = search name_laws
