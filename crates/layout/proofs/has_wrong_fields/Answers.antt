use Rattle.layout.proofs.Fields.{fields_laws}
use Rattle.layout.proofs.has_wrong_fields.Goals as goal

pub returns-then-is_empty : goal.returns-then-is_empty
returns-then-is_empty c = search fields_laws

pub returns-then-not-is_root : goal.returns-then-not-is_root
returns-then-not-is_root c = search fields_laws

pub returns-then-not-has_fields : goal.returns-then-not-has_fields
returns-then-not-has_fields c = search fields_laws

pub returns : goal.returns
returns c = search fields_laws
