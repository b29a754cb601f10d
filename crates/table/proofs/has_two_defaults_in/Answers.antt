use Rattle.table.proofs.Defaults.{two_laws}
use Rattle.table.proofs.has_two_defaults_in.Goals as goal

pub returns-in-None : goal.returns-in-None
returns-in-None c = search two_laws

pub returns-in-None-default_in : goal.returns-in-None-default_in
returns-in-None-default_in c = search two_laws

pub returns-in-Some-default_in : goal.returns-in-Some-default_in
returns-in-Some-default_in c = search two_laws
