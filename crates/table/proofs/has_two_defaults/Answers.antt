use Rattle.table.proofs.Defaults.{single_laws}
use Rattle.table.proofs.has_two_defaults.Goals as goal

pub returns-then-has_two_defaults_in : goal.returns-then-has_two_defaults_in
returns-then-has_two_defaults_in c = search single_laws

pub returns : goal.returns
returns c = search single_laws
