use Rattle.layout.proofs.NodeNames.{names_laws}
use Rattle.layout.proofs.has_wrong_name.Goals as goal

pub returns-then-has_bad_name : goal.returns-then-has_bad_name
returns-then-has_bad_name c = search names_laws

pub loop-k-preserved : goal.loop-k-preserved
loop-k-preserved c = search names_laws

pub returns : goal.returns
returns c = search names_laws
