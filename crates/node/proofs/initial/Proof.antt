use Rattle.node.proofs.Laws.{laws}
use Rattle.node.proofs.initial as f

pub initial_spec : {M : Type 1} → f.Statement.statement M
initial_spec = f.Tie.close (f.Tie.spec (λ c κs. search laws) (λ c. search laws) (λ c. search laws) (λ c. search laws))
